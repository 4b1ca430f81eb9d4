-- What a mismatch says, a second time: each number in plain terms, apart from the test. The conditions before it hold, it does not, and an
-- entry of the far table that is named is the longest match for some Args that can be written, over IPv4 for some destination too.
use Rattle.std.specs.Prelude.{◌≡◌, ◌≢◌, true, false, List, ℕ, ◌+◌, ◌*◌, ◌≤◌, ◌<◌, length, Some, None}
use Rattle.rules.specs.Table.{entries, rules, entry_at, rule_at}
use Rattle.rules.specs.Entry as Entry
use Rattle.rules.specs.Rule as Rule
use Rattle.rules.specs.Policy as Policy
use Rattle.rules.specs.Sound.{sound}
use Rattle.rules.specs.Match.{match_entry}
use Rattle.rules.specs.Args.{Args}
use Rattle.rules.specs.D.{last_with_args}
use Rattle.reach.specs.Reach.{Writable, Under, rule_sid}
use Rattle.pair.specs.Fit.{policy_in, Fits6, Fits4, FitsWaypoint}

-- a condition, with entry j named: 2 in bits 8 to 15 is the kind of record, an entry
abbrev pub naming : (condition j : ℕ) → ℕ
naming condition j = condition + 2 * 256 + 65536 * j

-- OVER IPV6

-- the tables are sound, and entry i of the near table is Di
pub record Asked6 (near far : List ℕ) (i : ℕ) : Type 0 where
  pub near_sound : sound near ≡ true
  pub far_sound : sound far ≡ true
  pub exists : i < entries near
  pub enters : Entry.behaviour (entry_at near i) ≡ 70

-- some Args lead to entry j of the far table
pub record Leads6 (near far : List ℕ) (i j : ℕ) : Type 0 where
  pub asked : Asked6 near far i
  pub args : Args
  pub writable : Writable (Entry.direction (entry_at near i)) args
  pub matches : match_entry far (last_with_args (policy_in near i) args) ≡ Some j

-- entry j is E6, and of direction, session type and start of Args so many are those of the near entry and its policy
pub record Same6 (near far : List ℕ) (i j count : ℕ) : Type 0 where
  pub leads : Leads6 near far i j
  pub leaves : Entry.behaviour (entry_at far j) ≡ 71
  pub direction : 1 ≤ count → Entry.direction (entry_at far j) ≡ Entry.direction (entry_at near i)
  pub session : 2 ≤ count → Entry.session (entry_at far j) ≡ Entry.session (entry_at near i)
  pub start : 3 ≤ count → Entry.start (entry_at far j) ≡ Policy.start (policy_in near i)

pub data Says6 (near far : List ℕ) (i mismatch : ℕ) : Type 0 where
  fit6 : mismatch ≡ 0 → (j : ℕ) → Fits6 near far i j → Says6 near far i mismatch
  near_unsound6 : mismatch ≡ 1 → sound near ≡ false → Says6 near far i mismatch
  far_unsound6 : mismatch ≡ 2 → sound near ≡ true → sound far ≡ false → Says6 near far i mismatch
  no_record6 : mismatch ≡ 3 → sound near ≡ true → sound far ≡ true → entries near ≤ i → Says6 near far i mismatch
  not_di6 : mismatch ≡ 4 → sound near ≡ true → sound far ≡ true → i < entries near → Entry.behaviour (entry_at near i) ≢ 70
      → Says6 near far i mismatch
  no_entry6 : mismatch ≡ 5 → Asked6 near far i
      → ((x : Args) → Writable (Entry.direction (entry_at near i)) x → match_entry far (last_with_args (policy_in near i) x) ≡ None)
      → Says6 near far i mismatch
  kind6 : (j : ℕ) → mismatch ≡ naming 6 j → Leads6 near far i j → Entry.behaviour (entry_at far j) ≢ 71 → Says6 near far i mismatch
  direction6 : (j : ℕ) → mismatch ≡ naming 7 j → Same6 near far i j 0
      → Entry.direction (entry_at far j) ≢ Entry.direction (entry_at near i) → Says6 near far i mismatch
  session6 : (j : ℕ) → mismatch ≡ naming 8 j → Same6 near far i j 1
      → Entry.session (entry_at far j) ≢ Entry.session (entry_at near i) → Says6 near far i mismatch
  start6 : (j : ℕ) → mismatch ≡ naming 9 j → Same6 near far i j 2
      → Entry.start (entry_at far j) ≢ Policy.start (policy_in near i) → Says6 near far i mismatch
  hop_limit6 : (j : ℕ) → mismatch ≡ naming 12 j → Same6 near far i j 3
      → Entry.hop_limit (entry_at near i) ≤ length (Policy.waypoints (policy_in near i)) → Says6 near far i mismatch

-- OVER IPV4

-- some destination and some Args lead to entry j of the far table
pub record Leads4 (near far : List ℕ) (k j : ℕ) : Type 0 where
  pub near_sound : sound near ≡ true
  pub far_sound : sound far ≡ true
  pub exists : k < rules near
  pub destination : List ℕ
  pub under : Under (rule_at near k) destination
  pub args : Args
  pub writable : Writable (Rule.direction (rule_at near k)) args
  pub matches : match_entry far (rule_sid (rule_at near k) destination args) ≡ Some j

-- entry j is E4, and of direction, session type, p and q so many are the rule's
pub record Same4 (near far : List ℕ) (k j count : ℕ) : Type 0 where
  pub leads : Leads4 near far k j
  pub leaves : Entry.behaviour (entry_at far j) ≡ 72
  pub direction : 1 ≤ count → Entry.direction (entry_at far j) ≡ Rule.direction (rule_at near k)
  pub session : 2 ≤ count → Entry.session (entry_at far j) ≡ Rule.session (rule_at near k)
  pub p : 3 ≤ count → Entry.p (entry_at far j) ≡ Rule.p (rule_at near k)
  pub q : 4 ≤ count → Entry.q (entry_at far j) ≡ Rule.q (rule_at near k)

pub data Says4 (near far : List ℕ) (k mismatch : ℕ) : Type 0 where
  fit4 : mismatch ≡ 0 → (j : ℕ) → Fits4 near far k j → Says4 near far k mismatch
  near_unsound4 : mismatch ≡ 1 → sound near ≡ false → Says4 near far k mismatch
  far_unsound4 : mismatch ≡ 2 → sound near ≡ true → sound far ≡ false → Says4 near far k mismatch
  no_record4 : mismatch ≡ 3 → sound near ≡ true → sound far ≡ true → rules near ≤ k → Says4 near far k mismatch
  no_entry4 : mismatch ≡ 5 → sound near ≡ true → sound far ≡ true → k < rules near
      → ((d : List ℕ) (x : Args) → Under (rule_at near k) d → Writable (Rule.direction (rule_at near k)) x
      → match_entry far (rule_sid (rule_at near k) d x) ≡ None)
      → Says4 near far k mismatch
  kind4 : (j : ℕ) → mismatch ≡ naming 6 j → Leads4 near far k j → Entry.behaviour (entry_at far j) ≢ 72 → Says4 near far k mismatch
  direction4 : (j : ℕ) → mismatch ≡ naming 7 j → Same4 near far k j 0
      → Entry.direction (entry_at far j) ≢ Rule.direction (rule_at near k) → Says4 near far k mismatch
  session4 : (j : ℕ) → mismatch ≡ naming 8 j → Same4 near far k j 1
      → Entry.session (entry_at far j) ≢ Rule.session (rule_at near k) → Says4 near far k mismatch
  p4 : (j : ℕ) → mismatch ≡ naming 10 j → Same4 near far k j 2 → Entry.p (entry_at far j) ≢ Rule.p (rule_at near k)
      → Says4 near far k mismatch
  q4 : (j : ℕ) → mismatch ≡ naming 11 j → Same4 near far k j 3 → Entry.q (entry_at far j) ≢ Rule.q (rule_at near k)
      → Says4 near far k mismatch
  hop_limit4 : (j : ℕ) → mismatch ≡ naming 12 j → Same4 near far k j 4
      → Rule.hop_limit (rule_at near k) ≤ length (Rule.waypoints (rule_at near k)) → Says4 near far k mismatch

-- AT A WAYPOINT

pub data SaysWaypoint (t sid : List ℕ) (mismatch : ℕ) : Type 0 where
  fit_at : mismatch ≡ 0 → (i : ℕ) → FitsWaypoint t sid i → SaysWaypoint t sid mismatch
  unsound_at : mismatch ≡ 13 → sound t ≡ false → SaysWaypoint t sid mismatch
  size_at : mismatch ≡ 14 → sound t ≡ true → length sid ≢ 16 → SaysWaypoint t sid mismatch
  no_entry_at : mismatch ≡ 15 → sound t ≡ true → length sid ≡ 16 → match_entry t sid ≡ None → SaysWaypoint t sid mismatch
  kind_at : (i : ℕ) → mismatch ≡ naming 16 i → sound t ≡ true → length sid ≡ 16 → match_entry t sid ≡ Some i
      → Entry.behaviour (entry_at t i) ≢ 1 → SaysWaypoint t sid mismatch
