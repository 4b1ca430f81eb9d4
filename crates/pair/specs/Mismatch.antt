-- Whether tables fit, as a number: 0, or the first condition that fails. Its place in bits 0 to 7; where an entry of the far table, or
-- of the waypoint's, is concerned, the kind of record (entry) in bits 8 to 15 and the entry's index in bits 16 to 31, as in a fault.
use Rattle.std.specs.Prelude.{Bool, cond, List, ℕ, ◌-◌, eqb, ltb, length, Option, Some, None}
use Rattle.rules.specs.Assigned.{end, end_m_gtp6d_di, end_m_gtp6e, end_m_gtp4e}
use Rattle.rules.specs.Table.{entries, rules, entry_at, rule_at}
use Rattle.rules.specs.Entry as Entry
use Rattle.rules.specs.Rule as Rule
use Rattle.rules.specs.Policy as Policy
use Rattle.rules.specs.Sound.{sound}
use Rattle.rules.specs.Fault.{told, entry_record}
use Rattle.rules.specs.Match.{match_entry}
use Rattle.reach.specs.Reach.{reach6, reach4}
use Rattle.pair.specs.Fit.{policy_in}

-- a condition's number where it does not hold, and else what is said behind it
abbrev pub unless : (holds : Bool) (number behind : ℕ) → ℕ
unless holds number behind = cond holds behind number

-- NEAR AND FAR

-- 6 to 12, of near entry e with its policy and far entry f
abbrev pub between6 : (e policy f : List ℕ) → ℕ
between6 e policy f =
    unless (eqb (Entry.behaviour f) end_m_gtp6e) 6
    (unless (eqb (Entry.direction f) (Entry.direction e)) 7
    (unless (eqb (Entry.session f) (Entry.session e)) 8
    (unless (eqb (Entry.start f) (Policy.start policy)) 9
    (unless (ltb (Policy.sid_count policy - 1) (Entry.hop_limit e)) 12 0))))

-- the same of near rule r and far entry f
abbrev pub between4 : (r f : List ℕ) → ℕ
between4 r f =
    unless (eqb (Entry.behaviour f) end_m_gtp4e) 6
    (unless (eqb (Entry.direction f) (Rule.direction r)) 7
    (unless (eqb (Entry.session f) (Rule.session r)) 8
    (unless (eqb (Entry.p f) (Rule.p r)) 10
    (unless (eqb (Entry.q f) (Rule.q r)) 11
    (unless (ltb (Rule.waypoint_count r) (Rule.hop_limit r)) 12 0)))))

-- 5: no entry is reached; else what is said of the entry that is
abbrev pub at_reached : (between : ℕ → ℕ) → Option ℕ → ℕ
at_reached between None = 5
at_reached between (Some j) = told entry_record j (between j)

abbrev pub at_far6 : (e policy far : List ℕ) → ℕ
at_far6 e policy far =
    at_reached (λ j. between6 e policy (entry_at far j)) (reach6 far (Entry.direction e) (Policy.last_sid policy) (Policy.start policy))

abbrev pub at_far4 : (r far : List ℕ) → ℕ
at_far4 r far = at_reached (λ j. between4 r (entry_at far j)) (reach4 far r)

-- 1 and 2: the tables are sound; 3: entry i exists; 4: it is Di
unfoldable pub mismatch6 : (near far : List ℕ) (i : ℕ) → ℕ
mismatch6 near far i =
    unless (sound near) 1
    (unless (sound far) 2
    (unless (ltb i (entries near)) 3
    (unless (eqb (Entry.behaviour (entry_at near i)) end_m_gtp6d_di) 4
    (at_far6 (entry_at near i) (policy_in near i) far))))

unfoldable pub mismatch4 : (near far : List ℕ) (k : ℕ) → ℕ
mismatch4 near far k =
    unless (sound near) 1
    (unless (sound far) 2
    (unless (ltb k (rules near)) 3
    (at_far4 (rule_at near k) far)))

-- A WAYPOINT

-- 15: no entry matches; 16: the longest match is a waypoint entry
abbrev pub at_matched : (t : List ℕ) → Option ℕ → ℕ
at_matched t None = 15
at_matched t (Some i) = told entry_record i (unless (eqb (Entry.behaviour (entry_at t i)) end) 16 0)

-- 13: the table is sound; 14: the SID has sixteen octets
unfoldable pub mismatch_waypoint : (t sid : List ℕ) → ℕ
mismatch_waypoint t sid = unless (sound t) 13 (unless (eqb (length sid) 16) 14 (at_matched t (match_entry t sid)))
