-- Every mismatch says what its number says: where each condition in turn holds the next is asked, and where it does not its number is told.
use mathlib.Core.Path.{◌≡◌, refl}
use mathlib.Core.Bool.{Bool, true, false}
use mathlib.Core.List.{List}
use Prim.Native.Nat.{ℕ, suc, ◌-◌, ◌<◌}
use native.Mathlib.Omega.{arith}
use lib.Dec.{eqb, ltb}
use lib.ListN.{length}
use borrow.Author.Tests.{eqb-true, eqb-false, ltb-true, ltb-false, ne_eqb}
use Rattle.rules.specs.Octets.{Octets}
use Rattle.rules.specs.Assigned.{end, end_m_gtp6d_di, end_m_gtp6e, end_m_gtp4e}
use Rattle.rules.specs.Table.{entries, rules, entry_at, rule_at}
use Rattle.rules.specs.Entry as Entry
use Rattle.rules.specs.Rule as Rule
use Rattle.rules.specs.Policy as Policy
use Rattle.rules.specs.Sound.{sound}
use Rattle.rules.specs.Fault.{told, entry_record}
use Rattle.rules.specs.Match.{match_entry}
use Rattle.std.specs.Prelude.{Option, Some, None}
use Rattle.rules.proofs.Paths.{addresses_at-length}
use Rattle.reach.specs.Reach.{own_args, reach6, reach4}
use Rattle.reach.proofs.Own.{own_writable}
use Rattle.reach.proofs.Reached.{prefix-octets, reach_matches_own6, reach_none6, reach_matches_own4, reach_none4, rule_args}
use Rattle.reach.proofs.Reached.{rule_destination, args_writable, destination-under}
use Rattle.pair.specs.Fit.{policy_in}
use Rattle.pair.specs.Mismatch.{unless, between6, between4, at_reached, mismatch6, mismatch4, at_matched, mismatch_waypoint}
use Rattle.pair.specs.Says.{naming, Asked6, Leads6, Says6, fit6, near_unsound6, far_unsound6, no_record6, not_di6, no_entry6}
use Rattle.pair.specs.Says.{kind6, direction6, session6, start6, hop_limit6}
use Rattle.pair.specs.Says.{Leads4, Says4, fit4, near_unsound4, far_unsound4, no_record4, no_entry4, kind4, direction4}
use Rattle.pair.specs.Says.{session4, p4, q4, hop_limit4}
use Rattle.pair.specs.Says.{SaysWaypoint, fit_at, unsound_at, size_at, no_entry_at, kind_at}
use Rattle.pair.proofs.Fitting.{between_fits6, between_fits4, di-policy, sid_octets, sid_size, rule-octets, rule-p}

-- ONE CONDITION

-- what is said where it fails, and where it holds
asked : (P : ℕ → Type 0) (b : Bool) (number behind : ℕ) → (b ≡ false → P number) → (b ≡ true → P behind) → P (unless b number behind)
asked P true number behind fails goes_on = goes_on refl
asked P false number behind fails goes_on = fails refl

found : (P : ℕ → Type 0) (between : ℕ → ℕ) (f : Option ℕ) → (f ≡ None → P 5) → ((j : ℕ) → f ≡ Some j
    → P (told entry_record j (between j))) → P (at_reached between f)
found P between None none at = none refl
found P between (Some j) none at = at j refl

-- the number of a condition with an entry, and of none
named : (condition j : ℕ) → told entry_record j (suc condition) ≡ naming (suc condition) j
unfolding told
named condition j = rw (ne_eqb (suc condition) 0 (λ e. omega arith)) refl

none : (j : ℕ) → told entry_record j 0 ≡ 0
unfolding told
none j = refl

-- OVER IPV6

module _ (near far : List ℕ) (i : ℕ) (on : Octets near) (of : Octets far) where
  abbrev e : List ℕ
  e = entry_at near i

  abbrev policy : List ℕ
  policy = policy_in near i

  leads6 : (a : Asked6 near far i) (j : ℕ)
      → reach6 far (Entry.direction e) (Policy.last_sid policy) (Policy.start policy) ≡ Some j → Leads6 near far i j
  leads6 a j r = record {
    asked = a;
    args = own_args (Entry.direction e) (Entry.prefix (entry_at far j)) (Policy.start policy);
    writable = own_writable (Entry.direction e) (Entry.prefix (entry_at far j)) (Policy.start policy) (prefix-octets far of j);
    matches = reach_matches_own6 far (Entry.direction e) (Policy.last_sid policy) (Policy.start policy) of a.far_sound
        (sid_octets near on i)
        (sid_size near on i) (di-policy near i a.near_sound a.exists a.enters).start j r;
  }

  -- 6 to 12
  said6 : (a : Asked6 near far i) (j : ℕ) → reach6 far (Entry.direction e) (Policy.last_sid policy) (Policy.start policy) ≡ Some j
      → Says6 near far i (told entry_record j (between6 e policy (entry_at far j)))
  said6 a j r =
      let f = entry_at far j in
      let m = leads6 a j r in
      let P : ℕ → Type 0 = λ x. Says6 near far i (told entry_record j x) in
      asked P (eqb (Entry.behaviour f) end_m_gtp6e) 6 _ (λ h. kind6 j (named 5 j) m (eqb-false _ _ h))
      (λ h₆. asked P (eqb (Entry.direction f) (Entry.direction e)) 7 _
      (λ h. direction6 j (named 6 j)
      (record {
        leads = m;
        leaves = eqb-true _ _ h₆;
        direction = λ l. absurd (omega arith);
        session = λ l. absurd (omega arith);
        start = λ l. absurd (omega arith);
      })
      (eqb-false _ _ h))
      (λ h₇. asked P (eqb (Entry.session f) (Entry.session e)) 8 _
      (λ h. session6 j (named 7 j)
      (record {
        leads = m;
        leaves = eqb-true _ _ h₆;
        direction = λ l. eqb-true _ _ h₇;
        session = λ l. absurd (omega arith);
        start = λ l. absurd (omega arith);
      })
      (eqb-false _ _ h))
      (λ h₈. asked P (eqb (Entry.start f) (Policy.start policy)) 9 _
      (λ h. start6 j (named 8 j)
      (record {
        leads = m;
        leaves = eqb-true _ _ h₆;
        direction = λ l. eqb-true _ _ h₇;
        session = λ l. eqb-true _ _ h₈;
        start = λ l. absurd (omega arith);
      })
      (eqb-false _ _ h))
      (λ h₉. asked P (ltb (Policy.sid_count policy - 1) (Entry.hop_limit e)) 12 0
      (λ h. hop_limit6 j (named 11 j)
      (record {
        leads = m;
        leaves = eqb-true _ _ h₆;
        direction = λ l. eqb-true _ _ h₇;
        session = λ l. eqb-true _ _ h₈;
        start = λ l. eqb-true _ _ h₉;
      })
      (rw (addresses_at-length policy 16 (Policy.sid_count policy - 1)) (ltb-false _ _ h)))
      (λ h₁₂. fit6 (none j) j
      (between_fits6 near far i on of j a.near_sound a.far_sound a.exists a.enters r (rw (h₆, h₇, h₈, h₉, h₁₂) refl)))))))

  pub says6 : Says6 near far i (mismatch6 near far i)
  unfolding mismatch6
  says6 =
      asked (Says6 near far i) (sound near) 1 _ (λ h. near_unsound6 refl h)
      (λ h₁. asked (Says6 near far i) (sound far) 2 _ (λ h. far_unsound6 refl h₁ h)
      (λ h₂. asked (Says6 near far i) (ltb i (entries near)) 3 _ (λ h. no_record6 refl h₁ h₂ (ltb-false _ _ h))
      (λ h₃. asked (Says6 near far i) (eqb (Entry.behaviour e) end_m_gtp6d_di) 4 _
      (λ h. not_di6 refl h₁ h₂ (ltb-true _ _ h₃) (eqb-false _ _ h))
      (λ h₄. let a : Asked6 near far i = record { near_sound = h₁; far_sound = h₂; exists = ltb-true _ _ h₃; enters = eqb-true _ _ h₄ } in
      found (Says6 near far i) (λ j. between6 e policy (entry_at far j))
      (reach6 far (Entry.direction e) (Policy.last_sid policy) (Policy.start policy))
      (λ n. no_entry6 refl a
      (reach_none6 far (Entry.direction e) (Policy.last_sid policy) (Policy.start policy) of h₂ (sid_octets near on i) (sid_size near on i)
      (di-policy near i h₁ a.exists a.enters).start n))
      (said6 a)))))

-- OVER IPV4

module _ (near far : List ℕ) (k : ℕ) (on : Octets near) (of : Octets far) where
  abbrev r : List ℕ
  r = rule_at near k

  leads4 : sound near ≡ true → sound far ≡ true → k < rules near → (j : ℕ) → reach4 far r ≡ Some j → Leads4 near far k j
  leads4 sn sf l j e =
      let or = rule-octets near on k in
      let hp = rule-p near k sn l in
      record {
        near_sound = sn;
        far_sound = sf;
        exists = l;
        destination = rule_destination far r j;
        under = destination-under far r of sf or hp j;
        args = rule_args far r j;
        writable = args_writable far r of sf or hp j;
        matches = reach_matches_own4 far r of sf or hp j e;
      }

  said4 : sound near ≡ true → sound far ≡ true → k < rules near → (j : ℕ) → reach4 far r ≡ Some j
      → Says4 near far k (told entry_record j (between4 r (entry_at far j)))
  said4 sn sf l j e =
      let f = entry_at far j in
      let m = leads4 sn sf l j e in
      let P : ℕ → Type 0 = λ x. Says4 near far k (told entry_record j x) in
      asked P (eqb (Entry.behaviour f) end_m_gtp4e) 6 _ (λ h. kind4 j (named 5 j) m (eqb-false _ _ h))
      (λ h₆. asked P (eqb (Entry.direction f) (Rule.direction r)) 7 _
      (λ h. direction4 j (named 6 j)
      (record {
        leads = m;
        leaves = eqb-true _ _ h₆;
        direction = λ l. absurd (omega arith);
        session = λ l. absurd (omega arith);
        p = λ l. absurd (omega arith);
        q = λ l. absurd (omega arith);
      })
      (eqb-false _ _ h))
      (λ h₇. asked P (eqb (Entry.session f) (Rule.session r)) 8 _
      (λ h. session4 j (named 7 j)
      (record {
        leads = m;
        leaves = eqb-true _ _ h₆;
        direction = λ l. eqb-true _ _ h₇;
        session = λ l. absurd (omega arith);
        p = λ l. absurd (omega arith);
        q = λ l. absurd (omega arith);
      })
      (eqb-false _ _ h))
      (λ h₈. asked P (eqb (Entry.p f) (Rule.p r)) 10 _
      (λ h. p4 j (named 9 j)
      (record {
        leads = m;
        leaves = eqb-true _ _ h₆;
        direction = λ l. eqb-true _ _ h₇;
        session = λ l. eqb-true _ _ h₈;
        p = λ l. absurd (omega arith);
        q = λ l. absurd (omega arith);
      })
      (eqb-false _ _ h))
      (λ h₁₀. asked P (eqb (Entry.q f) (Rule.q r)) 11 _
      (λ h. q4 j (named 10 j)
      (record {
        leads = m;
        leaves = eqb-true _ _ h₆;
        direction = λ l. eqb-true _ _ h₇;
        session = λ l. eqb-true _ _ h₈;
        p = λ l. eqb-true _ _ h₁₀;
        q = λ l. absurd (omega arith);
      })
      (eqb-false _ _ h))
      (λ h₁₁. asked P (ltb (Rule.waypoint_count r) (Rule.hop_limit r)) 12 0
      (λ h. hop_limit4 j (named 11 j)
      (record {
        leads = m;
        leaves = eqb-true _ _ h₆;
        direction = λ l. eqb-true _ _ h₇;
        session = λ l. eqb-true _ _ h₈;
        p = λ l. eqb-true _ _ h₁₀;
        q = λ l. eqb-true _ _ h₁₁;
      })
      (rw (addresses_at-length r 48 (Rule.waypoint_count r)) (ltb-false _ _ h)))
      (λ h₁₂. fit4 (none j) j (between_fits4 near far k on of j sn sf l e (rw (h₆, h₇, h₈, h₁₀, h₁₁, h₁₂) refl))))))))

  pub says4 : Says4 near far k (mismatch4 near far k)
  unfolding mismatch4
  says4 =
      asked (Says4 near far k) (sound near) 1 _ (λ h. near_unsound4 refl h)
      (λ h₁. asked (Says4 near far k) (sound far) 2 _ (λ h. far_unsound4 refl h₁ h)
      (λ h₂. asked (Says4 near far k) (ltb k (rules near)) 3 _ (λ h. no_record4 refl h₁ h₂ (ltb-false _ _ h))
      (λ h₃. let l : k < rules near = ltb-true _ _ h₃ in
      found (Says4 near far k) (λ j. between4 r (entry_at far j)) (reach4 far r)
      (λ n. no_entry4 refl h₁ h₂ l (reach_none4 far r of h₂ (rule-octets near on k) (rule-p near k h₁ l) n))
      (said4 h₁ h₂ l))))

-- AT A WAYPOINT

module _ (t sid : List ℕ) where
  said_matched : sound t ≡ true → length sid ≡ 16 → (f : Option ℕ) → match_entry t sid ≡ f → SaysWaypoint t sid (at_matched t f)
  said_matched s l None m = no_entry_at refl s l m
  said_matched s l (Some i) m =
      asked (λ x. SaysWaypoint t sid (told entry_record i x)) (eqb (Entry.behaviour (entry_at t i)) end) 16 0
      (λ h. kind_at i (named 15 i) s l m (eqb-false _ _ h))
      (λ h. fit_at (none i) i (record { table_sound = s; size = l; matches = m; kind = eqb-true _ _ h }))

  pub says_waypoint : SaysWaypoint t sid (mismatch_waypoint t sid)
  unfolding mismatch_waypoint
  says_waypoint =
      asked (SaysWaypoint t sid) (sound t) 13 _ (λ h. unsound_at refl h)
      (λ s. asked (SaysWaypoint t sid) (eqb (length sid) 16) 14 _ (λ h. size_at refl s (eqb-false _ _ h))
      (λ l. said_matched s (eqb-true _ _ l) (match_entry t sid) refl))
