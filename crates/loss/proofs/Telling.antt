-- The second saying of an offer (specs/Told.antt) is the definition: both ways, for every row whose number has 16 bits.
use Rattle.std.proofs.Common.{◌≡◌, ℕ, ◌+◌, ◌-◌, ◌%◌, ◌<◌, ◌≤◌, Bool, true, false, cond, not, ◌&&◌, eqb, ltb, List, length, set, sym, refl}
use Rattle.std.proofs.Common.{ap, ◌∙◌, subst, ⊎_elim, true≢false, eq-or-lt_of_le, arith, ltb-false, ltb-true, eq-eqb, ne_eqb, eqb-true}
use borrow.Author.Tests.{eqb-false}
use Rattle.std.proofs.Common.{Option, Some, None}
use Rattle.loss.specs.Loss.{signed_of, distance, Arrival, New, Repeated, Late, arrival_of, counted, started}
use Rattle.loss.specs.Loss.{row_at, free, of_teid, used_of, lowest, offer}
use Rattle.loss.specs.Told.{Holds, LowestOwn, NoOwn, Fits, Told, Answers}
use Rattle.loss.specs.declared.Row.{Row}
use Rattle.std.proofs.lemmas.Bool.{cases_lt, cases_eq}
use Rattle.loss.proofs.Distances.{new_at, repeated_at, late_at}
use Rattle.loss.proofs.Lowest.{lowest_at, lowest-none}
use Rattle.loss.proofs.Searching.{NoneBefore, offer-none, offer-full, offer-counted, offer-started}

-- CONDITIONS AS TESTS

pub holds : (teid : ℕ) (r : Row) → of_teid teid r ≡ true → Holds teid r
holds teid r e = go (eqb r.seen 0) (eqb r.teid teid) refl refl e
  where
    go : (z w : Bool) → eqb r.seen 0 ≡ z → eqb r.teid teid ≡ w → (not z && w) ≡ true → Holds teid r
    go false true p q e = let n = eqb-false r.seen 0 p in (positive r.seen n, eqb-true r.teid teid q)
      where
        positive : (k : ℕ) → (k ≡ 0 → ⊥) → 0 < k
        positive k n = ⊎_elim (λ h. h) (λ l. absurd (n (omega arith))) (cases_lt 0 k)
    go false false p q e = absurd (true≢false (sym e))
    go true w p q e = absurd (true≢false (sym e))

pub held : (teid : ℕ) (r : Row) → Holds teid r → of_teid teid r ≡ true
held teid r h = rw (ne_eqb r.seen 0 (λ e. let l = h.0 in omega arith), eq-eqb r.teid teid h.1)

not_held : (teid : ℕ) (r : Row) → (Holds teid r → ⊥) → of_teid teid r ≡ false
not_held teid r n = go (of_teid teid r) refl
  where
    go : (z : Bool) → of_teid teid r ≡ z → z ≡ false
    go true e = absurd (n (holds teid r e))
    go false e = refl

in_use : (r : Row) → 0 < r.seen → free r ≡ false
in_use r h = ne_eqb r.seen 0 (λ e. omega arith)

used_seen : (r : Row) → free r ≡ false → 0 < r.seen
used_seen r e = ⊎_elim (λ h. h) (λ l. absurd (eqb-false r.seen 0 e (omega arith))) (cases_lt 0 r.seen)

below : (n i : ℕ) → (i < n) × (i < 256) → i < used_of n
unfolding used_of
below n i h = go (ltb 256 n)
  where
    go : (t : Bool) → i < cond t 256 n
    go true = h.1
    go false = h.0

used : (n i : ℕ) → i < used_of n → (i < n) × (i < 256)
unfolding used_of
used n i = go (ltb 256 n) refl
  where
    go : (t : Bool) → ltb 256 n ≡ t → i < cond t 256 n → (i < n) × (i < 256)
    go true e h = let l = ltb-true 256 n e in (omega (arith, h), h)
    go false e h = let l = ltb-false 256 n e in (h, omega (arith, h))

-- WHAT ARRIVES, BY PLAIN NUMBERS

module _ (number highest : ℕ) (small : number < 65536) (fits : highest < 65536) where
  abbrev d : ℕ
  d = (number + 65536 - highest) % 65536

  pub new_is : (k : ℕ) → k ≤ 32766 → (highest + k + 1) % 65536 ≡ number → arrival_of (distance number highest) ≡ New k
  unfolding distance
  new_is k h e =
      let s : d ≡ k + 1 = omega arith in
      let t : d - 1 ≡ k = omega arith in
      new_at d (omega arith) (omega arith) (omega arith) ∙ ap New t

  pub repeated-is : number ≡ highest → arrival_of (distance number highest) ≡ Repeated
  unfolding distance
  repeated-is e = repeated_at d (omega arith) (omega arith)

  pub late_is : (k : ℕ) → 1 ≤ k → k ≤ 32768 → (number + k) % 65536 ≡ highest → arrival_of (distance number highest) ≡ Late
  unfolding distance
  late_is k h l e = late_at d (omega arith) (omega arith)

-- TOLD, SO COUNTED; COUNTED, SO TOLD

pub told-counted : (r r' : Row) (number : ℕ) → number < 65536 → r.highest < 65536 → Told r number r'
    → r' ≡ counted r number (arrival_of (distance number r.highest))
unfolding counted
told-counted r r' number small fits (Told.is_new k h e) = rw (new_is number r.highest small fits k h e)
told-counted r r' number small fits (Told.is_repeated e) = rw (repeated-is number r.highest small fits e)
told-counted r r' number small fits (Told.is_late k h l e) = rw (late_is number r.highest small fits k h l e)

pub told_of : (r : Row) (number : ℕ) → number < 65536 → r.highest < 65536
    → Told r number (counted r number (arrival_of (distance number r.highest)))
unfolding counted distance
told_of r number small h =
    ⊎_elim (λ z. by_arrival Repeated (repeated_at d (omega arith) (omega arith)) (Told.is_repeated (omega arith)))
    (λ p. ⊎_elim (λ l. by_arrival (New (d - 1)) (new_at d (omega arith) p l) (Told.is_new (d - 1) (omega arith) (omega arith)))
    (λ l. by_arrival Late (late_at d (omega arith) l) (Told.is_late (65536 - d) (omega arith) (omega arith) (omega arith)))
    (cases_lt d 32768))
    (cases_lt d 1)
  where
    d : ℕ
    d = (number + 65536 - r.highest) % 65536

    by_arrival : (a : Arrival) → arrival_of (signed_of d) ≡ a → Told r number (counted r number a)
        → Told r number (counted r number (arrival_of (signed_of d)))
    by_arrival a e t = subst (λ (x : Arrival). Told r number (counted r number x)) (sym e) t

module _ (rows : List Row) (teid number : ℕ) (small : number < 65536) (fits : Fits rows) where
  abbrev n : ℕ
  n = used_of (length rows)

  none-own : NoOwn rows teid → NoneBefore (of_teid teid) rows n
  none-own none = λ j h. not_held teid (row_at rows j) (none j (used (length rows) j h))

  none_before : (i : ℕ) → LowestOwn rows teid i → NoneBefore (of_teid teid) rows i
  none_before i low = λ j h. not_held teid (row_at rows j) (low.lowest j h)

  pub answers-offer : (a : ℕ) (rows' : List Row) → Answers rows teid number a rows' → (a, rows') ≡ offer rows teid number
  unfolding started
  answers-offer a rows' (Answers.counts i r low room told) =
      offer-counted rows teid number i (below (length rows) i low.used) (held teid (row_at rows i) low.holds) (none_before i low)
      (λ e. omega arith) r (told-counted (row_at rows i) r number small (fits i).0 told)
  answers-offer a rows' (Answers.begins i none here empty before) =
      offer-started rows teid number i (below (length rows) i here) (eq-eqb (row_at rows i).seen 0 empty)
      (λ j h. in_use (row_at rows j) (before j h)) (none-own none) _ refl
  answers-offer a rows' (Answers.none_free none busy) =
      offer-none rows teid number (λ j h. in_use (row_at rows j) (busy j (used (length rows) j h))) (none-own none)
  answers-offer a rows' (Answers.is_full i low e) =
      offer-full rows teid number i (below (length rows) i low.used) (held teid (row_at rows i) low.holds) (none_before i low) e

  -- the answer that an equation gives
  given : (a : ℕ) (rows' : List Row) → Answers rows teid number a rows'
      → Answers rows teid number (offer rows teid number).0 (offer rows teid number).1
  given a rows' told = subst (λ (o : ℕ × List Row). Answers rows teid number o.0 o.1) (answers-offer a rows' told) told

  pub offer-answers : Answers rows teid number (offer rows teid number).0 (offer rows teid number).1
  offer-answers = go (lowest (of_teid teid) rows n) (lowest free rows n) refl refl
    where
      no_own : lowest (of_teid teid) rows n ≡ None → NoOwn rows teid
      no_own p j u h = true≢false (sym (held teid (row_at rows j) h) ∙ lowest-none (of_teid teid) rows n p j (below (length rows) j u))

      go : (t f : Option ℕ) → lowest (of_teid teid) rows n ≡ t → lowest free rows n ≡ f
          → Answers rows teid number (offer rows teid number).0 (offer rows teid number).1
      go (Some i) f p q =
          ⊎_elim (λ e. given _ _ (Answers.is_full i low e)) (λ e. given _ _ (counted_at (fewer e)))
          (cases_eq (row_at rows i).seen 4294967295)
        where
          low : LowestOwn rows teid i
          low =
              let a = lowest_at (of_teid teid) rows n i p in
              record {
                used = used (length rows) i a.0;
                holds = holds teid (row_at rows i) a.1;
                lowest = λ j h k. true≢false (sym (held teid (row_at rows j) k) ∙ a.2 j h);
              }

          fewer : ((row_at rows i).seen ≡ 4294967295 → ⊥) → (row_at rows i).seen < 4294967295
          fewer n =
              let w = (fits i).1 in
              let h : (row_at rows i).seen ≤ 4294967295 = omega arith in
              ⊎_elim (λ e. absurd (n e)) (λ l. l) (eq-or-lt_of_le h)

          counted_at : (row_at rows i).seen < 4294967295
              → Answers rows teid number 0
              (set rows i (counted (row_at rows i) number (arrival_of (distance number (row_at rows i).highest))))
          counted_at h = Answers.counts i _ low h (told_of (row_at rows i) number small (fits i).0)
      go None (Some i) p q =
          let a = lowest_at free rows n i q in
          given _ _ (Answers.begins i (no_own p) (used (length rows) i a.0) (eqb-true (row_at rows i).seen 0 a.1)
          (λ j h. used_seen (row_at rows j) (a.2 j h)))
      go None None p q =
          given _ _ (Answers.none_free (no_own p)
          (λ j u. used_seen (row_at rows j) (lowest-none free rows n q j (below (length rows) j u))))
