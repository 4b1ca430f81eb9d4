-- One offer: it stores at the place that serves and nowhere else; a refusal changes nothing; rows past the 256th are neither read nor
-- changed.
use Rattle.std.proofs.Common.{◌≡◌, ℕ, zero, suc, ◌<◌, ◌≤◌, Bool, true, false, cond, not, ◌&&◌, eqb, ltb, ◌⊎◌, List, [], ◌∷◌, ◌++◌, length}
use Rattle.std.proofs.Common.{set, sym, refl, ap, ◌∙◌, subst, inl, inr, ⊎_elim, true≢false, arith, length-append, length-set}
use Rattle.std.proofs.Common.{get_or-set_other, get_or-set_same, ltb-false, eqb-true}
use lib.ListN.{get_or-append}
use lib.Seq.{set-get_or}
use Rattle.rules.specs.Answer.{packed_fields}
use Rattle.std.proofs.Common.{Option, Some, None}
use Rattle.loss.specs.Loss.{row_at, no_row, free, full, of_teid, used_of, or_else, lowest, serving}
use Rattle.loss.specs.Loss.{started, counted, arrival_of, distance, offered, offer_at, offer}
use Rattle.loss.specs.History.{Offer, history}
use Rattle.loss.specs.declared.Row.{Row}
use Rattle.loss.proofs.Lowest.{lowest_at}
use Rattle.loss.proofs.Searching.{used_le}

-- WHAT A ROW THAT SERVES IS

-- it is used by the TEID, or free
abbrev pub Fit : (teid : ℕ) → Row → Type 0
Fit teid r = (of_teid teid r ≡ true) ⊎ (free r ≡ true)

module _ (rows : List Row) (teid : ℕ) where
  pub served_place : (i : ℕ) → serving rows teid ≡ Some i → (i < used_of (length rows)) × Fit teid (row_at rows i)
  unfolding serving
  served_place i e = go (lowest (of_teid teid) rows n) (lowest free rows n) refl refl e
    where
      n : ℕ
      n = used_of (length rows)

      at_i : (meets : Row → Bool) (k : ℕ) → lowest meets rows n ≡ Some k → Some k ≡ Some i → (i < n) × (meets (row_at rows i) ≡ true)
      at_i meets k p q = let a = lowest_at meets rows n i (p ∙ q) in (a.0, a.1)

      go : (t f : Option ℕ) → lowest (of_teid teid) rows n ≡ t → lowest free rows n ≡ f → or_else t f ≡ Some i → (i < n)
          × Fit teid (row_at rows i)
      go (Some k) f p q e = let a = at_i (of_teid teid) k p e in (a.0, inl a.1)
      go None (Some k) p q e = let a = at_i free k q e in (a.0, inr a.1)
      go None None p q e = absurd (nothing_at i e)
        where
          nothing_at : (i : ℕ) → None ≡ Some i → ⊥
          nothing_at i e = true≢false (ap (λ (f : Option ℕ). is-none f) e)
            where
              is-none : Option ℕ → Bool
              is-none None = true
              is-none (Some k) = false

  pub inside : (i : ℕ) → serving rows teid ≡ Some i → i < length rows
  inside i e = let h = (served_place i e).0 in let u = used_le (length rows) in omega arith

  module _ (number : ℕ) where
    -- the row at place i is stored anew, and the answer is that row's
    pub stores : (i : ℕ) → serving rows teid ≡ Some i
        → offer rows teid number ≡ ((offered (row_at rows i) teid number).0, set rows i (offered (row_at rows i) teid number).1)
    unfolding offer offer_at
    stores i e = rw e

    pub refuses : serving rows teid ≡ None → offer rows teid number ≡ (25, rows)
    unfolding offer offer_at
    refuses e = rw e

    abbrev after : List Row
    after = (offer rows teid number).1

    by_place : (P : ℕ × List Row → Type 0) → (serving rows teid ≡ None → P (25, rows))
        → ((i : ℕ) → serving rows teid ≡ Some i
        → P ((offered (row_at rows i) teid number).0, set rows i (offered (row_at rows i) teid number).1))
        → P (offer rows teid number)
    by_place P none some = go (serving rows teid) refl
      where
        go : (f : Option ℕ) → serving rows teid ≡ f → P (offer rows teid number)
        go (Some i) e = subst P (sym (stores i e)) (some i e)
        go None e = subst P (sym (refuses e)) (none e)

    pub same_length : length after ≡ length rows
    same_length = by_place (λ (o : ℕ × List Row). length o.1 ≡ length rows) (λ _. refl) (λ i e. length-set rows i _)

    pub served_row : (i : ℕ) → serving rows teid ≡ Some i → row_at after i ≡ (offered (row_at rows i) teid number).1
    served_row i e = ap (λ (o : ℕ × List Row). row_at o.1 i) (stores i e) ∙ get_or-set_same rows i _ no_row (inside i e)

    -- every other row is untouched
    pub other_row : (j : ℕ) → (serving rows teid ≡ Some j → ⊥) → row_at after j ≡ row_at rows j
    other_row j other =
        by_place (λ (o : ℕ × List Row). row_at o.1 j ≡ row_at rows j) (λ _. refl)
        (λ i e. get_or-set_other rows i j _ no_row (λ (same : j ≡ i). other (e ∙ ap Some (sym same))))

    -- a row of another TEID is untouched
    pub other-teid : (j other : ℕ) → of_teid other (row_at rows j) ≡ true → (other ≡ teid → ⊥) → row_at after j ≡ row_at rows j
    other-teid j other own differ = other_row j (λ e. ⊎_elim
        (λ mine. differ (both (row_at rows j) own mine))
        (λ empty. true≢false (sym (not_free (row_at rows j) own) ∙ ap not empty))
        (served_place j e).1)
      where
        teid_of : (k : ℕ) (r : Row) → of_teid k r ≡ true → r.teid ≡ k
        teid_of k r e = eqb-true r.teid k (second (not (free r)) (eqb r.teid k) e)
          where
            second : (a b : Bool) → (a && b) ≡ true → b ≡ true
            second true b e = e
            second false b e = absurd (true≢false (sym e))

        both : (r : Row) → of_teid other r ≡ true → of_teid teid r ≡ true → other ≡ teid
        both r a b = sym (teid_of other r a) ∙ teid_of teid r b

        not_free : (r : Row) → of_teid other r ≡ true → not (free r) ≡ true
        not_free r e = first (not (free r)) (eqb r.teid other) e
          where
            first : (a b : Bool) → (a && b) ≡ true → a ≡ true
            first true b e = refl
            first false b e = absurd (true≢false (sym e))

-- A REFUSAL CHANGES NOTHING

pub offered_stays : (r : Row) (teid number : ℕ) → ((offered r teid number).0 ≡ 0 → ⊥) → (offered r teid number).1 ≡ r
unfolding offered
offered_stays r teid number = go (free r) (full r)
  where
    counts : ℕ × Row
    counts = (0, counted r number (arrival_of (distance number r.highest)))

    go : (z w : Bool) → let o : ℕ × Row = cond z (0, started teid number) (cond w (26, r) counts) in (o.0 ≡ 0 → ⊥) → o.1 ≡ r
    go true w n = absurd (n refl)
    go false true n = refl
    go false false n = absurd (n refl)

pub refused_stays : (rows : List Row) (teid number : ℕ) → ((offer rows teid number).0 ≡ 0 → ⊥) → (offer rows teid number).1 ≡ rows
refused_stays rows teid number =
    by_place rows teid number (λ (o : ℕ × List Row). (o.0 ≡ 0 → ⊥) → o.1 ≡ rows) (λ _ _. refl)
    (λ i _ n. ap (λ (r : Row). set rows i r) (offered_stays (row_at rows i) teid number n) ∙ set-get_or rows i no_row)

-- THE ANSWER

offered-answer : (r : Row) (teid number : ℕ) → ((offered r teid number).0 ≡ 0) ⊎ ((offered r teid number).0 ≡ 26)
unfolding offered
offered-answer r teid number = go (free r) (full r)
  where
    counts : ℕ × Row
    counts = (0, counted r number (arrival_of (distance number r.highest)))

    go : (z w : Bool) → let o : ℕ × Row = cond z (0, started teid number) (cond w (26, r) counts) in (o.0 ≡ 0) ⊎ (o.0 ≡ 26)
    go true w = inl refl
    go false true = inr refl
    go false false = inl refl

-- it is 0, 25 or 26
pub one_answer : (rows : List Row) (teid number : ℕ)
    → ((offer rows teid number).0 ≡ 0) ⊎ (((offer rows teid number).0 ≡ 25) ⊎ ((offer rows teid number).0 ≡ 26))
one_answer rows teid number =
    by_place rows teid number (λ (o : ℕ × List Row). (o.0 ≡ 0) ⊎ ((o.0 ≡ 25) ⊎ (o.0 ≡ 26))) (λ _. inr (inl refl))
    (λ i _. ⊎_elim (λ e. inl e) (λ e. inr (inr e)) (offered-answer (row_at rows i) teid number))

-- and in the packed form of the calls: ICMP fields and length are 0
pub answer-packed : (rows : List Row) (teid number : ℕ) → (offer rows teid number).0 ≡ packed_fields (offer rows teid number).0 0 0 0 0
answer-packed rows teid number = omega arith

-- ROWS PAST THE 256TH

module _ (rows more : List Row) where
  set_front : (front : List Row) (i : ℕ) (r : Row) → i < length front → set (front ++ more) i r ≡ set front i r ++ more
  set_front [] i r h = absurd (omega arith)
  set_front (x ∷ xs) zero r h = refl
  set_front (x ∷ xs) (suc i) r h = ap (λ (l : List Row). x ∷ l) (set_front xs i r (omega arith))

  row_front : (i : ℕ) → i < length rows → row_at (rows ++ more) i ≡ row_at rows i
  row_front i h = get_or-append rows more no_row i h

  lowest_front : (meets : Row → Bool) (n : ℕ) → n ≤ length rows → lowest meets (rows ++ more) n ≡ lowest meets rows n
  unfolding lowest
  lowest_front meets zero h = refl
  lowest_front meets (suc i) h = rw (lowest_front meets i (omega arith), row_front i (omega arith)) refl

  module _ (whole : length rows ≡ 256) where
    used_front : used_of (length (rows ++ more)) ≡ used_of (length rows)
    unfolding used_of
    used_front = go (ltb 256 (length (rows ++ more))) refl ∙ sym (here (ltb 256 (length rows)))
      where
        long : 256 ≤ length (rows ++ more)
        long = let e = length-append rows more in omega arith

        go : (t : Bool) → ltb 256 (length (rows ++ more)) ≡ t → cond t 256 (length (rows ++ more)) ≡ 256
        go true e = refl
        go false e = let h = ltb-false 256 (length (rows ++ more)) e in let k : length (rows ++ more) ≡ 256 = omega (arith, long) in k

        here : (t : Bool) → cond t 256 (length rows) ≡ 256
        here true = refl
        here false = whole

    serving_front : (teid : ℕ) → serving (rows ++ more) teid ≡ serving rows teid
    unfolding serving
    serving_front teid =
        let n = used_of (length rows) in
        let u = used_le (length rows) in
        rw (used_front, lowest_front (of_teid teid) n u.0, lowest_front free n u.0) refl

    -- what follows 256 rows is neither read nor changed
    pub past-unused : (teid number : ℕ) → offer (rows ++ more) teid number
        ≡ ((offer rows teid number).0, (offer rows teid number).1 ++ more)
    past-unused teid number = go (serving rows teid) refl
      where
        Both : ℕ × List Row → Type 0
        Both o = offer (rows ++ more) teid number ≡ (o.0, o.1 ++ more)

        go : (f : Option ℕ) → serving rows teid ≡ f → Both (offer rows teid number)
        go None e = subst Both (sym (refuses rows teid number e)) (refuses (rows ++ more) teid number (serving_front teid ∙ e))
        go (Some i) e =
            let within = inside rows teid i e in
            subst Both (sym (stores rows teid number i e))
            (stores (rows ++ more) teid number i (serving_front teid ∙ e)
            ∙ rw (row_front i within) (ap (λ (l : List Row). ((offered (row_at rows i) teid number).0, l)) (set_front rows i _ within)))

-- the same over a history
pub past-unused_ever : (rows more : List Row) (xs : List Offer) → length rows ≡ 256 → history (rows ++ more) xs ≡ history rows xs ++ more
unfolding history
past-unused_ever rows more [] whole = refl
past-unused_ever rows more (x ∷ xs) whole =
    ap (λ (o : ℕ × List Row). history o.1 xs) (past-unused rows more whole x.teid x.number)
    ∙ past-unused_ever (offer rows x.teid x.number).1 more xs (same_length rows x.teid x.number ∙ whole)
