-- The lowest row that meets a condition: it meets it, and no row before it does.
use Rattle.std.proofs.Common.{◌≡◌, ℕ, zero, suc, ◌<◌, ◌≤◌, Bool, true, false, cond, List, sym, refl, ap, ◌∙◌, subst, ⊎_elim}
use Rattle.std.proofs.Common.{true≢false, eq-or-lt_of_le, arith}
use Rattle.std.proofs.Common.{Option, Some, None, length, take, position, get_or, ltb, ltb-true, ltb-false}
use Rattle.std.specs.List.{position_or_len}
use Rattle.std.proofs.lemmas.Bool.{cases_order}
use Rattle.std.proofs.lemmas.List.Sums.{passes_at_first, fails_before_first}
use lib.Seq.{length-take-le, get_or-take}
use Rattle.loss.specs.Loss.{no_row, row_at, lowest, or_else}
use Rattle.loss.specs.declared.Row.{Row}

module _ (meets : Row → Bool) (rows : List Row) where
  -- what a place below n, or none, has to be
  abbrev pub IsLowest : (n : ℕ) → Option ℕ → Type 0
  IsLowest n (Some i) = (i < n) × (meets (row_at rows i) ≡ true) × ((j : ℕ) → j < i → meets (row_at rows j) ≡ false)
  IsLowest n None = (j : ℕ) → j < n → meets (row_at rows j) ≡ false

  one_more : (i : ℕ) (found : Option ℕ) (b : Bool) → meets (row_at rows i) ≡ b → IsLowest i found
      → IsLowest (suc i) (or_else found (cond b (Some i) None))
  one_more i (Some k) b e p = (omega (arith, p.0), p.1, p.2)
  one_more i None true e p = (omega arith, e, p)
  one_more i None false e p = λ j h. ⊎_elim
      (λ same. subst (λ (k : ℕ). meets (row_at rows k) ≡ false) (sym same) e)
      (λ less. p j less)
      (eq-or-lt_of_le (let k : j ≤ i = omega arith in k))

  pub lowest-is : (n : ℕ) → IsLowest n (lowest meets rows n)
  unfolding lowest
  lowest-is zero = λ j h. absurd (omega arith)
  lowest-is (suc i) = one_more i (lowest meets rows i) (meets (row_at rows i)) refl (lowest-is i)

  -- the same, of a place that is known
  pub lowest_at : (n i : ℕ) → lowest meets rows n ≡ Some i → IsLowest n (Some i)
  lowest_at n i e = subst (λ (f : Option ℕ). IsLowest n f) e (lowest-is n)

  pub lowest-none : (n : ℕ) → lowest meets rows n ≡ None → IsLowest n None
  lowest-none n e = subst (λ (f : Option ℕ). IsLowest n f) e (lowest-is n)

  -- and there is no other
  pub only_lowest : (n : ℕ) (f g : Option ℕ) → IsLowest n f → IsLowest n g → f ≡ g
  only_lowest n (Some i) (Some k) p q =
      ⊎_elim (λ e. ap Some e)
      (λ l. absurd (⊎_elim (λ (a : i < k). true≢false (sym p.1 ∙ q.2 i a)) (λ (b : k < i). true≢false (sym q.1 ∙ p.2 k b)) l))
      (cases_order i k)
  only_lowest n (Some i) None p q = absurd (true≢false (sym p.1 ∙ q i p.0))
  only_lowest n None (Some k) p q = absurd (true≢false (sym q.1 ∙ p k q.0))
  only_lowest n None None p q = refl

  pub is-lowest : (n : ℕ) (f : Option ℕ) → IsLowest n f → lowest meets rows n ≡ f
  is-lowest n f p = only_lowest n (lowest meets rows n) f (lowest-is n) p

-- the first place in a part that meets the condition
pub position-lowest : (meets : Row → Bool) (rows : List Row) (n : ℕ) → n ≤ length rows
    → position meets (take n rows) ≡ lowest meets rows n
position-lowest meets rows n h = sym (is-lowest meets rows n (position meets (take n rows)) (go (ltb k (length part)) refl))
  where
    part : List Row
    part = take n rows

    k : ℕ
    k = position_or_len meets part

    all : length part ≡ n
    all = length-take-le n rows h

    below : (j : ℕ) → j < n → get_or part j no_row ≡ row_at rows j
    below j l = get_or-take n rows j no_row l

    go : (b : Bool) → ltb k (length part) ≡ b → IsLowest meets rows n (cond b (Some k) None)
    go true e =
        let l = ltb-true k (length part) e in
        let m : k < n = omega (arith, all) in (
          m,
          ap meets (sym (below k m)) ∙ passes_at_first meets part no_row l,
          λ j q. ap meets (sym (below j (let t : j < n = omega arith in t))) ∙ fails_before_first meets part j no_row q,
        )
    go false e = λ j q.
        let l = ltb-false k (length part) e in
        ap meets (sym (below j q)) ∙ fails_before_first meets part j no_row (omega (arith, all))
