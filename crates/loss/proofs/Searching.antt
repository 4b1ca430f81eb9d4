-- One pass over the rows for each condition: what it finds is the row that serves, and what the offer then is.
use Rattle.std.proofs.Common.{◌≡◌, ℕ, ◌<◌, ◌≤◌, Bool, true, false, cond, not, ◌&&◌, eqb, ltb, List, length, set, sym, refl, ap, subst}
use Rattle.std.proofs.Common.{true≢false, arith, ltb-false, ltb-true, eq-eqb, ne_eqb}
use lib.Seq.{set-get_or}
use Rattle.std.proofs.Common.{Option, Some, None, take, position, ◌∙◌}
use Rattle.loss.specs.Loss.{row_at, no_row, free, of_teid, used_of, serving}
use Rattle.loss.specs.Loss.{started, counted, arrival_of, distance, offered, offer_at, offer}
use Rattle.loss.specs.declared.Row.{Row}
use Rattle.loss.proofs.Lowest.{IsLowest, lowest-is, is-lowest, position-lowest}

pub used_le : (n : ℕ) → (used_of n ≤ n) × (used_of n ≤ 256)
unfolding used_of
used_le n = go (ltb 256 n) refl
  where
    go : (t : Bool) → ltb 256 n ≡ t → (cond t 256 n ≤ n) × (cond t 256 n ≤ 256)
    go true e = let h = ltb-true 256 n e in omega arith
    go false e = let h = ltb-false 256 n e in omega arith

-- the first position among the rows that are used is the lowest row
pub found : (meets : Row → Bool) (rows : List Row) (n : ℕ) (f : Option ℕ) → n ≡ used_of (length rows) → f ≡ position meets (take n rows)
    → IsLowest meets rows (used_of (length rows)) f
found meets rows n f q e =
    let h : n ≤ length rows = omega (arith, used_le (length rows)) in
    subst (λ (k : ℕ). IsLowest meets rows k f) q
    (subst (λ (g : Option ℕ). IsLowest meets rows n g) (sym (e ∙ position-lowest meets rows n h)) (lowest-is meets rows n))

pub own-used : (teid : ℕ) (r : Row) → of_teid teid r ≡ true → free r ≡ false
own-used teid r e = go (free r) e
  where
    go : (z : Bool) → (not z && eqb r.teid teid) ≡ true → z ≡ false
    go true e = absurd (true≢false (sym e))
    go false e = refl

-- no row before i meets a condition
abbrev pub NoneBefore : (meets : Row → Bool) (rows : List Row) (i : ℕ) → Type 0
NoneBefore meets rows i = (j : ℕ) → j < i → meets (row_at rows j) ≡ false

module _ (rows : List Row) (teid number : ℕ) where
  abbrev n : ℕ
  n = used_of (length rows)

  -- a row of the TEID serves
  own_serves : (i : ℕ) → i < n → of_teid teid (row_at rows i) ≡ true → NoneBefore (of_teid teid) rows i → serving rows teid ≡ Some i
  unfolding serving
  own_serves i h e none = rw (is-lowest (of_teid teid) rows n (Some i) (h, e, none))

  -- a free row serves
  free_serves : (i : ℕ) → i < n → free (row_at rows i) ≡ true → NoneBefore free rows i → NoneBefore (of_teid teid) rows n
      → serving rows teid ≡ Some i
  unfolding serving
  free_serves i h e none others =
      rw (is-lowest (of_teid teid) rows n None others, is-lowest free rows n (Some i) (h, e, none))

  -- none does
  none_serves : NoneBefore free rows n → NoneBefore (of_teid teid) rows n → serving rows teid ≡ None
  unfolding serving
  none_serves none others = rw (is-lowest (of_teid teid) rows n None others, is-lowest free rows n None none)

  pub offer-full : (i : ℕ) → i < n → of_teid teid (row_at rows i) ≡ true → NoneBefore (of_teid teid) rows i
      → (row_at rows i).seen ≡ 4294967295 → (26, rows) ≡ offer rows teid number
  unfolding offer offer_at offered
  offer-full i h e none f =
      rw (own_serves i h e none, own-used teid (row_at rows i) e, eq-eqb (row_at rows i).seen 4294967295 f)
      (ap (λ (l : List Row). (26, l)) (sym (set-get_or rows i no_row)))

  pub offer-counted : (i : ℕ) → i < n → of_teid teid (row_at rows i) ≡ true → NoneBefore (of_teid teid) rows i
      → ((row_at rows i).seen ≡ 4294967295 → ⊥) → (r : Row)
      → r ≡ counted (row_at rows i) number (arrival_of (distance number (row_at rows i).highest)) → (0, set rows i r)
      ≡ offer rows teid number
  unfolding offer offer_at offered
  offer-counted i h e none f r k =
      rw (own_serves i h e none, own-used teid (row_at rows i) e, ne_eqb (row_at rows i).seen 4294967295 f)
      (ap (λ (x : Row). (0, set rows i x)) k)

  pub offer-started : (i : ℕ) → i < n → free (row_at rows i) ≡ true → NoneBefore free rows i → NoneBefore (of_teid teid) rows n
      → (r : Row) → r ≡ started teid number → (0, set rows i r) ≡ offer rows teid number
  unfolding offer offer_at offered
  offer-started i h e none others r k = rw (free_serves i h e none others, e) (ap (λ (x : Row). (0, set rows i x)) k)

  pub offer-none : NoneBefore free rows n → NoneBefore (of_teid teid) rows n → (25, rows) ≡ offer rows teid number
  unfolding offer offer_at
  offer-none none others = rw (none_serves none others)
