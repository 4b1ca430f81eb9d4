-- What the counts of a row say, over every history from free rows.
use Rattle.std.proofs.Common.{◌≡◌, ℕ, suc, ◌+◌, ◌-◌, ◌*◌, ◌%◌, ◌^◌, ◌<◌, ◌≤◌, ◌⊎◌, List, [], ◌∷◌, sym, refl, ap, ◌∙◌, subst, inl, inr}
use Rattle.std.proofs.Common.{⊎_elim, mod-eq_of_lt, eq-or-lt_of_le, arith, eq-eqb, ne_eqb}
use Rattle.std.proofs.Common.{Option, Some, None}
use Rattle.loss.specs.Loss.{arrival_of, distance, counted, started, row_at, serving, offered, offer}
use Rattle.loss.specs.Told.{Told}
use Rattle.loss.specs.History.{Offer, history, Numbers, AllFree, Counts}
use Rattle.loss.specs.declared.Row.{Row}
use Rattle.std.proofs.lemmas.Bool.{cases_eq}
use Rattle.loss.proofs.Telling.{told_of}
use Rattle.loss.proofs.Offers.{served_row, other_row}

-- what holds of a used row, with the bounds that keep its counts from wrapping
pub record Kept (r : Row) : Type 0 where
  pub total : r.seen ≡ r.new + r.repeated + r.late
  pub span : (r.first + r.new - 1 + r.lost) % 65536 ≡ r.highest
  pub some_new : 1 ≤ r.new
  pub lost_small : r.lost ≤ r.new * 32766
  pub seen_small : r.seen ≤ 4294967295
  pub highest_small : r.highest < 65536

abbrev pub Fine : Row → Type 0
Fine r = (r.seen ≡ 0) ⊎ Kept r

onward : (s highest k number : ℕ) → s % 65536 ≡ highest → (highest + k + 1) % 65536 ≡ number → (s + k + 1) % 65536 ≡ number
onward s highest k number e f = omega arith

module _ (r : Row) (kept : Kept r) (number : ℕ) (room : r.seen < 4294967295) (small : number < 65536) where
  pub new-fits : (r.new + 1) % 2 ^ 32 ≡ r.new + 1
  new-fits = let t = kept.total in mod-eq_of_lt (omega arith)

  pub lost_fits : (k : ℕ) → k ≤ 32766 → (r.lost + k) % 2 ^ 64 ≡ r.lost + k
  lost_fits k h = let t = kept.total in let l = kept.lost_small in mod-eq_of_lt (omega arith)

  wide : (k : ℕ) → k ≤ 32766
      → r.first + (r.new + 1) % 2 ^ 32 - 1 + (r.lost + k) % 2 ^ 64 ≡ r.first + r.new - 1 + r.lost + k + 1
  wide k h = let n = kept.some_new in rw (new-fits, lost_fits k h) (omega arith)

  kept_told : (r' : Row) → Told r number r' → Kept r'
  kept_told r' (Told.is_new k h e) =
      let t = kept.total in
      let l = kept.lost_small in
      let f = lost_fits k h in
      let g = new-fits in
      record {
        total = omega arith;
        span = ap (λ (n : ℕ). n % 65536) (wide k h) ∙ onward _ r.highest k number kept.span e;
        some_new = omega arith;
        lost_small = omega arith;
        seen_small = omega arith;
        highest_small = small;
      }
  kept_told r' (Told.is_repeated e) =
      let t = kept.total in
      record {
        total = omega arith;
        span = kept.span;
        some_new = kept.some_new;
        lost_small = kept.lost_small;
        seen_small = omega arith;
        highest_small = kept.highest_small;
      }
  kept_told r' (Told.is_late k h l e) =
      let t = kept.total in
      record {
        total = omega arith;
        span = kept.span;
        some_new = kept.some_new;
        lost_small = kept.lost_small;
        seen_small = omega arith;
        highest_small = kept.highest_small;
      }

  pub kept_counted : Kept (counted r number (arrival_of (distance number r.highest)))
  kept_counted = kept_told _ (told_of r number small kept.highest_small)

pub kept_started : (teid number : ℕ) → number < 65536 → Kept (started teid number)
unfolding started
kept_started teid number small = record {
  total = refl;
  span = omega arith;
  some_new = omega arith;
  lost_small = omega arith;
  seen_small = omega arith;
  highest_small = small;
}

-- THE ROW OFFERED TO, BY ITS THREE CASES

module _ (r : Row) (teid number : ℕ) where
  pub offered-free : r.seen ≡ 0 → offered r teid number ≡ (0, started teid number)
  unfolding offered
  offered-free e = rw (eq-eqb r.seen 0 e)

  pub offered-full : r.seen ≡ 4294967295 → offered r teid number ≡ (26, r)
  unfolding offered
  offered-full e = rw (ne_eqb r.seen 0 (λ z. omega arith), eq-eqb r.seen 4294967295 e)

  pub offered-counted : (r.seen ≡ 0 → ⊥) → (r.seen ≡ 4294967295 → ⊥)
      → offered r teid number ≡ (0, counted r number (arrival_of (distance number r.highest)))
  unfolding offered
  offered-counted n f = rw (ne_eqb r.seen 0 n, ne_eqb r.seen 4294967295 f)

  pub by_case : (P : ℕ × Row → Type 0) → (r.seen ≡ 0 → P (0, started teid number)) → (r.seen ≡ 4294967295 → P (26, r))
      → ((r.seen ≡ 0 → ⊥) → (r.seen ≡ 4294967295 → ⊥) → P (0, counted r number (arrival_of (distance number r.highest))))
      → P (offered r teid number)
  by_case P empty whole counts =
      ⊎_elim (λ e. subst P (sym (offered-free e)) (empty e))
      (λ n. ⊎_elim (λ e. subst P (sym (offered-full e)) (whole e)) (λ f. subst P (sym (offered-counted n f)) (counts n f))
      (cases_eq r.seen 4294967295))
      (cases_eq r.seen 0)

pub below-full : (r : Row) → Kept r → (r.seen ≡ 4294967295 → ⊥) → r.seen < 4294967295
below-full r kept n = ⊎_elim (λ e. absurd (n e)) (λ l. l) (eq-or-lt_of_le kept.seen_small)

pub fine-offered : (r : Row) (teid number : ℕ) → Fine r → number < 65536 → Fine (offered r teid number).1
fine-offered r teid number fine small =
    by_case r teid number (λ (o : ℕ × Row). Fine o.1) (λ _. inr (kept_started teid number small)) (λ _. fine)
    (λ n f. ⊎_elim (λ e. absurd (n e)) (λ kept. inr (kept_counted r kept number (below-full r kept f) small)) fine)

-- ROWS

abbrev pub AllFine : List Row → Type 0
AllFine rows = (i : ℕ) → Fine (row_at rows i)

pub fine-offer : (rows : List Row) (teid number : ℕ) → AllFine rows → number < 65536 → AllFine (offer rows teid number).1
fine-offer rows teid number fine small = λ i. go i (serving rows teid) refl
  where
    other : (i : ℕ) → (serving rows teid ≡ Some i → ⊥) → Fine (row_at (offer rows teid number).1 i)
    other i n = subst Fine (sym (other_row rows teid number i n)) (fine i)

    this : (i : ℕ) → serving rows teid ≡ Some i → Fine (row_at (offer rows teid number).1 i)
    this i e = subst Fine (sym (served_row rows teid number i e)) (fine-offered (row_at rows i) teid number (fine i) small)

    place : Option ℕ → ℕ → ℕ
    place (Some k) d = k
    place None d = d

    go : (i : ℕ) (f : Option ℕ) → serving rows teid ≡ f → Fine (row_at (offer rows teid number).1 i)
    go i (Some k) e =
        ⊎_elim (λ same. this i (e ∙ ap Some (sym same)))
        (λ n. other i (λ q. n (ap (λ (f : Option ℕ). place f i) (sym q ∙ e)))) (cases_eq i k)
    go i None e = other i (λ q. nothing_at (sym e ∙ q))
      where
        nothing_at : None ≡ Some i → ⊥
        nothing_at p = absurd (let h : suc i ≡ i = ap (λ (f : Option ℕ). place f (suc i)) p in omega arith)

pub fine-history : (rows : List Row) (xs : List Offer) → AllFine rows → Numbers xs → AllFine (history rows xs)
unfolding history
fine-history rows [] fine small = fine
fine-history rows (x ∷ xs) fine small =
    fine-history (offer rows x.teid x.number).1 xs (fine-offer rows x.teid x.number fine small.0) small.1

pub free-fine : (rows : List Row) → AllFree rows → AllFine rows
free-fine rows empty = λ i. inl (empty i)

-- In every row that is used the counts are right.
pub counts-right : (rows : List Row) (xs : List Offer) → AllFree rows → Numbers xs → (i : ℕ)
    → ((row_at (history rows xs) i).seen ≡ 0) ⊎ Counts (row_at (history rows xs) i)
counts-right rows xs empty small i =
    ⊎_elim (λ e. inl e) (λ kept. inr (record { total = kept.total; span = kept.span }))
    (fine-history rows xs (free-fine rows empty) small i)
