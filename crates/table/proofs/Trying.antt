-- Laws of the first fault, as code looks for it: among faults and among records.
use mathlib.Core.Path.{◌≡◌, refl, sym, ap, ◌∙◌, subst}
use mathlib.Core.Bool.{Bool, true, false, not, true≢false}
use Prim.Native.Nat.{ℕ, zero, suc, ◌+◌, ◌<◌}
use native.Mathlib.Nat.{not-suc-le-zero}
use native.Mathlib.Numerals.{add-one}
use native.Mathlib.Omega.{arith}
use native.Mathlib.Decide.{ℕ_discrete}
use lib.Dec.{eqb}
use borrow.Author.Tests.{ne_eqb}
use Rattle.std.specs.Prelude.{Option, Some, None, is_some}
use Rattle.std.specs.Option.{MatchOption, unwrap_or}
use Rattle.rules.specs.Fault.{told, or_else, first_fault}
use Rattle.table.specs.Records.{nonzero}

-- FAULTS

past : (f : ℕ) → eqb (suc f) 0 ≡ false
past f = ne_eqb (suc f) 0 (λ e. omega arith)

pub told_none : (kind index : ℕ) → told kind index 0 ≡ 0
unfolding told
told_none kind index = refl

pub else_zero : (g : ℕ) → or_else 0 g ≡ g
unfolding or_else
else_zero g = refl

pub else_fault : (f g : ℕ) → eqb f 0 ≡ false → or_else f g ≡ f
unfolding or_else
else_fault f g h = rw h refl

pub else_else : (f g h : ℕ) → or_else (or_else f g) h ≡ or_else f (or_else g h)
unfolding or_else
else_else zero g h = refl
else_else (suc f) g h = rw (else_fault (suc f) g (past f), else_fault (suc f) h (past f), else_fault (suc f) (or_else g h) (past f)) refl

-- A FAULT THAT MAY BE ABSENT

pub some_fault : (f : ℕ) {r : ℕ} → r ≡ f → eqb f 0 ≡ false → Some r ≡ nonzero f
some_fault zero e h = absurd (true≢false h)
some_fault (suc f) e h = rw e refl

or_zero : (f : ℕ) → unwrap_or (nonzero f) 0 ≡ f
or_zero zero = refl
or_zero (suc f) = refl

pub none_there : (f : ℕ) → nonzero f ≡ None → f ≡ 0
none_there f e = sym (or_zero f) ∙ ap (λ (p : Option ℕ). unwrap_or p 0) e

pub one_there : (f : ℕ) {x : ℕ} → nonzero f ≡ Some x → (x ≡ f) × (eqb f 0 ≡ false)
one_there zero e = absurd (true≢false (sym (ap is_some e)))
one_there (suc f) e = (sym (ap (λ (p : Option ℕ). unwrap_or p 0) e), past f)

-- what `is_none` answers
pub none_exactly : (f : ℕ) {p : Option ℕ} {b : Bool} → p ≡ nonzero f → is_some p ≡ not b → b ≡ eqb f 0
none_exactly f {p} {b} e h = at f b (ap is_some (sym e) ∙ h)
  where
    at : (f : ℕ) (b : Bool) → is_some (nonzero f) ≡ not b → b ≡ eqb f 0
    at zero true h = refl
    at zero false h = absurd (true≢false (sym h))
    at (suc f) true h = absurd (true≢false h)
    at (suc f) false h = sym (past f)

-- a fault looked for behind others, where there is none of those: K is what the closure that looks for it says
pub next : (f g : ℕ) {p r : Option ℕ} {K : Type 0} → p ≡ nonzero f → MatchOption p K (λ x. r ≡ Some x) → (K → r ≡ nonzero g)
    → r ≡ nonzero (or_else f g)
next f g {p} {r} {K} e m k = at f (subst (λ (p : Option ℕ). MatchOption p K (λ x. r ≡ Some x)) e m)
  where
    at : (f : ℕ) → MatchOption (nonzero f) K (λ x. r ≡ Some x) → r ≡ nonzero (or_else f g)
    at zero m = k m ∙ ap nonzero (sym (else_zero g))
    at (suc f) m = m ∙ ap nonzero (sym (else_fault (suc f) g (past f)))

-- the numbers below a bound, from 0 on
module _ (f : ℕ → ℕ) where
  pub first-none : first_fault f 0 ≡ 0
  unfolding first_fault
  first-none = refl

  pub first_more : (i : ℕ) → first_fault f i ≡ 0 → f i ≡ 0 → first_fault f (i + 1) ≡ 0
  unfolding first_fault
  first_more i a h = rw (add-one, a, h) (else_zero 0)

  pub first_found : (n i : ℕ) → i < n → first_fault f i ≡ 0 → eqb (f i) 0 ≡ false → first_fault f n ≡ f i
  unfolding first_fault
  first_found zero i l a h = absurd (not-suc-le-zero l)
  first_found (suc n) i l a h = pick (λ k. first_found n i k a h) (ℕ_discrete i n)
    where
      pick : (i < n → first_fault f n ≡ f i) → Dec (i ≡ n) → or_else (first_fault f n) (f n) ≡ f i
      pick front (yes e) = rw (← e, a) (else_zero (f i))
      pick front (no d) = rw (front (omega arith)) (else_fault (f i) (f n) h)

  pub some_below : (n i : ℕ) {r : ℕ} → i < n → first_fault f i ≡ 0 → r ≡ f i → eqb (f i) 0 ≡ false → Some r ≡ nonzero (first_fault f n)
  some_below n i l a e h = rw (first_found n i l a h) (some_fault (f i) e h)

  pub none_below : (i n : ℕ) → first_fault f i ≡ 0 → i ≡ n → None ≡ nonzero (first_fault f n)
  none_below i n a e = rw (← e, a) refl
