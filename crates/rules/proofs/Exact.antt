-- How it is shown that a test, or one of several, holds exactly where a statement does.
use mathlib.Core.Path.{◌≡◌, refl, sym}
use mathlib.Core.Logic.{◌≢◌}
use mathlib.Core.Bool.{Bool, true, false, not, ◌&&◌, ◌||◌, true≢false}
use mathlib.Core.List.{List, [], ◌∷◌}
use Prim.Native.Nat.{ℕ, zero, suc, ◌<◌}
use lib.Dec.{eqb, ltb}
use lib.ListN.{drop, get_or}
use borrow.Author.Tests.{ltb-true, eqb-false, not-true, lt-ltb, ne_eqb}
use Rattle.rules.specs.Exactly.{Exactly}
use Rattle.rules.specs.Answer.{differs, given, any}

-- ONE TEST

pub differs_true : (a b : ℕ) → differs a b ≡ true → a ≢ b
differs_true a b h = eqb-false a b (not-true (eqb a b) h)

pub ne_differs : (a b : ℕ) → a ≢ b → differs a b ≡ true
ne_differs a b h = rw (ne_eqb a b h)

-- a row of one test
pub only : (b : Bool) (P : Type 0) → (b ≡ true → P) → (P → b ≡ true) → Exactly (b || false) P
only true P f g = (f, g)
only false P f g = (f, g)

pub over : (a b : ℕ) → Exactly (ltb a b || false) (a < b)
over a b = only (ltb a b) (a < b) (ltb-true a b) (lt-ltb a b)

-- a test that a statement does not hold
pub only_not : (b : Bool) (P : Type 0) → Exactly b P → Exactly (not b || false) (P → ⊥)
only_not true P (f, g) = (λ h. absurd (true≢false (sym h)), λ n. absurd (n (f refl)))
only_not false P (f, g) = (λ h p. true≢false (sym (g p)), λ n. refl)

pub and_not : (b : Bool) → not (b && false) ≡ true
and_not true = refl
and_not false = refl

-- SEVERAL

-- each of some tests leads to a statement
abbrev pub Leads : (P : Type 0) → List Bool → Type 0
Leads P [] = Unit {0}
Leads P (b ∷ bs) = (b ≡ true → P) × Leads P bs

pub leads-given : (P : Type 0) (c : Bool) (bs : List Bool) → (c ≡ true → Leads P bs) → Leads P (given c bs)
leads-given P true bs f = f refl
leads-given P false bs f = tt

pub any-leads : (P : Type 0) (bs : List Bool) → Leads P bs → any bs ≡ true → P
any-leads P [] l h = absurd (true≢false (sym h))
any-leads P (true ∷ bs) l h = l.0 refl
any-leads P (false ∷ bs) l h = any-leads P bs l.1 h

pub or_leads : (P : Type 0) (b c : Bool) → (b ≡ true → P) → (c ≡ true → P) → b || c ≡ true → P
or_leads P true c f g h = f refl
or_leads P false c f g h = g h

-- test k holds; one of those from test k on does
pub any_at : (bs : List Bool) (k : ℕ) → get_or bs k false ≡ true → any bs ≡ true
any_at [] zero h = h
any_at [] (suc k) h = h
any_at (b ∷ bs) zero h = rw h
any_at (true ∷ bs) (suc k) h = refl
any_at (false ∷ bs) (suc k) h = any_at bs k h

pub any-from : (bs : List Bool) (k : ℕ) → any (drop k bs) ≡ true → any bs ≡ true
any-from bs zero h = h
any-from [] (suc k) h = h
any-from (true ∷ bs) (suc k) h = refl
any-from (false ∷ bs) (suc k) h = any-from bs k h

-- tests made under a condition that holds
pub any-under : (c : Bool) (bs : List Bool) → c ≡ true → any bs ≡ true → any (given c bs) ≡ true
any-under c bs h k = rw h k
