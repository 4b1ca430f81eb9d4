-- How code that tests rows one by one is proved: each `return` follows from the tests that led there.
use mathlib.Core.Path.{◌≡◌, refl, sym, ap, ◌∙◌}
use mathlib.Core.Bool.{Bool, true, false, cond, ◌&&◌, ◌||◌}
use mathlib.Core.List.{List, [], ◌∷◌, ◌++◌}
use Rattle.rules.specs.Answer.{Row, given, any, verdict, Outcome, after, unless, first, Verdict}
use Rattle.rules.specs.declared.Refusal.{Refusal}
use Rattle.std.specs.Prelude.{Ok, Err, IsErrAnd}

-- a row that answers, one that is passed, none left
pub row_yes : (bs : List Bool) (ρ : Refusal) (rs : List Row) → any bs ≡ true → Err ρ ≡ verdict (record { tests = bs; refusal = ρ } ∷ rs)
unfolding verdict
row_yes bs ρ rs e = rw e

-- the same where the refusal was made under its name
pub row_named : (bs : List Bool) (ρ r : Refusal) (rs : List Row) → r ≡ ρ → any bs ≡ true → Err r ≡ verdict (record {
  tests = bs;
  refusal
      = ρ;
} ∷ rs)
row_named bs ρ r rs p e = ap Err p ∙ row_yes bs ρ rs e

pub row_no : (bs : List Bool) (ρ : Refusal) (rs : List Row) (z : Verdict) → any bs ≡ false → z ≡ verdict rs → z ≡ verdict
    (record { tests = bs; refusal = ρ } ∷ rs)
unfolding verdict
row_no bs ρ rs z e p = rw e p

pub row-none : Ok tt ≡ verdict []
unfolding verdict
row-none = refl

-- a row's tests, as a callee's result
pub is_true : (r b : Bool) → r ≡ b → r ≡ true → b ≡ true
is_true r b p q = sym p ∙ q

pub is_false : (r b : Bool) → r ≡ b → r ≡ false → b ≡ false
is_false r b p q = sym p ∙ q

pub only_true : (r b : Bool) → r ≡ b → r ≡ true → any (b ∷ []) ≡ true
only_true r b p q = ap (λ (x : Bool). x || false) (sym p ∙ q)

pub only_false : (r b : Bool) → r ≡ b → r ≡ false → any (b ∷ []) ≡ false
only_false r b p q = ap (λ (x : Bool). x || false) (sym p ∙ q)

-- for `search judged depth 20`, where each row is a callee's bool
pub ruleset judged = (row_yes, row_named, row_no, row-none, is_true, is_false, only_true, only_false)

-- tests made under a condition
pub any-given : (c : Bool) (bs : List Bool) → (c && any bs) ≡ any (given c bs)
any-given true bs = refl
any-given false bs = refl

-- ROWS ONE AFTER THE OTHER

pub verdict-append : (xs ys : List Row) → verdict (xs ++ ys) ≡ first (verdict xs) (verdict ys)
unfolding verdict
verdict-append [] ys = refl
verdict-append (x ∷ xs) ys = go (any x.tests) (verdict-append xs ys)
  where
    go : (b : Bool) → verdict (xs ++ ys) ≡ first (verdict xs) (verdict ys)
        → cond b (Err x.refusal) (verdict (xs ++ ys)) ≡ first (cond b (Err x.refusal) (verdict xs)) (verdict ys)
    go true e = refl
    go false e = e

pub both : (xs ys : List Row) (a b z : Verdict) → z ≡ first a b → a ≡ verdict xs → b ≡ verdict ys → z ≡ verdict (xs ++ ys)
both xs ys a b z e p q = e ∙ ap (λ (v : Verdict). first v b) p ∙ ap (λ (v : Verdict). first (verdict xs) v) q ∙ sym (verdict-append xs ys)

-- rows and then more: a function that looks at the later ones only where the earlier pass
pub refused-first : (xs ys : List Row) (v : Verdict) (ρ : Refusal) → v ≡ verdict xs → v ≡ Err ρ → Err ρ ≡ verdict (xs ++ ys)
refused-first xs ys v ρ p e = both xs ys (Err ρ) (verdict ys) (Err ρ) refl (sym e ∙ p) refl

pub passed_first : (xs ys : List Row) (v w : Verdict) → v ≡ verdict xs → v ≡ Ok tt → w ≡ verdict ys → w ≡ verdict (xs ++ ys)
passed_first xs ys v w p e q = both xs ys (Ok tt) w w refl (sym e ∙ p) q

-- what `?` hands on: the refusal of the judge before it
handed_on : (z : Verdict) (ρ : Refusal) → IsErrAnd z (λ r. r ≡ ρ) → z ≡ Err ρ
handed_on (Ok tt) ρ h = absurd h
handed_on (Err r) ρ h = ap Err h

-- and so of the rows that are judged so far, and of those behind them
pub hands_on : (xs ys : List Row) (v z : Verdict) (ρ : Refusal) → IsErrAnd z (λ r. r ≡ ρ) → v ≡ verdict xs → v ≡ Err ρ
    → z ≡ verdict (xs ++ ys)
hands_on xs ys v z ρ h p e = handed_on z ρ h ∙ refused-first xs ys v ρ p e

after_first : (v w : Verdict) (o : Outcome) → after (first v w) o ≡ after v (after w o)
after_first (Ok tt) w o = refl
after_first (Err ρ) w o = refl

-- rows joined decide as rows nested do
pub unless-append : (xs ys : List Row) (o : Outcome) → unless (xs ++ ys) o ≡ unless xs (unless ys o)
unless-append xs ys o = ap (λ (v : Verdict). after v o) (verdict-append xs ys) ∙ after_first (verdict xs) (verdict ys) o

-- a list of one test
pub any_last : (b : Bool) → any (b ∷ []) ≡ b
any_last true = refl
any_last false = refl
