use mathlib.Core.Path.{◌≡◌}
use mathlib.Core.Bool.{Bool, true, not}
use mathlib.Core.List.{[], ◌∷◌}
use Prim.Native.Nat.{ℕ, ◌<◌}
use Rattle.rules.specs.Fault.{first_broken, told, first_fault}
use Rattle.rules.specs.Sound.{all, fresh}
use Rattle.table.proofs.apart.repeated.Given as goal

abbrev pub invariant-loop-j : goal.invariant-loop-j
invariant-loop-j g l =
    (same : ℕ → ℕ → Bool) → ((i j : ℕ) (b : Bool) → i < j → j < l.n → goal.S-post g l.same i j b → b ≡ same i j)
    → first_fault (λ j. told l.kind j (first_broken l.condition (fresh same j ∷ []))) l.j ≡ 0

abbrev pub invariant-loop-i : goal.invariant-loop-i
invariant-loop-i g l =
    (same : ℕ → ℕ → Bool) → ((i j : ℕ) (b : Bool) → i < j → j < l.n → goal.S-post g l.same i j b → b ≡ same i j)
    → all (λ i. not (same i l.j)) l.i ≡ true
