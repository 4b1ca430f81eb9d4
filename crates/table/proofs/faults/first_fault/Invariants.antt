use mathlib.Core.Path.{◌≡◌}
use Prim.Native.Nat.{ℕ, ◌<◌}
use Rattle.rules.specs.Fault.{told, first_fault}
use Rattle.table.proofs.faults.first_fault.Given as goal

abbrev pub invariant-loop-i : goal.invariant-loop-i
invariant-loop-i g l =
    (broken : ℕ → ℕ) → ((i c : ℕ) → i < l.n → goal.B-post g l.broken i c → c ≡ broken i)
    → first_fault (λ i. told l.kind i (broken i)) l.i ≡ 0
