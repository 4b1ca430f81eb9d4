use mathlib.Core.Path.{◌≡◌}
use Prim.Native.Nat.{◌+◌, ◌-◌, ◌%◌, ◌≤◌}
use Rattle.sum.specs.Adding.{Before}
use Rattle.sum.proofs.sixteens.Given as goal

abbrev pub invariant-loop-i : goal.invariant-loop-i
invariant-loop-i l = (l.i % 16 ≡ 0) × (l.i ≤ l.end) × Before l.s l.i (l.a + l.b + l.c + l.d)

abbrev pub decreases-loop-i : goal.decreases-loop-i
decreases-loop-i l = l.end - l.i
