use mathlib.Core.Path.{◌≡◌}
use Prim.Native.Nat.{◌*◌, ◌≤◌}
use Rattle.rules.specs.Octets.{number}
use Rattle.prefix.proofs.same_octets.Given as goal

abbrev pub invariant-loop-k : goal.invariant-loop-k
invariant-loop-k l = (l.k ≤ l.k-end) × (number l.a 0 (8 * l.k) ≡ number l.b 0 (8 * l.k))
