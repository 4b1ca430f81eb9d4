use mathlib.Core.Path.{◌≡◌}
use Prim.Native.Nat.{◌+◌, ◌*◌, ◌≤◌}
use lib.ListN.{drop}
use Rattle.rules.specs.Checksum.{word_sum}
use Rattle.ip.proofs.header_sum.Given as goal

abbrev pub invariant-loop-i : goal.invariant-loop-i
invariant-loop-i l = (l.i ≤ 10) × (l.total + word_sum (drop (2 * l.i) l.front) ≡ word_sum l.front) × (l.total ≤ 65535 * l.i)
