use mathlib.Core.Path.{refl}
use Prim.Native.Nat.{◌-◌}
use native.Mathlib.Omega.{arith}
use lib.ListN.{length}
use Rattle.sum.proofs.Laws.{before_as, before_one}
use Rattle.sum.proofs.one_more.Goals as goal

pub returns : goal.returns
returns c =
    let s = c.args.s.now in
    let w = c.word in
    let k = before_as {j = length s - 1} c.requires.1 (omega arith) refl in
    before_one s (length s - 1) _ k w.result (omega arith) w.ensures.1 (omega arith)
