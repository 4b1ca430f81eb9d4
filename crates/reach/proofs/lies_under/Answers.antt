use mathlib.Core.Path.{◌≡◌}
use native.Mathlib.Omega.{arith}
use Rattle.reach.proofs.Laws.{all_looked}
use Rattle.reach.proofs.lies_under.Goals as goal

pub returns : goal.returns
returns c =
    let a = c.args in
    let k = c.loop-i in
    let e : k.i ≡ 16 = omega arith in
    all_looked a.address a.prefix a.bits k.same (omega arith) (omega arith) (rw e at k.invariant)
