use native.Mathlib.Omega.{arith}
use Rattle.sum.proofs.Laws.{before_all}
use Rattle.sum.proofs.unreduced.Goals as goal

pub returns : goal.returns
returns c =
    let e = c.one_more.ensures in
    let l = e.small in
    (before_all c.args.s.now c.one_more.result e, omega arith)
