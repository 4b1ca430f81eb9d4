use native.Mathlib.Omega.{arith}
use Rattle.sum.proofs.Laws.{before_sixteen}
use Rattle.sum.proofs.sixteens.Goals as goal

pub loop-i-preserved : goal.loop-i-preserved
loop-i-preserved c =
    let l = c.loop-i in
    let s = c.args.s.now in
    let w = c.four-a in
    let x = c.four-b in
    let y = c.four-c in
    let z = c.four-d in (
      omega arith,
      omega arith,
      before_sixteen s l.i l.a l.b l.c l.d l.invariant.2 w.result x.result y.result z.result
          w.ensures x.ensures y.ensures z.ensures (omega arith),
    )
