use native.Mathlib.Omega.{arith}
use Rattle.srh.proofs.Laws.{reversing_start, reversing_next, reversing_end}
use Rattle.srh.proofs.put_reversed.Goals as goal

pub loop-k-init : goal.loop-k-init
loop-k-init c = let a = c.args in reversing_start a.out.now a.at a.s.now a.from a.n

pub loop-k-preserved : goal.loop-k-preserved
loop-k-preserved c =
    let copied = c.copy_to in
    let l = c.loop-k in
    let a = c.args in
    reversing_next a.out.now a.at a.s.now a.from a.n _ _ _ l.k l.invariant (omega arith) (omega (arith, c))
    c.array-address.ensures copied.ensures copied.auto.out

pub returns : goal.returns
returns c =
    let a = c.args in
    let l = c.loop-k in
    reversing_end a.out.now a.at a.s.now a.from a.n _ l.k l.invariant (omega arith)
