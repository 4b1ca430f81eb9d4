use mathlib.Core.Path.{refl}
use native.Mathlib.Omega.{arith}
use Rattle.sum.proofs.Laws.{before_none, before_as, before_sixteen, before_all}
use Rattle.sum.proofs.unreduced_address.Goals as goal

pub returns : goal.returns
returns c =
    let w = c.four in
    let x = c.four-2 in
    let y = c.four-3 in
    let z = c.four-4 in
    let a = c.args.a in
    let k = before_sixteen a 0 0 0 0 0 (before_none a) w.result x.result y.result z.result
    w.ensures x.ensures y.ensures z.ensures (omega arith) in
    let e = before_all a _ (before_as k (omega arith) refl) in
    (omega arith, omega arith)
