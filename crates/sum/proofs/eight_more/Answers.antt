use mathlib.Core.Path.{refl}
use native.Mathlib.Omega.{arith}
use Rattle.sum.proofs.Laws.{before_as, before_four}
use Rattle.sum.proofs.eight_more.Goals as goal

pub returns : goal.returns
returns c =
    let s = c.args.s.now in
    let w = c.four in
    let x = c.four-2 in
    let k = before_four s _ _ c.requires.1 w.result w.ensures _ refl (omega arith) in
    before_as (before_four s _ _ k x.result x.ensures _ refl (omega arith)) (omega arith) refl
