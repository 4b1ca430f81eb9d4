use mathlib.Core.Path.{refl}
use native.Mathlib.Omega.{arith}
use Rattle.sum.proofs.Laws.{before_as, before_four}
use Rattle.sum.proofs.four_more.Goals as goal

pub returns : goal.returns
returns c =
    let w = c.four in
    before_as (before_four c.args.s.now _ _ c.requires.1 w.result w.ensures _ refl (omega arith)) (omega arith) refl
