use mathlib.Core.Path.{refl}
use native.Mathlib.Omega.{arith}
use Rattle.sum.proofs.Laws.{before_as, before_two}
use Rattle.sum.proofs.two_more.Goals as goal

pub returns : goal.returns
returns c =
    let w = c.word in
    before_as (before_two c.args.s.now _ _ c.requires.1 w.result w.ensures.0 w.ensures.1 (omega arith)) (omega arith) refl
