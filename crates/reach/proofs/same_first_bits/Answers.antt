use mathlib.Core.Path.{sym, ◌∙◌}
use native.Mathlib.Omega.{arith}
use borrow.Author.Tests.{eq-eqb}
use Rattle.reach.proofs.Agreeing.{all_dropped}
use Rattle.reach.proofs.same_first_bits.Goals as goal

pub returns-then-rest-ge8 : goal.returns-then-rest-ge8
returns-then-rest-ge8 c =
    let a = c.args in
    let gone = all_dropped a.a a.rest (omega arith) (omega arith) in
    sym (eq-eqb _ _ (gone ∙ sym (all_dropped a.b a.rest (omega arith) (omega arith))))
