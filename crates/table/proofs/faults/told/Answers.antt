use mathlib.Core.Path.{refl}
use borrow.Author.Tests.{ne_eqb}
use Rattle.rules.specs.Fault.{told}
use Rattle.table.proofs.faults.told.Goals as goal

pub returns-then-condition-eq0 : goal.returns-then-condition-eq0
unfolding told
returns-then-condition-eq0 c = rw c.if-condition-eq0.true refl

pub returns : goal.returns
unfolding told
returns c = rw (ne_eqb _ _ c.if-condition-eq0.false, c.from.ensures, c.from-2.ensures) refl
