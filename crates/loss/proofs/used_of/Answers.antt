use Rattle.std.proofs.Common.{arith}
use Rattle.std.proofs.lemmas.Grind.{common_steps}
use Rattle.loss.specs.Loss.{used_of}
use Rattle.loss.proofs.used_of.Goals as goal

pub returns-clause-value : goal.returns-clause-value
unfolding used_of
returns-clause-value c = grind (arith, common_steps)
