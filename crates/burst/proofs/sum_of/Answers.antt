use Rattle.std.proofs.Common.{arith, refl}
use Rattle.std.proofs.lemmas.Grind.{common_steps}
use Rattle.std.proofs.lemmas.List.Recursion.{is_sum_by}
use Rattle.burst.specs.Burst.{sum}
use Rattle.burst.proofs.sum_of.Goals as goal

pub returns : goal.returns
unfolding sum
returns c = grind (arith, common_steps, is_sum_by sum (λ x. x) refl (λ _ _. refl))
