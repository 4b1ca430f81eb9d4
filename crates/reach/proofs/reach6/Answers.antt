use Rattle.std.proofs.Common.{rules}
use Rattle.reach.specs.Reach.{reach6}
use Rattle.reach.proofs.reach6.Goals as goal

pub returns : goal.returns
unfolding reach6
returns c = c.longest_entry.ensures _ (λ i b l k. search rules) _ (λ i b l k. k)
