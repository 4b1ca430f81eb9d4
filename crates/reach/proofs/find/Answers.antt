use Rattle.std.proofs.Common.{rules}
use Rattle.rules.specs.Match.{match_entry}
use Rattle.reach.proofs.find.Goals as goal

pub returns : goal.returns
unfolding match_entry
returns c = c.longest_entry.ensures _ (λ i b l k. search rules) _ (λ i b l k. k)
