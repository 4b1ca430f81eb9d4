use Rattle.std.proofs.Common.{rules}
use Rattle.rules.specs.Match.{match_entry}
use Rattle.matching.proofs.find_entry.Goals as goal

pub returns : goal.returns
unfolding match_entry
returns c = rw (← c.entries.ensures.value) (c.longest.ensures _ (λ i b l k. search rules) _ (λ i b l k. search rules))
