use Rattle.std.proofs.Common.{rules}
use Rattle.rules.specs.Match.{match_rule}
use Rattle.matching.proofs.find_rule.Goals as goal

pub returns : goal.returns
unfolding match_rule
returns c = rw (← c.rules.ensures.value) (c.longest.ensures _ (λ i b l k. search rules) _ (λ i b l k. search rules))
