use Rattle.rules.specs.Table.{rule_at}
use Rattle.records.proofs.rule_from.Goals as goal

pub returns : goal.returns
unfolding rule_at
returns c = record { same = rw (← c.requires.0) c.array.ensures.same }
