use Rattle.rules.specs.Table.{rule_at}
use Rattle.records.proofs.rule_at.Goals as goal

pub returns : goal.returns
unfolding rule_at
returns c = record { same = rw (← c.rules_start.ensures.value) c.array.ensures.same }
