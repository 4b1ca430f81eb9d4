use Rattle.rules.specs.Table.{policy_at}
use Rattle.records.proofs.policy_from.Goals as goal

pub returns : goal.returns
unfolding policy_at
returns c = record { same = rw (← c.requires.0) c.array.ensures.same }
