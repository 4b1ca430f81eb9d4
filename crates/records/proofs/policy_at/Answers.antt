use Rattle.rules.specs.Table.{policy_at}
use Rattle.records.proofs.policy_at.Goals as goal

pub returns : goal.returns
unfolding policy_at
returns c = record { same = rw (← c.policies_start.ensures.value) c.array.ensures.same }
