use Rattle.rules.specs.Table.{entry_at}
use Rattle.records.proofs.entry_at.Goals as goal

pub returns : goal.returns
unfolding entry_at
returns c = record { same = c.array.ensures.same }
