use Rattle.rules.specs.Args.{args_at}
use Rattle.args.specs.Value.{value}
use Rattle.args.proofs.Args.teid.Goals as goal

pub returns : goal.returns
unfolding value args_at
returns c = c.array.ensures
