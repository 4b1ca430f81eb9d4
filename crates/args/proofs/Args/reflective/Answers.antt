use Rattle.std.proofs.Common.{rules}
use Rattle.rules.specs.Args.{args_at}
use Rattle.args.specs.Value.{value}
use Rattle.args.proofs.Args.reflective.Goals as goal

pub returns : goal.returns
unfolding value args_at
returns c = search rules
