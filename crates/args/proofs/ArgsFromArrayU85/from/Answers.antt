use mathlib.Core.Path.{refl}
use Rattle.args.specs.Value.{value}
use Rattle.args.proofs.ArgsFromArrayU85.from.Goals as goal

pub returns : goal.returns
unfolding value
returns c = refl
