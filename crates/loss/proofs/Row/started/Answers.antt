use Rattle.std.proofs.Common.{refl}
use Rattle.loss.specs.Loss.{started}
use Rattle.loss.proofs.Row.started.Goals as goal

pub returns : goal.returns
unfolding started
returns c = refl
