use Rattle.std.proofs.Common.{rules}
use Rattle.rules.specs.Session.{accepts}
use Rattle.far.proofs.accepts_next.Goals as goal

pub returns : goal.returns
unfolding accepts
returns c = search rules
