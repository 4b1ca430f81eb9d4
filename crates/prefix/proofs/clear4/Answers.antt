use Rattle.rules.specs.Prefix.{clear}
use Rattle.prefix.proofs.clear4.Goals as goal

pub returns : goal.returns
unfolding clear
returns c = rw (← c.four.ensures.value, ← c.saturating_sub.ensures) c.ends_clear.ensures
