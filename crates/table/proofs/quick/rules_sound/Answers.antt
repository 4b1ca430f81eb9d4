use Rattle.std.proofs.Common.{rules}
use mathlib.Core.Path.{refl}
use Rattle.table.proofs.Ranges.{all_below}
use Rattle.table.proofs.quick.rules_sound.Goals as goal

pub returns : goal.returns
returns c = all_below c.args.n _ c.all.ensures.ran refl (λ x q k. search rules)
