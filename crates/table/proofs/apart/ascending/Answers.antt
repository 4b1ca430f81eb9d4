use Rattle.std.proofs.Common.{rules}
use mathlib.Core.Path.{refl}
use Rattle.table.proofs.Ranges.{all_passed}
use Rattle.table.proofs.apart.ascending.Goals as goal

pub returns : goal.returns
returns g c = λ p. all_passed 1 c.args.n _ c.all.ensures.ran refl (λ x q k. search rules) p
