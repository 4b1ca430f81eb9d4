use mathlib.Core.Path.{◌∙◌}
use native.Mathlib.Omega.{arith}
use Rattle.prefix.proofs.Prefixes.{under-past}
use Rattle.prefix.proofs.under.Goals as goal

pub returns : goal.returns
returns g c = c.lies_under.ensures g.row.W (omega arith) ∙ under-past _ _ g.row.W _ _ (omega arith)
