use mathlib.Core.Path.{◌∙◌}
use Rattle.std.proofs.lemmas.List.{drop_min}
use Rattle.copying.proofs.Laws.{tail_all}
use Rattle.octets.proofs.left.Goals as goal

pub returns : goal.returns
returns c = rw c.min.ensures (tail_all _ c.args.s.now ∙ drop_min c.args.at c.args.s.now)
