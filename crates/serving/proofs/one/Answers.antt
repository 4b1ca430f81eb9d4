use Rattle.copying.proofs.Laws.{tail_all}
use Rattle.serving.proofs.Lent.{lent_packs}
use lib.ListN.{length-drop}
use Rattle.serving.proofs.one.Goals as goal

pub returns : goal.returns
returns g c = lent_packs _ _ _ _ _ (simp (tail_all, length-drop) at c.packed.ensures)
