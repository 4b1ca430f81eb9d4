use mathlib.Core.Path.{refl, ◌∙◌}
use native.Mathlib.Omega.{arith}
use Rattle.std.proofs.lemmas.Slice.{put_mid-paste}
use Rattle.copying.proofs.Laws.{paste_splice}
use Rattle.copying.proofs.copy_to.Goals as goal

pub returns : goal.returns
returns c =
    let a = c.args in
    put_mid-paste a.at _ a.out.now _ a.src.now _ c.copy_from_slice.ensures.after (omega arith) refl
    ∙ paste_splice a.out.now a.at a.src.now
