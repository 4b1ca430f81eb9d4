use mathlib.Core.Path.{◌∙◌}
use Rattle.copying.proofs.Laws.{tail_all}
use Rattle.gtpu.proofs.Laws.{view_read}
use Rattle.gtpu.proofs.datagram_at.Goals as goal

pub returns : goal.returns
returns c =
    let p = c.args.packet.now in
    c.datagram_of.ensures
    ∙ view_read p _ _ c.args.at _ _ _ _ _ c.window-front.ensures c.saturating_sub-size.ensures
    (tail_all c.within-start.result p ∙ c.within-start.ensures.1) c.first.ensures c.fields_of-fields.ensures
    c.octet_or_0-content.ensures c.octet_or_0-following.ensures
