use mathlib.Core.Path.{◌∙◌}
use Rattle.gtpu.proofs.Laws.{args_read}
use Rattle.gtpu.proofs.args_at.Goals as goal

pub returns : goal.returns
returns c =
    c.from_container.ensures
    ∙ args_read c.args.packet.now _ c.args.at _ _ c.window-front.ensures
    c.pdu_type-direction.ensures c.teid_of.ensures
