use Rattle.gateway.proofs.Matches.{unsound6}
use Rattle.answer.proofs.Settling.{answered_named}
use Rattle.rules.specs.Answer.{plain}
use lib.ListN.{length}
use mathlib.Core.Path.{sym, ◌∙◌}
use Rattle.gateway.proofs.translate_ipv6.Goals as goal

pub returns-then-not-sound : goal.returns-then-not-sound
returns-then-not-sound c =
    let a = c.args in
    let u = sym c.sound.ensures ∙ c.if-not-sound.true in
    answered_named _ (plain 1) _ _ _ (unsound6 a.packet.now a.table.now (length a.out.now) u) c.unsound.ensures
    c.refused.ensures
