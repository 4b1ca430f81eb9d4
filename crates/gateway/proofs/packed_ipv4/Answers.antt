use Rattle.gateway.proofs.Matches.{unsound4}
use Rattle.answer.proofs.Settling.{answered_named, answered-packed}
use Rattle.rules.specs.Answer.{plain}
use native.Mathlib.Omega.{arith}
use lib.ListN.{length}
use mathlib.Core.Path.{sym, ◌∙◌}
use Rattle.gateway.proofs.packed_ipv4.Goals as goal

pub returns-then-not-sound : goal.returns-then-not-sound
returns-then-not-sound c =
    let a = c.args in
    let u = sym c.sound.ensures ∙ c.if-not-sound.true in
    let refused = unsound4 a.packet.now a.table.now (length a.out.now) u in
    answered-packed _ _ _ _ _ (answered_named _ (plain 1) _ _ _ refused c.unsound.ensures c.refused.ensures)
    (omega arith) (omega arith) (omega arith) (omega arith) c.pack.ensures
