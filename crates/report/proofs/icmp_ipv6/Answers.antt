use mathlib.Core.Path.{sym, ◌∙◌}
use native.Mathlib.Omega.{arith}
use lib.ListN.{length}
use Rattle.rules.specs.Octets.{Octets}
use Rattle.rules.specs.Answer.{plain}
use Rattle.answer.proofs.Settling.{settled_as, answered_named, answered-settled, answered-packed}
use Rattle.report.proofs.Laws.{unsound_none, reported}
use Rattle.report.proofs.icmp_ipv6.Goals as goal

pub returns-then-not-sound : goal.returns-then-not-sound
returns-then-not-sound c =
    let a = c.args in
    let u = sym c.sound.ensures ∙ c.if-not-sound.true in
    let none = unsound_none a.packet.now a.table.now (length a.out.now) u in
    answered-packed _ _ _ _ _ (answered_named _ (plain 23) _ _ _ none c.none_due.ensures c.refused.ensures)
    (omega arith) (omega arith) (omega arith) (omega arith) c.pack.ensures

pub returns : goal.returns
returns c =
    let a = c.args in
    let answer = c.decided.ensures in
    let refusal = c.refusal_in-r.ensures in
    let octets : Octets a.packet.now = λ i. (c.type_inv.packet i).fits in
    let same = reported a.packet.now a.table.now octets _ _ answer refusal (length a.out.now) in
    answered-packed _ _ _ _ _ (answered-settled _ _ _ _ _ (settled_as _ _ _ _ _ same c.about.ensures) c.from.ensures)
    (omega arith) (omega arith)
    (omega arith) (omega arith) c.pack-2.ensures
