use Rattle.gateway.proofs.Matches.{header4_front, malformed_4, bad_4, matched4, well_formed4}
use Rattle.gateway.specs.Decided.{rule_found}
use Rattle.answer.proofs.Settling.{answered_named, answered_as}
use Rattle.rules.specs.declared.Header4.{Header4}
use Rattle.rules.specs.Header4.{header4, header4_of, malformed4, bad_header4}
use Rattle.rules.specs.Answer.{any, plain}
use Rattle.rules.specs.Octets.{window}
use mathlib.Core.Bool.{Bool}
use lib.ListN.{length}
use native.Mathlib.Omega.{arith}
use Prim.Native.Nat.{ℕ}
use mathlib.Core.List.{List}
use mathlib.Core.Path.{◌≡◌, sym, ap, ◌∙◌}
use Rattle.gateway.proofs.translate_ipv4_sound.Goals as goal

-- the view is that of the packet, and so what is tested of it
module _ (p : List ℕ) {front : List ℕ} {h : Header4} (read : front ≡ window p 0 20) (of : h ≡ header4_of front (length p)) where
  viewed : h ≡ header4 p
  unfolding header4
  viewed = of ∙ ap (λ (f : List ℕ). header4_of f (length p)) read ∙ header4_front p (length p)

  tested : {b v : Bool} → b ≡ any (malformed4 h) → b ≡ v → any (malformed4 (header4 p)) ≡ v
  tested e is = ap (λ (h : Header4). any (malformed4 h)) (sym viewed) ∙ sym e ∙ is

  tested-3 : {b v : Bool} → b ≡ any (bad_header4 h) → b ≡ v → any (bad_header4 (header4 p)) ≡ v
  tested-3 e is = ap (λ (h : Header4). any (bad_header4 h)) (sym viewed) ∙ sym e ∙ is

pub returns-then-is_malformed4 : goal.returns-then-is_malformed4
unfolding rule_found
returns-then-is_malformed4 c =
    let a = c.args in
    let m = tested a.packet.now c.window.ensures c.header4_of-h.ensures c.is_malformed4.ensures c.if-is_malformed4.true in
    let refused = malformed_4 a.packet.now a.table.now (length a.out.now) c.requires m in
    record {
      answered = answered_named _ (plain 2) _ _ _ refused c.malformed.ensures c.refused.ensures.answer;
      found = rw m c.refused.ensures.found;
      upperAt = c.refused.ensures.upperAt;
    }

-- the refusal is found by what it says, not by the name of its maker
pub returns-then-bad_header4 : goal.returns-then-bad_header4
unfolding rule_found
returns-then-bad_header4 c =
    let a = c.args in
    let m = tested a.packet.now c.window.ensures c.header4_of-h.ensures c.is_malformed4.ensures c.if-is_malformed4.false in
    let b = tested-3 a.packet.now c.window.ensures c.header4_of-h.ensures c.bad_header4.ensures c.if-bad_header4.true in
    let refused = bad_4 a.packet.now a.table.now (length a.out.now) c.requires m b in
    record {
      answered = answered_named _ (plain 3) _ _ _ refused (assumption c) c.refused-then-bad_header4.ensures.answer;
      found = rw (m, b) c.refused-then-bad_header4.ensures.found;
      upperAt = c.refused-then-bad_header4.ensures.upperAt;
    }

pub at_match4-requires : goal.at_match4-requires
at_match4-requires c = (
  c.requires,
  well_formed4 c.args.packet.now _ (viewed c.args.packet.now c.window.ensures c.header4_of-h.ensures)
      (sym c.is_malformed4.ensures ∙ c.if-is_malformed4.false)
      (omega (arith, c)),
)

pub returns : goal.returns
unfolding rule_found
returns c =
    let a = c.args in
    let m = tested a.packet.now c.window.ensures c.header4_of-h.ensures c.is_malformed4.ensures c.if-is_malformed4.false in
    let b = tested-3 a.packet.now c.window.ensures c.header4_of-h.ensures c.bad_header4.ensures c.if-bad_header4.false in
    let d = c.at_match4.ensures in
    record {
      answered = answered_as _ _ _ _ _ (matched4 a.packet.now a.table.now (length a.out.now) c.requires m b) d.answered;
      found = rw (m, b) d.found;
      upperAt = d.upperAt;
    }
