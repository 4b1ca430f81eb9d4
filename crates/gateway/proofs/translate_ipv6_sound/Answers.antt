use Rattle.gateway.proofs.Matches.{header_front, malformed6, matched6, well_formed}
use Rattle.gateway.specs.Decided.{entry_found}
use Rattle.answer.proofs.Settling.{answered_named, answered_as}
use Rattle.rules.specs.declared.Header.{Header}
use Rattle.rules.specs.Header.{header, header_of, malformed}
use Rattle.rules.specs.Answer.{any, plain}
use Rattle.rules.specs.Octets.{window}
use mathlib.Core.Bool.{Bool}
use lib.ListN.{length}
use native.Mathlib.Omega.{arith}
use Prim.Native.Nat.{ℕ}
use mathlib.Core.List.{List}
use mathlib.Core.Path.{◌≡◌, sym, ap, ◌∙◌}
use Rattle.gateway.proofs.translate_ipv6_sound.Goals as goal

-- the view is that of the packet, and so what is tested of it
module _ (p : List ℕ) {front : List ℕ} {h : Header} (read : front ≡ window p 0 48) (of : h ≡ header_of front (length p)) where
  viewed : h ≡ header p
  unfolding header
  viewed = of ∙ ap (λ (f : List ℕ). header_of f (length p)) read ∙ header_front p (length p)

  tested : {b v : Bool} → b ≡ any (malformed h) → b ≡ v → any (malformed (header p)) ≡ v
  tested e is = ap (λ (h : Header). any (malformed h)) (sym viewed) ∙ sym e ∙ is

pub returns-then-is_malformed : goal.returns-then-is_malformed
unfolding entry_found
returns-then-is_malformed c =
    let a = c.args in
    let m = tested a.packet.now c.window-front.ensures c.header_of-h.ensures c.is_malformed.ensures c.if-is_malformed.true in
    let refused = malformed6 a.packet.now a.table.now (length a.out.now) c.requires m in
    record {
      answered = answered_named _ (plain 2) _ _ _ refused c.malformed.ensures c.refused.ensures.answer;
      found = rw m c.refused.ensures.found;
      upperAt = c.refused.ensures.upperAt
          ∙ ap (λ (h : Header). h.upperAt) (viewed a.packet.now c.window-front.ensures c.header_of-h.ensures);
    }

pub at_match-requires : goal.at_match-requires
at_match-requires c =
    let clear = sym c.is_malformed.ensures ∙ c.if-is_malformed.false in (
      c.requires,
      well_formed c.args.packet.now _ (viewed c.args.packet.now c.window-front.ensures c.header_of-h.ensures) clear (omega (arith, c)),
      c.window-front.ensures,
    )

pub returns : goal.returns
unfolding entry_found
returns c =
    let a = c.args in
    let m = tested a.packet.now c.window-front.ensures c.header_of-h.ensures c.is_malformed.ensures c.if-is_malformed.false in
    let d = c.at_match.ensures in
    record {
      answered = answered_as _ _ _ _ _ (matched6 a.packet.now a.table.now (length a.out.now) c.requires m) d.answered;
      found = rw m d.found;
      upperAt = d.upperAt ∙ ap (λ (h : Header). h.upperAt) (viewed a.packet.now c.window-front.ensures c.header_of-h.ensures);
    }
