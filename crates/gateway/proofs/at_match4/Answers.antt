use Rattle.std.proofs.Common.{rules}
use Rattle.rules.proofs.Deciding.{at_found-rule, at_no_rule}
use Rattle.table.proofs.Bounds.{rules_within_lem, found-rule_within}
use Rattle.answer.proofs.Settling.{answered_named, answered-settled, settled_as}
use Rattle.rules.proofs.Tables.{found-rule}
use Rattle.rules.specs.Answer.{plain, settle}
use Rattle.rules.specs.Calls.{at_found_rule}
use Rattle.rules.specs.D4.{at_d4}
use Rattle.rules.specs.Ipv4 as Ipv4
use Rattle.rules.specs.Match.{match_rule}
use Rattle.rules.specs.Sound.{entry_limit}
use Rattle.rules.specs.SoundRecord.{SoundRule}
use Rattle.std.specs.Prelude.{Option}
use lib.ListN.{length}
use native.Mathlib.Omega.{arith}
use Prim.Native.Nat.{ℕ}
use mathlib.Core.List.{List}
use mathlib.Core.Path.{◌≡◌, refl, sym, ap, ◌∙◌, subst}
use Rattle.gateway.proofs.at_match4.Goals as goal

-- the match of the destination that was read is what was found
found-is : (t p : List ℕ) {to : List ℕ} {f g : Option ℕ} → to ≡ Ipv4.destination p → f ≡ match_rule t to → f ≡ g
    → match_rule t (Ipv4.destination p) ≡ g
found-is t p w e is = sym (e ∙ ap (match_rule t) w) ∙ is

pub find_rule-requires : goal.find_rule-requires
find_rule-requires c = (
  rules_within_lem c.args.table.now
      c.requires.0,
  omega (arith, c),
)

pub rule_at-r-requires : goal.rule_at-r-requires
rule_at-r-requires c =
    let a = c.args in
    found-rule_within a.table.now c.requires.0 (Ipv4.destination a.packet.now) _
    (found-is a.table.now a.packet.now c.window-destination.ensures
    c.find_rule.ensures c.in-Some.is)

pub at_d4-settled-requires : goal.at_d4-settled-requires
at_d4-settled-requires c =
    let a = c.args in
    let l = c.rule_at-r.ensures in
    let q = found-rule entry_limit a.table.now (Ipv4.destination a.packet.now) _ c.requires.0
    (found-is a.table.now a.packet.now c.window-destination.ensures c.find_rule.ensures c.in-Some.is) in
    record { octets = search rules; sound = subst SoundRule (sym l.same) q; arrived = c.requires.1 }

pub returns-in_default : goal.returns-in_default
unfolding settle
returns-in_default c =
    let a = c.args in
    let t : List ℕ = a.table.now in
    let p : List ℕ = a.packet.now in
    let room : ℕ = length a.out.now in
    let f = found-is t p c.window-destination.ensures c.find_rule.ensures c.in_default.is in
    record {
      answered = answered_named _ (plain 4) _ _ _ (ap (λ (f : Option ℕ). settle room (at_found_rule t p f)) f
          ∙ ap (settle room) (at_no_rule t p)) c.no_match.ensures c.refused.ensures.answer;
      found = c.refused.ensures.found ∙ sym f;
      upperAt = c.refused.ensures.upperAt;
    }

pub returns : goal.returns
returns c =
    let a = c.args in
    let t : List ℕ = a.table.now in
    let p : List ℕ = a.packet.now in
    let room : ℕ = length a.out.now in
    let f = found-is t p c.window-destination.ensures c.find_rule.ensures c.in-Some.is in
    record {
      answered = answered-settled _ _ _ _ _ (settled_as _ _ _ _ _ ((λ i. settle room (at_d4 (c.rule_at-r.ensures.same i) p)) ∙ ap
          (settle room) (sym (at_found-rule t p _))
          ∙ ap (λ (f : Option ℕ). settle room (at_found_rule t p f)) (sym f))
          c.at_d4-settled.ensures) c.from.ensures;
      found = sym f;
      upperAt = refl;
    }
