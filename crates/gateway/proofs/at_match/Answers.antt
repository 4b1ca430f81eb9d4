use Rattle.rules.proofs.Deciding.{at_found-entry, at_no_entry}
use Rattle.table.proofs.Bounds.{entries_within_lem}
use Rattle.answer.proofs.Settling.{answered_named, answered-settled, settled_as}
use Rattle.rules.specs.Answer.{plain, settle}
use Rattle.rules.specs.Calls.{at_found_entry}
use Rattle.rules.specs.Ipv6 as Ipv6
use Rattle.rules.specs.Match.{match_entry}
use Rattle.std.specs.Prelude.{Option}
use lib.ListN.{length}
use native.Mathlib.Omega.{arith}
use Prim.Native.Nat.{ℕ}
use mathlib.Core.List.{List}
use mathlib.Core.Path.{◌≡◌, refl, sym, ap, ◌∙◌}
use Rattle.gateway.proofs.at_match.Goals as goal

-- the match of the destination that was read is what was found
found-is : (t p : List ℕ) {to : List ℕ} {f g : Option ℕ} → to ≡ Ipv6.destination p → f ≡ match_entry t to → f ≡ g
    → match_entry t (Ipv6.destination p) ≡ g
found-is t p w e is = sym (e ∙ ap (match_entry t) w) ∙ is

pub find_entry-requires : goal.find_entry-requires
find_entry-requires c = (
  entries_within_lem c.args.table.now
      c.requires.0,
  omega (arith, c),
)

pub returns-in_default : goal.returns-in_default
unfolding settle
returns-in_default c =
    let a = c.args in
    let t : List ℕ = a.table.now in
    let p : List ℕ = a.packet.now in
    let room : ℕ = length a.out.now in
    let f = found-is t p c.window-destination.ensures c.find_entry.ensures c.in_default.is in
    record {
      answered = answered_named _ (plain 4) _ _ _ (ap (λ (f : Option ℕ). settle room (at_found_entry t p f)) f
          ∙ ap (settle room) (at_no_entry t p)) c.no_match.ensures c.refused.ensures.answer;
      found = c.refused.ensures.found ∙ sym f;
      upperAt = c.refused.ensures.upperAt;
    }

pub returns : goal.returns
returns c =
    let a = c.args in
    let t : List ℕ = a.table.now in
    let p : List ℕ = a.packet.now in
    let room : ℕ = length a.out.now in
    let f = found-is t p c.window-destination.ensures c.find_entry.ensures c.in-Some.is in
    record {
      answered = answered-settled _ _ _ _ _ (settled_as _ _ _ _ _ (ap (settle room) (sym (at_found-entry t p _))
          ∙ ap (λ (f : Option ℕ). settle room (at_found_entry t p f)) (sym f)) c.at_entry-settled.ensures) c.from.ensures;
      found = sym f;
      upperAt = refl;
    }
