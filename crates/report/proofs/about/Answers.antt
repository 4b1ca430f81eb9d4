use native.Mathlib.Omega.{arith}
use mathlib.Core.Path.{◌≡◌, sym, ap, ◌∙◌}
use mathlib.Core.List.{List}
use Prim.Native.Nat.{ℕ}
use lib.ListN.{length}
use Rattle.rules.specs.Ipv6 as Ipv6
use Rattle.rules.specs.Match.{match_entry}
use Rattle.rules.specs.Answer.{plain, Sent, Refused, settle}
use Rattle.std.specs.Prelude.{Option}
use Rattle.table.proofs.Bounds.{entries_within_lem, found-entry_within}
use Rattle.answer.proofs.Settling.{settled_as, settled_named}
use Rattle.icmp.specs.Icmp.{icmp_packet}
use Rattle.report.specs.Report.{report_of}
use Rattle.report.proofs.Laws.{report_none, report_nowhere, report_sent, settle-refused}
use Rattle.report.proofs.about.Goals as goal

matched : (t p : List ℕ) {to : List ℕ} {f g : Option ℕ} → to ≡ Ipv6.destination p → f ≡ match_entry t to → f ≡ g
    → match_entry t (Ipv6.destination p) ≡ g
matched t p e m q = ap (match_entry t) (sym e) ∙ sym m ∙ q

pub returns-then-none_due : goal.returns-then-none_due
returns-then-none_due c =
    let a = c.args in
    let t = a.table.now in
    let p = a.packet.now in
    let due = sym c.none_due.ensures ∙ c.if-none_due.true in
    settled_named _ (plain 23) _ _
    (settle-refused (length a.out.now) _ (plain 23) (report_none t p (match_entry t (Ipv6.destination p)) a.r due))
    c.none_due-then-none_due.ensures

pub find_entry-requires : goal.find_entry-requires
find_entry-requires c =
    (entries_within_lem c.args.table.now c.requires, omega (arith, c))

pub entry_at-requires : goal.entry_at-requires
entry_at-requires c =
    let t = c.args.table.now in
    let to = c.window-destination.ensures in
    let m = matched t c.args.packet.now to c.find_entry.ensures c.in-Some.is in
    found-entry_within t c.requires _ _ m

pub returns-in_default : goal.returns-in_default
returns-in_default c =
    let a = c.args in
    let t = a.table.now in
    let p = a.packet.now in
    let to = c.window-destination.ensures in
    let m = matched t p to c.find_entry.ensures c.in_default.is in
    settled_named _ (plain 23) _ _
    (settle-refused (length a.out.now) _ (plain 23) (ap (λ (f : Option ℕ). report_of t p f (Refused a.r)) m ∙ report_nowhere t p _))
    c.none_due-in_default.ensures

pub returns : goal.returns
returns c =
    let a = c.args in
    let t = a.table.now in
    let p = a.packet.now in
    let o = length a.out.now in
    let to = c.window-destination.ensures in
    let m = matched t p to c.find_entry.ensures c.in-Some.is in
    let due = sym c.none_due.ensures ∙ c.if-none_due.false in
    let e = c.entry_at.ensures.same in
    let sent : report_of t p (match_entry t (Ipv6.destination p)) (Refused a.r) ≡ Sent (icmp_packet _ a.r p) =
    ap (λ (f : Option ℕ). report_of t p f (Refused a.r)) m ∙ report_sent t p _ a.r due
    ∙ ap (λ (e : List ℕ). Sent (icmp_packet e a.r p)) (sym e) in
    settled_as _ _ _ _ _ (ap (settle o) (sym sent)) c.send.ensures
