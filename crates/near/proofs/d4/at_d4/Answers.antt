use Rattle.near.proofs.AtD4.{other4_judged, other4_carried_out, d4_refused, echo4-answered, d4_head_lem, d4_size}
use Rattle.path.proofs.Judged.{GpduRead}
use Rattle.std.specs.Prelude.{Err}
use Rattle.std.proofs.lemmas.Result.{err_from_is_err_and}
use Rattle.answer.proofs.Calling.{Judged, plan_no_room, plan_sent}
use Rattle.copying.proofs.Laws.{run_as, run_count}
use Rattle.rules.specs.Rule as Rule
use Rattle.rules.specs.Octets.{octet}
use Rattle.rules.specs.Session.{inner_protocol}
use Rattle.rules.specs.Datagram.{datagram}
use Rattle.rules.specs.D4.{address_behind, at_d4}
use Rattle.rules.specs.Plan.{carry_out, d4_head, g_pdu_plan4}
use Rattle.rules.specs.declared.Datagram.{Datagram}
use native.Mathlib.Omega.{arith}
use Prim.Native.Nat.{ℕ, ◌+◌, ◌-◌, ◌*◌}
use lib.ListN.{length, drop}
use mathlib.Core.List.{List, [], ◌∷◌}
use mathlib.Core.Path.{◌≡◌, refl, sym, ap, ◌∙◌}
use Rattle.near.proofs.d4.at_d4.Goals as goal
use Rattle.near.proofs.d4.at_d4.Goals.{After-unwrap-r, After-sid_of-sid}

-- what was read of the datagram behind the IPv4 header
read_of : (p : List ℕ) {g : Datagram} {inner size first : ℕ} → g ≡ datagram (drop 20 p) → inner ≡ 20 + 4 * g.extensionUnits
    → size ≡ length p - (20 + inner) → first ≡ octet p (20 + inner) → GpduRead p 20 g (20 + inner) size first
read_of p view begins holds starts = record {
  view = view;
  begins = ap (λ (j : ℕ). 20 + j) begins;
  holds = holds;
  starts = starts;
}

-- the rule as an array is the rule
module _ (c : After-unwrap-r) where
  rule_same : c.unwrap-r.result.now ≡ c.args.r.now
  rule_same = (rw c.unwrap-r.ensures at c.as_array.ensures.cases).same

pub returns-then-is_echo : goal.returns-then-is_echo
returns-then-is_echo c =
    let a = c.args in
    let read = read_of a.packet.now c.datagram_at-g.ensures c.inner_at-place.ensures.0 c.saturating_sub-size.ensures
    c.octet_or_0-first.ensures in
    rw (← rule_same (goal.at.returns-then-is_echo c).After-unwrap-r)
    (echo4-answered _ _ _ c.requires.arrived _ _ _ _ _ read
    c.wide-w.ensures.0 _ _ c.payload.ensures c.judge.ensures
    (sym c.is_echo.ensures ∙ c.if-is_echo.true) c.in_ok-judge.was
    _ c.octet_or_0-tos.ensures c.reply4.ensures)

pub returns-in_err-judge : goal.returns-in_err-judge
returns-in_err-judge c =
    let a = c.args in
    let read = read_of a.packet.now c.datagram_at-g.ensures c.inner_at-place.ensures.0 c.saturating_sub-size.ensures
    c.octet_or_0-first.ensures in
    let e = err_from_is_err_and c.from_residual.result c.from_residual.ensures.1 in
    rw (← rule_same (goal.at.returns-in_err-judge c).After-unwrap-r)
    (d4_refused _ _ _ c.requires.arrived _ _ _ _ _ read
    c.wide-w.ensures.0 _ _ c.payload.ensures c.judge.ensures _ _ _ c.in_err-judge.was
    (e.1 ∙ ap Err e.2))

-- where the message is no Echo Request: what the verdict says of the plan of a G-PDU, that it is carried out, and its head
module _ (c : After-sid_of-sid) where
  read : GpduRead c.args.packet.now 20 c.datagram_at-g.result (20 + c.inner_at-place.result) c.saturating_sub-size.result
      c.octet_or_0-first.result
  read = read_of c.args.packet.now c.datagram_at-g.ensures c.inner_at-place.ensures.0 c.saturating_sub-size.ensures
      c.octet_or_0-first.ensures

  judged : Judged (g_pdu_plan4 c.unwrap-r.result.now c.args.packet.now) c.args.packet.now (20 + c.inner_at-place.result) c.payload.result
      c.judge.result
  judged = other4_judged _ _ _ c.requires.arrived _ _ _ _ _ read c.wide-w.ensures.0 _ _
      c.payload.ensures c.judge.ensures (sym c.is_echo.ensures ∙ c.if-is_echo.false)

  carried_out : carry_out (g_pdu_plan4 c.unwrap-r.result.now c.args.packet.now) c.args.packet.now
      ≡ at_d4 c.args.r.now c.args.packet.now
  carried_out = other4_carried_out _ _ _ c.requires.arrived _ _ _ _ _ read c.wide-w.ensures.0 _ _
      c.payload.ensures c.judge.ensures (sym c.is_echo.ensures ∙ c.if-is_echo.false)
      ∙ ap (λ (r : List ℕ). at_d4 r c.args.packet.now) (rw c.unwrap-r.ensures at c.as_array.ensures.cases).same

  headed : d4_head c.unwrap-r.result.now c.octet_or_0-class.result
      (inner_protocol (Rule.session c.unwrap-r.result.now) (c.octet_or_0-first.result ∷ []))
      c.behind-source.result c.sid_of-sid.result c.saturating_sub-size.result ≡ (g_pdu_plan4 c.unwrap-r.result.now c.args.packet.now).head
  headed =
      let behind : ℕ → List ℕ = λ k. address_behind (Rule.source_prefix c.unwrap-r.result.now) k c.window-from.result in
      d4_head_lem _ _ _ c.requires.arrived _ _ _ _ _ read c.wide-w.ensures.0
      _ _ _ _ _ _ c.args_at-args.ensures c.octet_or_0-class.ensures c.window-from.ensures c.window-to.ensures
      (c.behind-source.ensures ∙ ap behind c.wide-q.ensures.0) c.sid_of-sid.ensures

pub send-requires : goal.send-requires
send-requires c =
    let j = judged (goal.at.send-requires c).After-sid_of-sid in
    (j.within c.in_ok-judge.was, omega (arith, c.head_size.ensures.1, c.requires.arrived.short))

pub put_head-requires : goal.put_head-requires
put_head-requires c =
    let at = goal.at.put_head-requires c in
    let j = judged at.After-sid_of-sid in
    let same = rule_same at.After-unwrap-r in
    record {
      count = c.wide-w.ensures.0;
      most = omega (arith, c.wide-w.ensures.0, rw (← same) at c.requires.sound.waypoints);
      from = refl;
      tail = refl;
      hops = refl;
      end = refl;
      field = rw (← c.payload.ensures) (j.fits c.in_ok-judge.was);
      spacious = rw (← c.head_size.ensures.0) (omega (arith, c.in_ok-sent.ensures.room _ refl));
    }

-- what is written before the inner packet, and what is sent
pub returns : goal.returns
returns c =
    let made = (goal.at.returns c).After-sid_of-sid in
    let head = d4_head c.unwrap-r.result.now c.octet_or_0-class.result in
    plan_sent _ c.args.packet.now _ (carried_out made) (judged made) c.in_ok-judge.was c.in_ok-sent.ensures (headed made) refl
    (run_count (sym c.head_size.ensures.0) (run_as c.put_head.ensures
    (λ i. head (c.inner_next.ensures i) c.behind-source.result c.sid_of-sid.result c.saturating_sub-size.result)))

pub returns-in_err-sent : goal.returns-in_err-sent
returns-in_err-sent c =
    let made = (goal.at.returns-in_err-sent c).After-sid_of-sid in
    let size = d4_size c.unwrap-r.result.now c.args.packet.now c.args.h c.requires.arrived _ _ _ _ _ (read made) c.wide-w.ensures.0
    c.octet_or_0-class.result (inner_protocol (Rule.session c.unwrap-r.result.now) (c.octet_or_0-first.result ∷ []))
    c.behind-source.result c.sid_of-sid.result (omega (arith, c.behind-source.type_inv)) (omega (arith, c.sid_of-sid.type_inv)) in
    let e = err_from_is_err_and c.from_residual-in_err-sent.result c.from_residual-in_err-sent.ensures.1 in
    rw (e.1, e.2)
    (plan_no_room _ c.args.packet.now _ (carried_out made) (judged made) c.in_ok-judge.was c.in_err-sent.ensures (headed made) refl
    (size ∙ sym c.head_size.ensures.0))
