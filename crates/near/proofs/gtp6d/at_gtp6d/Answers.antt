use Rattle.near.proofs.AtGtp6D.{other6_judged, other6_carried_out, gtp6d_planned, gtp6d_refused, echo6-answered}
use Rattle.near.specs.Asked.{Gtp6DAsked}
use Rattle.path.proofs.Judged.{GpduRead}
use Rattle.std.specs.Prelude.{Err}
use Rattle.std.proofs.lemmas.Result.{err_from_is_err_and}
use Rattle.answer.proofs.Calling.{Judged, plan_no_room, plan_sent}
use Rattle.rules.specs.Plan.{carry_out, at_gtp6d, g_pdu_plan6}
use Rattle.copying.proofs.Laws.{run_count}
use Rattle.rules.specs.Octets.{octet}
use Rattle.rules.specs.Datagram.{datagram}
use Rattle.rules.specs.Echo.{is_echo}
use Rattle.rules.specs.declared.Datagram.{Datagram}
use native.Mathlib.Omega.{arith}
use Prim.Native.Nat.{ℕ, ◌+◌, ◌-◌, ◌*◌}
use lib.ListN.{length, drop}
use mathlib.Core.Bool.{false}
use mathlib.Core.List.{List}
use mathlib.Core.Path.{◌≡◌, refl, sym, ap, ◌∙◌}
use Rattle.near.proofs.gtp6d.at_gtp6d.Goals as goal
use Rattle.near.proofs.gtp6d.at_gtp6d.Goals.{After-judge}

-- what was read of the datagram that begins at octet `at`
read_of : (p : List ℕ) (at : ℕ) {g : Datagram} {inner size first : ℕ} → g ≡ datagram (drop at p)
    → inner ≡ 20 + 4 * g.extensionUnits → size ≡ length p - (at + inner) → first ≡ octet p (at + inner)
    → GpduRead p at g (at + inner) size first
read_of p at view begins holds starts = record {
  view = view;
  begins = ap (λ (j : ℕ). at + j) begins;
  holds = holds;
  starts = starts;
}

-- the records as arrays are the records, and what was read of the datagram
module _ (c : After-judge) where
  entry_same : c.unwrap-e.result.now ≡ c.args.e.now
  entry_same = (rw c.unwrap-e.ensures at c.as_array.ensures.cases).same

  policy_same : c.unwrap-policy.result.now ≡ c.args.policy.now
  policy_same = (rw c.unwrap-policy.ensures at c.as_array-2.ensures.cases).same

  asked : Gtp6DAsked c.unwrap-e.result.now c.unwrap-policy.result.now c.args.tail c.args.packet.now c.args.h
  asked = rw (← entry_same, ← policy_same) at c.requires

  read : GpduRead c.args.packet.now c.args.h.upperAt c.datagram_at-g.result (c.args.h.upperAt + c.inner_at.result)
      c.saturating_sub-size.result c.octet_or_0-first.result
  read = read_of c.args.packet.now c.args.h.upperAt c.datagram_at-g.ensures c.inner_at.ensures.0 c.saturating_sub-size.ensures
      c.octet_or_0-first.ensures

  -- where the message is no Echo Request: what the verdict says of the plan of a G-PDU, and that it is carried out
  module _ (other : is_echo c.datagram_at-g.result ≡ false) where
    judged : Judged (g_pdu_plan6 c.args.tail c.unwrap-e.result.now c.unwrap-policy.result.now c.args.packet.now) c.args.packet.now
        (c.args.h.upperAt + c.inner_at.result) (8 + 16 * (c.wide.result - 1 + c.args.tail) + c.saturating_sub-size.result) c.judge.result
    judged = other6_judged _ _ _ _ _ asked _ _ _ _ _ read c.wide.ensures.0 _ c.judge.ensures other

    carried_out : carry_out (g_pdu_plan6 c.args.tail c.unwrap-e.result.now c.unwrap-policy.result.now c.args.packet.now) c.args.packet.now
        ≡ at_gtp6d c.args.tail c.args.e.now c.args.policy.now c.args.packet.now
    carried_out = other6_carried_out _ _ _ _ _ asked _ _ _ _ _ read c.wide.ensures.0 _ c.judge.ensures other
        ∙ (λ i. at_gtp6d c.args.tail (entry_same i) (policy_same i) c.args.packet.now)

pub returns-then-is_echo : goal.returns-then-is_echo
returns-then-is_echo c =
    let at = (goal.at.returns-then-is_echo c).After-judge in
    rw (← entry_same at, ← policy_same at)
    (echo6-answered _ _ _ _ _ (asked at) _ _ _ _ _ (read at) c.wide.ensures.0 _
    c.judge.ensures (sym c.is_echo.ensures ∙ c.if-is_echo.true) c.in_ok-judge.was c.reply6.ensures)

pub returns-in_err-judge : goal.returns-in_err-judge
returns-in_err-judge c =
    let at = (goal.at.returns-in_err-judge c).After-judge in
    let e = err_from_is_err_and c.from_residual.result c.from_residual.ensures.1 in
    rw (← entry_same at, ← policy_same at)
    (gtp6d_refused _ _ _ _ _ (asked at) _ _ _ _ _ (read at) c.wide.ensures.0 _
    c.judge.ensures _ _ _ c.in_err-judge.was (e.1 ∙ ap Err e.2))

pub send-requires : goal.send-requires
send-requires c =
    let j = judged (goal.at.send-requires c).After-judge (sym c.is_echo.ensures ∙ c.if-is_echo.false) in
    (j.within c.in_ok-judge.was, omega (arith, j.fits c.in_ok-judge.was, c.saturating_sub-size.ensures))

pub put-requires : goal.put-requires
put-requires c =
    let at = (goal.at.put-requires c).After-judge in
    let other = sym c.is_echo.ensures ∙ c.if-is_echo.false in
    let plan = gtp6d_planned _ _ _ _ _ (asked at) _ _ _ _ _ (read at) c.wide.ensures.0 _ _ c.args_at-args.ensures c.window-to.ensures
    c.plan_of-plan.ensures ((judged at other).fits c.in_ok-judge.was) in
    plan.ready _ (omega (arith, c.in_ok-sent.ensures.room _ refl))

-- what is sent
pub returns : goal.returns
returns c =
    let at = (goal.at.returns c).After-judge in
    let other = sym c.is_echo.ensures ∙ c.if-is_echo.false in
    let plan = gtp6d_planned _ _ _ _ _ (asked at) _ _ _ _ _ (read at) c.wide.ensures.0 _ _ c.args_at-args.ensures c.window-to.ensures
    c.plan_of-plan.ensures ((judged at other).fits c.in_ok-judge.was) in
    plan_sent _ _ _ (carried_out at other) (judged at other) c.in_ok-judge.was c.in_ok-sent.ensures plan.head refl
    (run_count plan.count c.put.ensures)

pub returns-in_err-sent : goal.returns-in_err-sent
returns-in_err-sent c =
    let at = (goal.at.returns-in_err-sent c).After-judge in
    let other = sym c.is_echo.ensures ∙ c.if-is_echo.false in
    let plan = gtp6d_planned _ _ _ _ _ (asked at) _ _ _ _ _ (read at) c.wide.ensures.0 _ _ c.args_at-args.ensures c.window-to.ensures
    c.plan_of-plan.ensures ((judged at other).fits c.in_ok-judge.was) in
    let e = err_from_is_err_and c.from_residual-in_err-sent.result c.from_residual-in_err-sent.ensures.1 in
    rw (e.1, e.2)
    (plan_no_room _ _ _ (carried_out at other) (judged at other) c.in_ok-judge.was c.in_err-sent.ensures plan.head refl plan.size)
