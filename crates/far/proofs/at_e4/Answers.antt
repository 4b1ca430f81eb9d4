use Rattle.far.proofs.AtFar.{direction-below, e4_judged, e4_head_lem, e4-size}
use Rattle.std.proofs.lemmas.Result.{err_from_is_err_and}
use Rattle.answer.proofs.Calling.{Judged, plan_refused, plan_no_room, plan_sent}
use Rattle.rules.specs.Plan.{carry_out, e4_head, e4_plan}
use Rattle.rules.specs.E4.{at_e4}
use Rattle.rules.proofs.Plans.{e4_carried_out}
use mathlib.Core.Path.{◌≡◌, refl, ap, ◌∙◌}
use mathlib.Core.List.{List}
use Prim.Native.Nat.{ℕ, ◌+◌}
use Rattle.std.specs.Prelude.{Err}
use native.Mathlib.Omega.{arith}
use Rattle.far.proofs.at_e4.Goals as goal
use Rattle.far.proofs.at_e4.Goals.{After-judge_e4, After-window-from}

-- the entry as an array is the entry, what the verdict says of the plan, and that it is carried out
module _ (c : After-judge_e4) where
  entry_same : c.unwrap-e.result.now ≡ c.args.e.now
  entry_same = (rw c.unwrap-e.ensures at c.as_array.ensures.cases).same

  judged : Judged (e4_plan c.unwrap-e.result.now c.args.packet.now) c.args.packet.now c.args.h.upperAt (44 + c.saturating_sub-size.result)
      c.judge_e4.result
  judged = e4_judged c.args.packet.now c.args.h c.requires.0.arrived _ c.saturating_sub-size.ensures _ _ c.judge_e4.ensures

  carried_out : carry_out (e4_plan c.unwrap-e.result.now c.args.packet.now) c.args.packet.now ≡ at_e4 c.args.e.now c.args.packet.now
  carried_out = e4_carried_out _ c.args.packet.now ∙ ap (λ (e : List ℕ). at_e4 e c.args.packet.now) entry_same

-- the plan's head
module _ (c : After-window-from) where
  headed : e4_head c.unwrap-e.result.now c.args.h.trafficClass c.window-sid.result c.window-from.result c.saturating_sub-size.result
      ≡ (e4_plan c.unwrap-e.result.now c.args.packet.now).head
  headed = e4_head_lem c.args.packet.now c.args.h c.requires.0.arrived _ c.saturating_sub-size.ensures _ _ _
      c.window-sid.ensures c.window-from.ensures

pub send-requires : goal.send-requires
send-requires c =
    let j = judged (goal.at.send-requires c).After-judge_e4 in
    (j.within c.in_ok-judge_e4.was, omega (arith, c.requires.0.arrived.short))

pub put_e4-requires : goal.put_e4-requires
put_e4-requires c =
    let a = c.args in
    let made = (goal.at.put_e4-requires c).After-judge_e4 in
    let j = judged made in (
      record {
        direction = direction-below _ (rw (← entry_same made) at c.requires.1.direction);
        fits = j.fits c.in_ok-judge_e4.was;
        spacious = omega (arith, c.in_ok-sent.ensures.room _ refl);
      },
      rw (← entry_same made) at c.requires.1.p,
    )

pub returns-in_err-judge_e4 : goal.returns-in_err-judge_e4
returns-in_err-judge_e4 c =
    let made = (goal.at.returns-in_err-judge_e4 c).After-judge_e4 in
    let e = err_from_is_err_and c.from_residual.result c.from_residual.ensures.1 in
    plan_refused _ _ _ (carried_out made) (judged made) _ _ _ c.in_err-judge_e4.was (e.1 ∙ ap Err e.2)

pub returns : goal.returns
returns c =
    let at = goal.at.returns c in
    plan_sent _ _ _ (carried_out at.After-judge_e4) (judged at.After-judge_e4) c.in_ok-judge_e4.was c.in_ok-sent.ensures
    (headed at.After-window-from) refl c.put_e4.ensures

pub returns-in_err-sent : goal.returns-in_err-sent
returns-in_err-sent c =
    let a = c.args in
    let at = goal.at.returns-in_err-sent c in
    let e = err_from_is_err_and c.from_residual-in_err-sent.result c.from_residual-in_err-sent.ensures.1 in
    rw (e.1, e.2)
    (plan_no_room _ _ _ (carried_out at.After-judge_e4) (judged at.After-judge_e4) c.in_ok-judge_e4.was c.in_err-sent.ensures
    (headed at.After-window-from) refl
    (e4-size c.unwrap-e.result.now a.h.trafficClass _ _ _))
