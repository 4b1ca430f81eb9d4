use Rattle.copying.proofs.Laws.{tail_all, run_as}
use Rattle.far.specs.FarRows.{e6_head_of}
use Rattle.far.proofs.AtFar.{direction-below, e6_judged, e6_head_lem, e6-size}
use Rattle.std.proofs.lemmas.Result.{err_from_is_err_and}
use Rattle.answer.proofs.Calling.{Judged, plan_refused, plan_no_room, plan_sent}
use Rattle.rules.specs.Plan.{carry_out, e6_plan}
use Rattle.rules.specs.E6.{at_e6}
use Rattle.rules.proofs.Plans.{e6_carried_out}
use Rattle.std.specs.Prelude.{Err}
use native.Mathlib.Omega.{arith}
use mathlib.Core.Path.{◌≡◌, refl, ap, ◌∙◌}
use mathlib.Core.List.{List}
use Prim.Native.Nat.{ℕ, ◌+◌}
use lib.ListN.{length, drop, length-drop}
use Rattle.far.proofs.at_e6.Goals as goal
use Rattle.far.proofs.at_e6.Goals.{After-judge_e6, After-window-to}

-- the entry as an array is the entry, what the verdict says of the plan, and that it is carried out
module _ (c : After-judge_e6) where
  entry_same : c.unwrap-e.result.now ≡ c.args.e.now
  entry_same = (rw c.unwrap-e.ensures at c.as_array.ensures.cases).same

  judged : Judged (e6_plan c.unwrap-e.result.now c.args.packet.now) c.args.packet.now c.args.h.upperAt (24 + c.saturating_sub-size.result)
      c.judge_e6.result
  judged = e6_judged c.args.packet.now c.args.h c.requires.0.arrived _ c.saturating_sub-size.ensures _ _ c.judge_e6.ensures

  carried_out : carry_out (e6_plan c.unwrap-e.result.now c.args.packet.now) c.args.packet.now ≡ at_e6 c.args.e.now c.args.packet.now
  carried_out = e6_carried_out _ c.args.packet.now ∙ ap (λ (e : List ℕ). at_e6 e c.args.packet.now) entry_same

-- the plan's head
module _ (c : After-window-to) where
  headed : e6_head_of c.unwrap-e.result.now c.args.h.trafficClass c.window-sid.result c.window-to.result
      (drop c.args.h.upperAt c.args.packet.now) ≡ (e6_plan c.unwrap-e.result.now c.args.packet.now).head
  headed = e6_head_lem c.args.packet.now c.args.h c.requires.0.arrived _ c.saturating_sub-size.ensures _ _ _ _
      c.window-sid.ensures c.window-to.ensures refl

pub send-requires : goal.send-requires
send-requires c =
    let j = judged (goal.at.send-requires c).After-judge_e6 in
    (j.within c.in_ok-judge_e6.was, omega (arith, c.requires.0.arrived.short))

-- the inner packet begins within the arriving one
pub slice_bounds-put_e6-count : goal.slice_bounds-put_e6-count
slice_bounds-put_e6-count c =
    let j = judged (goal.at.slice_bounds-put_e6-count c).After-judge_e6 in
    j.within c.in_ok-judge_e6.was

pub slice_bounds-put_e6-start : goal.slice_bounds-put_e6-start
slice_bounds-put_e6-start c =
    let j = judged (goal.at.slice_bounds-put_e6-start c).After-judge_e6 in
    j.within c.in_ok-judge_e6.was

pub put_e6-requires : goal.put_e6-requires
put_e6-requires c =
    let a = c.args in
    let made = (goal.at.put_e6-requires c).After-judge_e6 in
    let j = judged made in
    record {
      direction = direction-below _ (rw (← entry_same made) at c.requires.1.direction);
      fits =
          let fits = j.fits c.in_ok-judge_e6.was in
          let l = ap length (tail_all a.h.upperAt a.packet.now) ∙ length-drop a.h.upperAt a.packet.now in
          omega (arith, fits, l, c.saturating_sub-size.ensures);
      spacious = omega (arith, c.in_ok-sent.ensures.room _ refl);
    }

pub returns-in_err-judge_e6 : goal.returns-in_err-judge_e6
returns-in_err-judge_e6 c =
    let made = (goal.at.returns-in_err-judge_e6 c).After-judge_e6 in
    let e = err_from_is_err_and c.from_residual.result c.from_residual.ensures.1 in
    plan_refused _ _ _ (carried_out made) (judged made) _ _ _ c.in_err-judge_e6.was (e.1 ∙ ap Err e.2)

pub returns : goal.returns
returns c =
    let a = c.args in
    let at = goal.at.returns c in
    let whole = ap (e6_head_of c.unwrap-e.result.now a.h.trafficClass c.window-sid.result c.window-to.result)
    (tail_all a.h.upperAt a.packet.now) in
    plan_sent _ _ _ (carried_out at.After-judge_e6) (judged at.After-judge_e6) c.in_ok-judge_e6.was c.in_ok-sent.ensures
    (headed at.After-window-to) refl (run_as c.put_e6.ensures whole)

pub returns-in_err-sent : goal.returns-in_err-sent
returns-in_err-sent c =
    let a = c.args in
    let at = goal.at.returns-in_err-sent c in
    let e = err_from_is_err_and c.from_residual-in_err-sent.result c.from_residual-in_err-sent.ensures.1 in
    rw (e.1, e.2)
    (plan_no_room _ _ _ (carried_out at.After-judge_e6) (judged at.After-judge_e6) c.in_ok-judge_e6.was c.in_err-sent.ensures
    (headed at.After-window-to) refl
    (e6-size c.unwrap-e.result.now a.h.trafficClass _ _ (drop a.h.upperAt a.packet.now) (omega (arith, c.window-to.type_inv))))
