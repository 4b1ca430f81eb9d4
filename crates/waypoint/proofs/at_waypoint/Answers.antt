use Rattle.waypoint.proofs.AtWaypoint.{chain_judged, step_judged, step_head, front_size}
use Rattle.std.proofs.lemmas.Result.{err_from_is_err_and}
use Rattle.answer.proofs.Calling.{Judged, plan_refused, plan_no_room, plan_sent}
use Rattle.rules.specs.Octets.{window}
use Rattle.rules.specs.Answer.{any, verdict}
use Rattle.rules.specs.Header.{bad_chain, WellFormed}
use Rattle.rules.specs.Waypoint.{Routing, routing, step, step_rows, with_routing}
use Rattle.rules.specs.Plan.{waypoint_plan}
use Rattle.rules.specs.declared.Header.{Header}
use Rattle.std.specs.Prelude.{Err}
use Rattle.rules.proofs.Plans.{waypoint_carried_out}
use Rattle.rules.proofs.Windows.{window-length}
use lib.ListN.{length}
use native.Mathlib.Omega.{arith}
use Prim.Native.Nat.{ℕ, ◌+◌, ◌-◌, ◌*◌}
use mathlib.Core.Bool.{Bool, false}
use mathlib.Core.List.{List}
use mathlib.Core.Path.{◌≡◌, refl, sym, ap, ◌∙◌, subst}
use Rattle.waypoint.proofs.at_waypoint.Goals as goal

-- a packet whose chain is good, its front, the segment that is named, and the state that was read
module _ (p : List ℕ) (h : Header) (s : WellFormed p h) {b : Bool} (bad : b ≡ any (bad_chain h)) (good : b ≡ false) (front : List ℕ)
    (here : front ≡ window p 0 48) {k : ℕ} (place : k ≡ 48 + 16 * (h.segmentsLeft - 1)) {segment : List ℕ}
    (read : segment ≡ window p k 16) {state : Routing} (of : state ≡ routing front) where
  clean : any (bad_chain h) ≡ false
  clean = sym bad ∙ good

  named : segment ≡ window p (48 + 16 * (h.segmentsLeft - 1)) 16
  named = read ∙ ap (λ (k : ℕ). window p k 16) place

  judged : Judged (waypoint_plan p) p 48 (length p - 40) (verdict (step_rows state.segmentsLeft state.hopLimit h))
  judged = subst (λ (r : Routing). Judged (waypoint_plan p) p 48 (length p - 40) (verdict (step_rows r.segmentsLeft r.hopLimit h)))
      (sym of) (step_judged p h s clean front segment here named)

  headed : {next : Routing} {again : List ℕ} → next ≡ step state segment → again ≡ window p 0 48
      → with_routing again next ≡ (waypoint_plan p).head
  headed q once = step_head p h s clean front segment here named _ _ (q ∙ ap (λ (r : Routing). step r segment) of) once

pub returns-then-bad_chain : goal.returns-then-bad_chain
returns-then-bad_chain c =
    let p : List ℕ = c.args.packet.now in
    let j = chain_judged p c.args.h c.requires.0 (sym c.bad_chain.ensures ∙ c.if-bad_chain.true) in
    plan_refused _ p _ (waypoint_carried_out p) j _ _ _ refl (ap Err c.bad_chain-then-bad_chain.ensures)

pub send-requires : goal.send-requires
send-requires c =
    let p : List ℕ = c.args.packet.now in
    let j = judged p c.args.h c.requires.0 c.bad_chain.ensures c.if-bad_chain.false c.args.front c.requires.1 c.segment_at.ensures
    c.at-segment.ensures c.of.ensures in
    (j.within c.in_ok-next.ensures.0, omega (arith, c.requires.0.short))

pub returns-in_err-next : goal.returns-in_err-next
returns-in_err-next c =
    let p : List ℕ = c.args.packet.now in
    let j = judged p c.args.h c.requires.0 c.bad_chain.ensures c.if-bad_chain.false c.args.front c.requires.1 c.segment_at.ensures
    c.at-segment.ensures c.of.ensures in
    let e = err_from_is_err_and c.from_residual.result c.from_residual.ensures.1 in
    plan_refused _ p _ (waypoint_carried_out p) j _ _ _ c.in_err-next.ensures (e.1 ∙ ap Err e.2)

pub returns-in_err-sent : goal.returns-in_err-sent
returns-in_err-sent c =
    let p : List ℕ = c.args.packet.now in
    let j = judged p c.args.h c.requires.0 c.bad_chain.ensures c.if-bad_chain.false c.args.front c.requires.1 c.segment_at.ensures
    c.at-segment.ensures c.of.ensures in
    let h = headed p c.args.h c.requires.0 c.bad_chain.ensures c.if-bad_chain.false c.args.front c.requires.1 c.segment_at.ensures
    c.at-segment.ensures c.of.ensures {again = window p 0 48} c.in_ok-next.ensures.1 refl in
    let long = ap (λ (r : Routing). length r.destination) c.in_ok-next.ensures.1 ∙ ap length c.at-segment.ensures ∙ window-length p _ 16 in
    let e = err_from_is_err_and c.from_residual-in_err-sent.result c.from_residual-in_err-sent.ensures.1 in
    rw (e.1, e.2)
    (plan_no_room _ p _ (waypoint_carried_out p) j c.in_ok-next.ensures.0 c.in_err-sent.ensures h refl
    (front_size _ _ (window-length p 0 48) long))

pub returns : goal.returns
returns c =
    let p : List ℕ = c.args.packet.now in
    let j = judged p c.args.h c.requires.0 c.bad_chain.ensures c.if-bad_chain.false c.args.front c.requires.1 c.segment_at.ensures
    c.at-segment.ensures c.of.ensures in
    let h = headed p c.args.h c.requires.0 c.bad_chain.ensures c.if-bad_chain.false c.args.front c.requires.1 c.segment_at.ensures
    c.at-segment.ensures c.of.ensures c.in_ok-next.ensures.1 c.window-again.ensures in
    plan_sent _ p _ (waypoint_carried_out p) j c.in_ok-next.ensures.0 c.in_ok-sent.ensures h refl c.put_front.ensures
