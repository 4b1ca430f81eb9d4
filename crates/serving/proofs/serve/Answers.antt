use Rattle.serving.specs.Serving.{PacksAt}
use Rattle.serving.proofs.Loop.{serving-start, serving_next, serving-end, place_next}
use Rattle.rules.specs.Trip.{translate}
use mathlib.Core.Path.{◌≡◌}
use mathlib.Core.List.{List}
use Prim.Native.Nat.{ℕ, ◌+◌, ◌-◌}
use native.Mathlib.Nat.{add-sub_cancel_left}
use native.Mathlib.Omega.{arith}
use native.Mathlib.Numerals.{add-one}
use lib.ListN.{length, take, drop, get_or}
use Rattle.serving.proofs.serve.Goals as goal

pub loop-i-init : goal.loop-i-init
loop-i-init g c = serving-start _ _ _ _ _ _

pub overflow_add-end : goal.overflow_add-end
overflow_add-end g c =
    let l = c.loop-i in
    omega (arith, place_next _ _ _ l.i _ c.requires.0 (omega arith) l.invariant.at)

pub slice_bounds-one-end : goal.slice_bounds-one-end
slice_bounds-one-end g c =
    let l = c.loop-i in
    omega (arith, place_next _ _ _ l.i _ c.requires.0 (omega arith) l.invariant.at)

pub loop-i-preserved : goal.loop-i-preserved
loop-i-preserved g c =
    let a = c.args in
    let l = c.loop-i in
    let v = g.C.Call.version in
    let p : List ℕ = a.packets.now in
    let n : ℕ = get_or a.lengths.now l.i 0 in
    let one = c.one-answer in
    let cut : l.place + n - l.place ≡ n = add-sub_cancel_left _ _ in
    let r : PacksAt l.used (translate v (take n (drop l.place p)) a.table.now (length l.out - l.used)) l.out one.result _ =
    rw cut at one.ensures in
    rw (add-one, c.size_of-used.ensures)
    (serving_next v a.lengths.now p a.table.now a.out.now a.answers.now l.out l.answers _
    l.i l.place l.used one.result l.invariant (omega arith) c.requires.0.placed r one.auto.out)

pub returns : goal.returns
returns g c =
    let l = c.loop-i in
    serving-end _ _ _ _ _ _ _ _ l.i _ _ l.invariant (omega arith) c.requires.0
