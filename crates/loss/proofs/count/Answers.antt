-- The first position is the lowest row of the TEID, the second the lowest free one.
use Rattle.std.proofs.Common.{◌≡◌, ℕ, Option, Some, None, Result, Err, sym, ◌∙◌}
use Rattle.std.specs.Option.{ok_or}
use Rattle.std.proofs.lemmas.Result.{err_from_is_err_and}
use Rattle.loss.specs.Answered.{answer_of}
use Rattle.loss.specs.Loss.{free, of_teid}
use Rattle.loss.specs.declared.Refusal.{Refusal}
use Rattle.loss.specs.declared.Refusal.TheVariants.{NoRow}
use Rattle.loss.proofs.Searching.{found, offer-none, offer-full, offer-counted, offer-started}
use Rattle.loss.proofs.count.Goals as goal

-- no place becomes the refusal of that name
none_free : (f : Option ℕ) (g : Result ℕ Refusal) (r : Result (Unit {0}) Refusal) (e y : Refusal) → f ≡ None → g ≡ ok_or f NoRow
    → g ≡ Err e → r ≡ Err y → y ≡ e → answer_of r ≡ 25
none_free f g r e y n d w p q =
    let h : g ≡ Err NoRow = rw n at d in
    let k : e ≡ NoRow = cc in
    rw (p, q, k)

pub returns-then-row : goal.returns-then-row
returns-then-row c =
    let rows = c.args.rows.now in
    let l = found (of_teid c.args.teid) rows c.used_of-n.result (Some c.in-Some.own) c.used_of-n.ensures.value c.in-Some.ensures in
    offer-full rows c.args.teid c.args.number c.in-Some.own l.0 l.1 l.2 c.if-row.true

pub returns-in-Some : goal.returns-in-Some
returns-in-Some c =
    let rows = c.args.rows.now in
    let l = found (of_teid c.args.teid) rows c.used_of-n.result (Some c.in-Some.own) c.used_of-n.ensures.value c.in-Some.ensures in
    offer-counted rows c.args.teid c.args.number c.in-Some.own l.0 l.1 l.2 c.if-row.false c.counted.result c.counted.ensures

pub returns-in_err-place : goal.returns-in_err-place
returns-in_err-place c =
    let rows = c.args.rows.now in
    let n = c.used_of-n.result in
    let own = found (of_teid c.args.teid) rows n None c.used_of-n.ensures.value c.in_default.ensures in
    let empty = found free rows n None c.used_of-n.ensures.value (sym c.in_err-place.ensures.ok_part ∙ c.free_place.ensures) in
    let p = err_from_is_err_and c.from_residual.result c.from_residual.ensures.1 in
    let failed = c.in_err-place in
    let e = none_free c.free_place.result c.ok_or.result c.from_residual.result failed.field-0.0 p.0 failed.ensures.ok_part
    c.ok_or.ensures.value failed.was p.1 p.2 in
    rw e
    (offer-none rows c.args.teid c.args.number empty own)

pub returns : goal.returns
returns c =
    let rows = c.args.rows.now in
    let n = c.used_of-n.result in
    let own = found (of_teid c.args.teid) rows n None c.used_of-n.ensures.value c.in_default.ensures in
    let l =
    found free rows n (Some c.in_ok-place.place) c.used_of-n.ensures.value (sym c.in_ok-place.ensures.ok_part ∙ c.free_place.ensures) in
    offer-started rows c.args.teid c.args.number c.in_ok-place.place l.0 l.1 l.2 own c.started.result c.started.ensures
