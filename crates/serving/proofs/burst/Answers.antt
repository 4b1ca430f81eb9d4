use lib.ListN.{length}
use Rattle.burst.proofs.Laws.{fit}
use Rattle.serving.proofs.Wholes.{fill_splice, packed_named, whole-refused, whole_unsound, whole_served}
use Rattle.rules.specs.Answer.{plain}
use mathlib.Core.Path.{sym, ◌∙◌}
use Rattle.serving.proofs.burst.Goals as goal

pub returns-then-is_unfit : goal.returns-then-is_unfit
returns-then-is_unfit g c =
    let u = sym c.is_unfit.ensures ∙ c.if-is_unfit.true in
    whole-refused _ _ _ _ _ _ _ u (packed_named (plain 19) _ _ _ c.bad_burst.ensures c.refused.ensures.0
    c.pack.ensures)

pub returns-then-not-sound : goal.returns-then-not-sound
returns-then-not-sound g c =
    let a = c.args in
    let f = sym c.is_unfit.ensures ∙ c.if-is_unfit.false in
    let u = sym c.sound.ensures ∙ c.if-not-sound.true in
    let filled = fill_splice a.answers.now c.fill.new.self (length a.lengths.now) c.pack-answer.result (fit _ _ _ f).placed
    (c.fill.ensures.after (λ y e. e)) in
    whole_unsound _ _ _ _ _ _ _ f u _ _
    (packed_named (plain 1) _ _ _ c.unsound.ensures c.refused-then-not-sound.ensures.0 c.pack-answer.ensures) filled c.sent.ensures

pub returns : goal.returns
returns g c =
    let f = sym c.is_unfit.ensures ∙ c.if-is_unfit.false in
    whole_served _ _ _ _ _ _ _ f _ _ _ c.serve.ensures c.sent-2.ensures
