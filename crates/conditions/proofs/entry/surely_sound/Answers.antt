use mathlib.Core.Path.{sym, ◌∙◌}
use native.Mathlib.Omega.{arith}
use Rattle.conditions.proofs.Surely.{sound-end, sound_gtp6d, sound-e6, sound-e4}
use Rattle.conditions.proofs.entry.surely_sound.Goals as goal

pub returns-then-behaviour-eq-END : goal.returns-then-behaviour-eq-END
returns-then-behaviour-eq-END c = λ q.
    let whole = rw c.unwrap-e.ensures at c.as_array.ensures.cases in
    rw (← whole.same) (sound-end _ _ (c.front_sound.ensures c.if-not-front_sound.false) c.if-behaviour-eq-END.true q)

pub returns-then-behaviour-le-END_M_GTP6_D_DI : goal.returns-then-behaviour-le-END_M_GTP6_D_DI
returns-then-behaviour-le-END_M_GTP6_D_DI c = λ q.
    let whole = rw c.unwrap-e.ensures at c.as_array.ensures.cases in
    let f = c.front_sound.ensures c.if-not-front_sound.false in
    let d = sym c.direction_known.ensures ∙ c.if-not-direction_known.false in
    let s = sym c.session_known.ensures ∙ c.if-not-session_known.false in
    rw (← whole.same) (sound_gtp6d _ _ f d s (omega arith) (omega arith) (rw (← c.from.ensures) q))

pub returns-then-behaviour-eq-END_M_GTP6_E : goal.returns-then-behaviour-eq-END_M_GTP6_E
returns-then-behaviour-eq-END_M_GTP6_E c = λ q.
    let whole = rw c.unwrap-e.ensures at c.as_array.ensures.cases in
    let f = c.front_sound.ensures c.if-not-front_sound.false in
    let d = sym c.direction_known.ensures ∙ c.if-not-direction_known.false in
    let s = sym c.session_known.ensures ∙ c.if-not-session_known.false in
    rw (← whole.same) (sound-e6 _ _ f d s c.if-behaviour-eq-END_M_GTP6_E.true (rw (← c.start_sound.ensures) q))

pub returns-then-behaviour-eq-END_M_GTP4_E : goal.returns-then-behaviour-eq-END_M_GTP4_E
returns-then-behaviour-eq-END_M_GTP4_E c = λ q.
    let whole = rw c.unwrap-e.ensures at c.as_array.ensures.cases in
    let f = c.front_sound.ensures c.if-not-front_sound.false in
    let d = sym c.direction_known.ensures ∙ c.if-not-direction_known.false in
    let s = sym c.session_known.ensures ∙ c.if-not-session_known.false in
    rw (← whole.same) (sound-e4 _ _ f d s c.if-behaviour-eq-END_M_GTP4_E.true (rw (← c.places_sound.ensures) q))
