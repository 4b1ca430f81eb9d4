use mathlib.Core.Path.{◌≡◌, sym, ◌∙◌}
use mathlib.Core.List.{List}
use Prim.Native.Nat.{ℕ, ◌*◌}
use Rattle.rules.specs.Octets.{octet}
use Rattle.rules.specs.Sound.{sid_prefix_clear, source_prefix_clear}
use Rattle.conditions.proofs.Surely.{clear-words, sound-rule}
use Rattle.conditions.proofs.rule.surely_sound.Goals as goal

pub returns : goal.returns
returns c = λ q.
    let r : List ℕ = c.unwrap-r.result.now in
    let whole = rw c.unwrap-r.ensures at c.as_array.ensures.cases in
    let sid : c.words_clear.result ≡ sid_prefix_clear r =
    clear-words r 16 (8 * octet r 4) (rw (← c.from-p.ensures) c.words_clear.ensures)
    c.eight.ensures.value c.eight-2.ensures.value in
    let source : c.words_clear-2.result ≡ source_prefix_clear r =
    clear-words r 32 (8 * octet r 5) (rw (← c.from-q.ensures) c.words_clear-2.ensures)
    c.eight-3.ensures.value c.eight-4.ensures.value in
    rw (← whole.same)
    (sound-rule r (c.octets_sound.ensures (c.if-not-octets_sound.false))
    (sym c.prefix_clear.ensures ∙ c.if-not-prefix_clear.false) (sym sid ∙ c.if-not-words_clear.false) (sym source ∙ q))
