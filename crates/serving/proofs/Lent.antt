-- The rest of a buffer, lent to a call: what the whole buffer holds afterwards.
use mathlib.Core.Path.{◌≡◌, sym, ap, ◌∙◌}
use mathlib.Core.List.{List, ◌++◌, append_assoc, append-nil}
use Prim.Native.Nat.{ℕ, ◌+◌, ◌-◌}
use native.Mathlib.Nat.{zero-add, le_refl}
use lib.ListN.{length, take, drop, length-drop, take-append-drop, drop_of_length-le}
use lib.Seq.{drop-drop}
use Rattle.rules.specs.Octets.{splice}
use Rattle.rules.specs.Answer.{Outcome, Sent, Refused, overlay}
use Rattle.answer.specs.Answered.{Packs}
use Rattle.copying.proofs.Laws.{splice-nil, first}
use Rattle.burst.specs.Burst.{result}
use Rattle.burst.proofs.Laws.{result-size}
use Rattle.serving.specs.Serving.{PacksAt}

lent : (o : List ℕ) (a : ℕ) (x : List ℕ) → take a o ++ splice (drop a o) 0 x ≡ splice o a x
unfolding splice
lent o a x =
    ap (λ (l : List ℕ). take a o ++ (x ++ l)) (ap (λ (k : ℕ). drop k (drop a o)) (zero-add (length x)) ∙ drop-drop (length x) a o)
    ∙ sym (append_assoc (take a o) x (drop (a + length x) o))

-- an outcome laid over it
pub lent_outcome : (buffer : List ℕ) (used : ℕ) (o : Outcome)
    → take used buffer ++ overlay o (drop used buffer) ≡ splice buffer used (result o)
unfolding result overlay
lent_outcome buffer used (Sent x) = lent buffer used x
lent_outcome buffer used (Refused r) = take-append-drop used buffer ∙ sym (splice-nil buffer used)

-- the buffer as it comes back from a call that was lent its rest
pub back_tail : (buffer : List ℕ) (used : ℕ) (rest : List ℕ)
    → take used buffer ++ (rest ++ drop (length buffer - used) (drop used buffer)) ≡ take used buffer ++ rest
back_tail buffer used rest =
    rw (drop_of_length-le (drop used buffer) {i = length buffer - used} (simp length-drop (le_refl (length buffer - used))), append-nil)

pub lent_packs : (o : Outcome) (buffer : List ℕ) (used answer : ℕ) (rest : List ℕ) → Packs o (drop used buffer) answer rest
    → PacksAt used o buffer answer (take used buffer ++ (rest ++ drop (length buffer - used) (drop used buffer)))
lent_packs o buffer used answer rest r = record {
  tells = r.tells;
  holds = first buffer used (result o) _
      (back_tail buffer used rest ∙ ap (λ (l : List ℕ). take used buffer ++ l) r.holds ∙ lent_outcome buffer used o)
      (result-size o ∙ sym r.size);
  small = rw r.size r.small;
}
