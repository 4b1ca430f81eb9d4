-- The burst as a whole: refused by row 19, with a table that is not sound, and served.
use mathlib.Core.Path.{◌≡◌, refl, sym, ap, ◌∙◌}
use mathlib.Core.Bool.{true, false}
use mathlib.Core.List.{List, [], ◌++◌}
use Prim.Native.Nat.{ℕ, ◌≤◌}
use native.Mathlib.Nat.{zero-add}
use lib.ListN.{length, take, drop, replicate, length-replicate}
use lib.Seq.{length-take-le}
use Rattle.rules.specs.Octets.{splice}
use Rattle.rules.specs.Sound.{sound}
use Rattle.rules.specs.Answer.{plain, any, Outcome, Sent, Refused, overlay, packed, packed_fields}
use Rattle.rules.specs.Trip.{Version}
use Rattle.rules.specs.declared.Refusal.{Refusal}
use Rattle.answer.specs.Answered.{answer_of}
use Rattle.answer.specs.declared.Answer.{Answer}
use Rattle.answer.proofs.Settling.{packed-answer}
use Rattle.copying.proofs.Laws.{splice-nil}
use Rattle.burst.specs.Burst.{cut, outcomes, results, answers, unfit, burst}
use Rattle.serving.specs.Serving.{Served, Whole}
use Rattle.burst.proofs.Laws.{cut-length, burst-refused, burst-sent, answered_kept, answered-told}
use Rattle.burst.proofs.Laws.{outcomes_unsound, results-refused, answers-refused}

-- a refusal that was made under its name, and packed
pub packed_named : (ρ r : Refusal) (a : Answer) (w : ℕ) → r ≡ ρ → a ≡ answer_of (Refused r)
    → w ≡ packed_fields a.number a.icmpType a.icmpCode a.pointer a.size → w ≡ packed (Refused ρ)
packed_named ρ r a w e f g =
    g ∙ ap (λ (a : Answer). packed_fields a.number a.icmpType a.icmpCode a.pointer a.size) f ∙ packed-answer (Refused r)
    ∙ ap (λ (r : Refusal). packed (Refused r)) e

-- a first part of the places that was filled
pub fill_splice : (places filled : List ℕ) (n answer : ℕ) → n ≤ length places → filled ≡ replicate (length (take n places)) answer
    → filled ++ drop n places ≡ splice places 0 (replicate n answer)
unfolding splice
fill_splice places filled n answer h e = rw (e, length-take-le n places h, zero-add, length-replicate) refl

module _ (v : Version) (ls p t out places : List ℕ) (answer : ℕ) where
  pub whole-refused : any (unfit ls p (length places)) ≡ true → answer ≡ packed (Refused (plain 19)) → Whole v ls p t out places answer out
      places
  unfolding overlay
  whole-refused h e =
      let b = burst-refused v ls p t (length out) (length places) h in (
        e ∙ ap packed (sym b),
        sym (ap (λ (o : Outcome). overlay o out) b),
        sym (answered_kept v ls p t (length out) places h),
      )

  module _ (h : any (unfit ls p (length places)) ≡ false) where
    sent : burst v ls p t (length out) (length places) ≡ Sent (results (outcomes v t (cut ls p) (length out)))
    sent = burst-sent v ls p t (length out) (length places) h

    pub whole_served : (size : ℕ) (out' places' : List ℕ) → Served v ls p t out places size out' places'
        → answer ≡ packed_fields 0 0 0 0 size → Whole v ls p t out places answer out' places'
    unfolding overlay packed
    whole_served size out' places' s e = (
      e ∙ ap (λ (n : ℕ). packed_fields 0 0 0 0 n) (sym s.holds.count) ∙ ap packed (sym sent),
      s.holds.holds ∙ ap (λ (o : Outcome). overlay o out) (sym sent),
      s.tells ∙ sym (answered-told v ls p t (length out) places h),
    )

    pub whole_unsound : sound t ≡ false → (w : ℕ) (places' : List ℕ) → w ≡ packed (Refused (plain 1))
        → places' ≡ splice places 0 (replicate (length ls) w) → answer ≡ packed_fields 0 0 0 0 0
        → Whole v ls p t out places answer out places'
    unfolding overlay packed
    whole_unsound u w places' e f g =
        let n : ℕ = length ls in
        let all : outcomes v t (cut ls p) (length out) ≡ replicate n (Refused (plain 1)) =
        outcomes_unsound v t u (cut ls p) (length out) ∙ ap (λ (k : ℕ). replicate k (Refused (plain 1))) (cut-length ls p) in
        let none : results (outcomes v t (cut ls p) (length out)) ≡ [] = ap results all ∙ results-refused n in
        let b : burst v ls p t (length out) (length places) ≡ Sent [] = sent ∙ ap Sent none in (
          g ∙ ap packed (sym b),
          sym (ap (λ (o : Outcome). overlay o out) b ∙ splice-nil out 0),
          f ∙ ap (λ (w : ℕ). splice places 0 (replicate n w)) e
              ∙ ap (λ (l : List ℕ). splice places 0 l) (sym (ap answers all ∙ answers-refused n))
              ∙ sym (answered-told v ls p t (length out) places h),
        )
