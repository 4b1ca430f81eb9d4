-- What a call has to show of its answer and its buffer, from the verdict and the room.
use mathlib.Core.Path.{◌≡◌, refl, sym, ap, ◌∙◌}
use mathlib.Core.List.{List}
use Prim.Native.Nat.{ℕ, ◌/◌, ◌≤◌, ◌<◌}
use native.Mathlib.Omega.{arith}
use lib.ListN.{length}
use borrow.Author.Tests.{lt-ltb}
use Rattle.rules.specs.Answer.{Row, plain, verdict, Outcome, Sent, Refused, after, unless, settle, overlay, packed, packed_fields, Verdict}
use Rattle.rules.specs.declared.Refusal.{Refusal}
use Rattle.std.specs.Prelude.{Result, Ok, Err}
use Rattle.rules.proofs.Rows.{settle-sent}
use Rattle.answer.specs.declared.Answer.{Answer}
use Rattle.answer.specs.Answered.{result_of, answer_to, answer_of, Settled, Answered, Packs}

-- an answer that was packed is the outcome, packed
pub packed-answer : (o : Outcome) → packed_fields (answer_of o).number (answer_of o).icmpType (answer_of o).icmpCode (answer_of o).pointer
    (answer_of o).size ≡ packed o
unfolding packed
packed-answer (Sent x) = refl
packed-answer (Refused r) = refl

-- the length that a packed answer holds; each of the fields in front of it is within its bits
packed-size : (number icmp_type icmp_code pointer size : ℕ) → number < 256 → icmp_type < 256 → icmp_code < 256 → pointer < 65536
    → packed_fields number icmp_type icmp_code pointer size / 0x10000000000 ≡ size
packed-size number icmp_type icmp_code pointer size h₁ h₂ h₃ h₄ = omega arith

-- an answer, packed
pub answered-packed : (o : Outcome) (b b' : List ℕ) (a : Answer) (w : ℕ) → Answered o b a b'
    → a.number < 256 → a.icmpType < 256 → a.icmpCode < 256 → a.pointer < 65536
    → w ≡ packed_fields a.number a.icmpType a.icmpCode a.pointer a.size → Packs o b w b'
answered-packed o b b' a w r h₁ h₂ h₃ h₄ e = record {
  tells = e ∙ ap (λ (a : Answer). packed_fields a.number a.icmpType a.icmpCode a.pointer a.size) r.tells ∙ packed-answer o;
  size = ap (λ (w : ℕ). w / 0x10000000000) e ∙ packed-size _ _ _ _ _ h₁ h₂ h₃ h₄ ∙ ap (λ (a : Answer). a.size) r.tells;
  holds = r.holds;
  small = rw (← ap (λ (a : Answer). a.size) r.tells) r.small;
}

-- what was handed back, answered
pub answered-settled : (o : Outcome) (b b' : List ℕ) (e : Result ℕ Refusal) (a : Answer) → Settled o b e b' → a ≡ answer_to e
    → Answered o b a b'
answered-settled (Sent x) b b' e a s q = record {
  tells = q ∙ ap answer_to s.tells;
  holds = s.holds;
  small = rw (q ∙ ap answer_to s.tells) s.small;
}
answered-settled (Refused r) b b' e a s q = record {
  tells = q ∙ ap answer_to s.tells;
  holds = s.holds;
  small = rw (q ∙ ap answer_to s.tells) s.small;
}

-- refused: the buffer stays
pub answered-refused : (o : Outcome) (ρ : Refusal) (b : List ℕ) (a : Answer) → o ≡ Refused ρ → (a ≡ answer_of (Refused ρ)) ×
    (a.size < 65700) → Answered o b a b
unfolding overlay
answered-refused o ρ b a q (e, l) = record {
  tells = e
      ∙ ap answer_of (sym q);
  holds = sym (ap (λ (o : Outcome). overlay o b) q);
  small = l;
}

pub settled-refused : (o : Outcome) (ρ : Refusal) (b : List ℕ) (e : Result ℕ Refusal) → o ≡ Refused ρ → e ≡ Err ρ → Settled o b e b
unfolding overlay
settled-refused o ρ b e q r = record {
  tells = r ∙ ap result_of (sym q);
  holds = sym (ap (λ (o : Outcome). overlay o b) q);
  small = rw q (omega arith);
}

-- the same of a refusal that was made under its name
pub answered_named : (o : Outcome) (ρ r : Refusal) (b : List ℕ) (a : Answer) → o ≡ Refused ρ → r ≡ ρ → (a ≡ answer_of (Refused r)) ×
    (a.size < 65700)
    → Answered o b a b
answered_named o ρ r b a q e h = answered-refused o r b a (q ∙ ap Refused (sym e)) h

pub settled_named : (o : Outcome) (ρ r : Refusal) (b : List ℕ) → o ≡ Refused ρ → r ≡ ρ → Settled o b (Err r) b
settled_named o ρ r b q e = settled-refused o r b (Err r) (q ∙ ap Refused (sym e)) refl

-- sent: the buffer holds the packet over what was there
pub settled-sent : (o : Outcome) (x b b' : List ℕ) (n : ℕ) (e : Result ℕ Refusal) → o ≡ Sent x → e ≡ Ok n → n ≡ length x → n < 65700
    → b' ≡ overlay (Sent x) b → Settled o b e b'
settled-sent o x b b' n e q r l s h = record {
  tells = r ∙ ap Ok l ∙ ap result_of (sym q);
  holds = h ∙ ap (λ (o : Outcome). overlay o b) (sym q);
  small = rw (q, ← l) s;
}

-- row 16
pub room_short : (room : ℕ) (x : List ℕ) → room < length x → settle room (Sent x) ≡ Refused (plain 16)
unfolding settle verdict
room_short room x h = rw (lt-ltb room (length x) h)

pub room_enough : (room : ℕ) (x : List ℕ) → length x ≤ room → settle room (Sent x) ≡ Sent x
room_enough room x h = settle-sent room (Sent x) x refl h

-- a verdict settles what follows it
pub refuse_settles : (room : ℕ) (rs : List Row) (o : Outcome) (ρ : Refusal) → verdict rs ≡ Err ρ → settle room (unless rs o) ≡ Refused ρ
unfolding settle
refuse_settles room rs o ρ e = ap (λ (v : Verdict). settle room (after v o)) e

pub pass_settles : (room : ℕ) (rs : List Row) (o : Outcome) → verdict rs ≡ Ok tt → settle room (unless rs o) ≡ settle room o
pass_settles room rs o e = ap (λ (v : Verdict). settle room (after v o)) e

-- what was handed back stays that where the outcome is said otherwise
pub settled_as : (o o' : Outcome) (b b' : List ℕ) (e : Result ℕ Refusal) → o ≡ o' → Settled o b e b' → Settled o' b e b'
settled_as o o' b b' e q r = rw (← q) r

-- an answer stays one where the outcome is said otherwise
pub answered_as : (o o' : Outcome) (b b' : List ℕ) (a : Answer) → o ≡ o' → Answered o b a b' → Answered o' b a b'
answered_as o o' b b' a q r = rw (← q) r
