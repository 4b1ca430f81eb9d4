-- What a call leaves behind: its answer, and its output buffer.
use Rattle.std.specs.Prelude.{◌≡◌, Result, Ok, Err, List, ℕ, ◌+◌, ◌-◌, ◌/◌, ◌≤◌, ◌<◌, length, drop}
use Rattle.rules.specs.Octets.{splice}
use Rattle.rules.specs.Answer.{Outcome, Sent, Refused, plain, overlay, packed}
use Rattle.rules.specs.declared.Refusal.{Refusal}
use Rattle.answer.specs.declared.Answer.{Answer}

-- the answer to an outcome
abbrev pub answer_of : Outcome → Answer
answer_of (Sent x) = record { number = 0; icmpType = 0; icmpCode = 0; pointer = 0; size = length x }
answer_of (Refused r) = record { number = r.number; icmpType = r.icmpType; icmpCode = r.icmpCode; pointer = r.pointer; size = 0 }

-- what a behaviour hands back of an outcome: the octets sent, or the refusal
abbrev pub result_of : Outcome → Result ℕ Refusal
result_of (Sent x) = Ok (length x)
result_of (Refused r) = Err r

-- and the answer to that
abbrev pub answer_to : Result ℕ Refusal → Answer
answer_to (Ok n) = record { number = 0; icmpType = 0; icmpCode = 0; pointer = 0; size = n }
answer_to (Err r) = record { number = r.number; icmpType = r.icmpType; icmpCode = r.icmpCode; pointer = r.pointer; size = 0 }

-- the outcome was handed back, and the buffer that held `before` now holds `after`; a packet is no longer than its length field allows
pub record Settled (o : Outcome) (before : List ℕ) (result : Result ℕ Refusal) (after : List ℕ) : Type 0 where
  pub tells : result ≡ result_of o
  pub holds : after ≡ overlay o before
  pub small : (answer_of o).size < 65700

-- the outcome was answered, and the buffer that held `before` now holds `after`; a packet is no longer than its length field allows
pub record Answered (o : Outcome) (before : List ℕ) (answer : Answer) (after : List ℕ) : Type 0 where
  pub tells : answer ≡ answer_of o
  pub holds : after ≡ overlay o before
  pub small : answer.size < 65700

-- the same, with the answer in one number, from which the length can be read
pub record Packs (o : Outcome) (before : List ℕ) (answer : ℕ) (after : List ℕ) : Type 0 where
  pub tells : answer ≡ packed o
  pub size : answer / 0x10000000000 ≡ (answer_of o).size
  pub holds : after ≡ overlay o before
  pub small : (answer_of o).size < 65700

-- row 16 was asked, and where there is room the octets of p from a place on stand in o' behind room for a head of `before` octets
pub record Placed (before place : ℕ) (p o : List ℕ) (result : Result ℕ Refusal) (o' : List ℕ) : Type 0 where
  pub refused : (r : Refusal) → result ≡ Err r → length o < before + (length p - place)
  pub refusal : (r : Refusal) → result ≡ Err r → r ≡ plain 16
  pub kept : (r : Refusal) → result ≡ Err r → o' ≡ o
  pub room : (n : ℕ) → result ≡ Ok n → before + (length p - place) ≤ length o
  pub sent : (n : ℕ) → result ≡ Ok n → n ≡ before + (length p - place)
  pub placed : (n : ℕ) → result ≡ Ok n → o' ≡ splice o before (drop place p)
  pub small : before + (length p - place) < 65700
