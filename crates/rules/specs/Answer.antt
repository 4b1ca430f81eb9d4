-- The answer table: ordered rows, each with its tests, number and ICMP fields. The first row with a test that holds answers.
use Rattle.std.specs.Prelude.{Bool, true, false, not, cond, ◌&&◌, ◌||◌, List, [], ◌∷◌, ◌++◌, ℕ, suc, ◌+◌, ◌*◌, eqb, leb, ltb, length}
use Rattle.std.specs.Prelude.{Result, Ok, Err}
use Rattle.rules.specs.Octets.{splice}
use Rattle.rules.specs.Assigned.{time_exceeded, parameter_problem}
use Rattle.rules.specs.declared.Refusal.{Refusal}

pub record Row : Type 0 where
  pub tests : List Bool
  pub refusal : Refusal

-- tests
abbrev pub differs : ℕ → ℕ → Bool
differs a b = not (eqb a b)

-- tests that are made only where a condition holds
abbrev pub given : Bool → List Bool → List Bool
given condition tests = cond condition tests []

abbrev pub any : List Bool → Bool
any [] = false
any (b ∷ bs) = b || any bs

-- A ROW: ICMP type, code and pointer are 0 except where it names them

abbrev pub icmp_row : (tests : List Bool) (number icmp_type icmp_code pointer : ℕ) → Row
icmp_row tests number icmp_type icmp_code pointer = record {
  tests = tests;
  refusal = record { number = number; icmpType = icmp_type; icmpCode = icmp_code; pointer = pointer };
}

abbrev pub plain : (number : ℕ) → Refusal
plain number = record { number = number; icmpType = 0; icmpCode = 0; pointer = 0 }

abbrev pub row : (tests : List Bool) (number : ℕ) → Row
row tests number = record { tests = tests; refusal = plain number }

-- row 6: Time Exceeded code 0
abbrev pub hop_limit_row : List Bool → Row
hop_limit_row tests = icmp_row tests 6 time_exceeded 0 0

-- row 7: Parameter Problem code 0, pointer 43, which is Segments Left
abbrev pub segments_left_row : List Bool → Row
segments_left_row tests = icmp_row tests 7 parameter_problem 0 43

-- row 8: Parameter Problem code 4, pointer at the upper-layer header
abbrev pub upper_layer_row : List Bool → (upper_at : ℕ) → Row
upper_layer_row tests upper_at = icmp_row tests 8 parameter_problem 4 upper_at

-- row 15: the outermost length field would pass 65,535
abbrev pub length_row : (length_field : ℕ) → Row
length_row length_field = row (ltb 65535 length_field ∷ []) 15

-- row 16: the output is shorter than the result
abbrev pub room_row : (room : ℕ) (result : List ℕ) → Row
room_row room result = row (ltb room (length result) ∷ []) 16

-- THE PLACES OF ROWS

-- The answer numbers in the order of their rows: of those that apply the first is given. 18 is directly behind 9, and 17 has the place of
-- 11, for a type of message that has no row 11; the others stand in the order of size.
abbrev pub places : List ℕ
places = 1 ∷ 2 ∷ 3 ∷ 4 ∷ 5 ∷ 6 ∷ 7 ∷ 8 ∷ 9 ∷ 18 ∷ 10 ∷ 17 ∷ 11 ∷ 12 ∷ 13 ∷ 14 ∷ 15 ∷ 16 ∷ []

-- where a number first stands in a list; at its end where it does not
abbrev pub position : (n : ℕ) → List ℕ → ℕ
position n [] = 0
position n (m ∷ ms) = cond (eqb n m) 0 (suc (position n ms))

unfoldable pub place : (number : ℕ) → ℕ
place number = position number places

-- rows in their places, from place k on: each behind the one before it
abbrev pub in_place : (k : ℕ) → List Row → Bool
in_place k [] = true
in_place k (r ∷ rs) = leb k (place r.refusal.number) && in_place (suc (place r.refusal.number)) rs

-- a test of the row with a number holds
abbrev pub applies : (number : ℕ) → List Row → Bool
applies number [] = false
applies number (r ∷ rs) = cond (eqb number r.refusal.number) (any r.tests) (applies number rs)

-- What rows of the answer table say of a packet: that it passes, or a refusal.
abbrev pub Verdict : Type 0
Verdict = Result (Unit {0}) Refusal

-- what rows in their order say
unfoldable pub verdict : List Row → Verdict
verdict [] = Ok tt
verdict (r ∷ rs) = cond (any r.tests) (Err r.refusal) (verdict rs)

-- the first of two verdicts that refuses
abbrev pub first : Verdict → Verdict → Verdict
first (Ok tt) w = w
first (Err r) w = Err r

-- WHAT COMES OF A CALL

pub data Outcome : Type 0 where
  Sent : List ℕ → Outcome
  Refused : Refusal → Outcome

-- a verdict, and what comes where it passes
abbrev pub after : Verdict → Outcome → Outcome
after (Ok tt) o = o
after (Err r) o = Refused r

-- an outcome, unless a row applies
abbrev pub unless : List Row → Outcome → Outcome
unless rows o = after (verdict rows) o

-- Rows in their order, and the packet that is sent where none applies: what a behaviour and a call decide.
pub record Decision : Type 0 where
  pub rows : List Row
  pub packet : List ℕ

abbrev pub outcome : Decision → Outcome
outcome d = unless d.rows (Sent d.packet)

-- row 16 is behind all others
abbrev pub in_room : (room : ℕ) → Decision → Decision
in_room room d = record { rows = d.rows ++ room_row room d.packet ∷ []; packet = d.packet }

-- the same of an outcome: it is decided as if there were room, then the room is looked at, and by row 16 alone
unfoldable pub settle : (room : ℕ) → Outcome → Outcome
settle room (Sent x) = unless (room_row room x ∷ []) (Sent x)
settle room (Refused r) = Refused r

-- what the output buffer holds afterwards: a refusal changes no octet, a sent packet only its own
unfoldable pub overlay : Outcome → (buffer : List ℕ) → List ℕ
overlay (Sent x) buffer = splice buffer 0 x
overlay (Refused r) buffer = buffer

-- the answer in one number: number in bits 0 to 7, ICMP type from 8, code from 16, pointer from 24, length from 40 on
abbrev pub packed_fields : (number icmp_type icmp_code pointer size : ℕ) → ℕ
packed_fields number icmp_type icmp_code pointer size =
    number + icmp_type * 0x100 + icmp_code * 0x10000 + pointer * 0x1000000 + size * 0x10000000000

unfoldable pub packed : Outcome → ℕ
packed (Sent x) = packed_fields 0 0 0 0 (length x)
packed (Refused r) = packed_fields r.number r.icmpType r.icmpCode r.pointer 0
