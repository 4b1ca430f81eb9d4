-- Which number is given: of those that apply the first by its place, never another; and what each number brings with it.
use Rattle.std.specs.Prelude.{◌≡◌, Bool, true, false, cond, List, ℕ, ◌/◌, ◌%◌, ◌≤◌, ◌<◌, eqb, length}
use Rattle.rules.specs.Octets.{octet, window}
use Rattle.rules.specs.Answer.{place, Outcome, Sent, Refused, packed}
use Rattle.rules.specs.declared.Refusal.{Refusal}

-- a number applies, and none before it does
pub record First (applies : ℕ → Bool) (number : ℕ) : Type 0 where
  pub itself : applies number ≡ true
  pub before : (n : ℕ) → place n < place number → applies n ≡ false

-- An outcome goes by the numbers that apply: a refusal has the first of them, and the first of them is refused with; what is sent has
-- none, and where there is none a packet is sent.
pub record GoesBy (applies : ℕ → Bool) (o : Outcome) : Type 0 where
  pub refused : (r : Refusal) → o ≡ Refused r → First applies r.number
  pub given : (n : ℕ) → First applies n → (r : Refusal) × ((o ≡ Refused r) × (r.number ≡ n))
  pub sent : (x : List ℕ) → o ≡ Sent x → (n : ℕ) → applies n ≡ false
  pub free : ((n : ℕ) → applies n ≡ false) → (x : List ℕ) × (o ≡ Sent x)

-- and it is the smallest, but for 17, whose place is behind 10, and 18, whose place is behind 9: where a refusal is given no smaller number
-- applies, for 17 none up to 10 (that 11 to 15 do not apply there either is said in Refused.antt, GivenDatagram), for 18 none up to 9; and
-- 18 does not apply where a number from 10 on is given
pub record Smallest (applies : ℕ → Bool) (o : Outcome) : Type 0 where
  pub none : (r : Refusal) → o ≡ Refused r → (n : ℕ) → n < r.number → (r.number ≡ 17 → n ≤ 10) → (r.number ≡ 18 → n ≤ 9)
      → applies n ≡ false
  pub checksum : (r : Refusal) → o ≡ Refused r → 10 ≤ r.number → r.number ≤ 17 → applies 18 ≡ false

-- WITH ITS ICMP FIELDS

abbrev pub icmp : (number icmp_type icmp_code pointer : ℕ) → Refusal
icmp number icmp_type icmp_code pointer = record { number = number; icmpType = icmp_type; icmpCode = icmp_code; pointer = pointer }

-- ICMP type, code and pointer are 0 except where a row names them
abbrev pub without_icmp : (number : ℕ) → Refusal
without_icmp number = icmp number 0 0 0

-- over IPv6: 6 is Time Exceeded (RFC 4443: type 3) code 0; 7 and 8 are Parameter Problem (type 4), 7 code 0 with pointer 43, 8 code 4 with
-- its pointer at the upper-layer header
abbrev pub with_icmp : (upper_at number : ℕ) → Refusal
with_icmp upper_at number =
    cond (eqb number 6) (icmp 6 3 0 0) (cond (eqb number 7) (icmp 7 4 0 43)
    (cond (eqb number 8) (icmp 8 4 4 upper_at) (without_icmp number)))

-- number, ICMP type, code and pointer, and length, read from the answer in one number
pub record ReadBack (answer n kind code at octets : ℕ) : Type 0 where
  pub number : answer % 0x100 ≡ n
  pub icmpType : answer / 0x100 % 0x100 ≡ kind
  pub icmpCode : answer / 0x10000 % 0x100 ≡ code
  pub pointer : answer / 0x1000000 % 0x10000 ≡ at
  pub size : answer / 0x10000000000 ≡ octets

-- An answer of the list (docs/RULES.md, Answers): 0 with the length of what is sent, or a number from 1 to 18 with its ICMP fields and
-- length 0.
pub data Listed (refusal_of : ℕ → Refusal) (o : Outcome) : Type 0 where
  sent : (x : List ℕ) → o ≡ Sent x → ReadBack (packed o) 0 0 0 0 (length x) → Listed refusal_of o
  refused : (n : ℕ) → 1 ≤ n → n ≤ 18 → o ≡ Refused (refusal_of n)
      → ReadBack (packed o) n (refusal_of n).icmpType (refusal_of n).icmpCode (refusal_of n).pointer 0 → Listed refusal_of o

-- WHAT THE OUTPUT HOLDS AFTERWARDS

-- as many octets as before; a refusal changes none, a sent packet only its own, from octet 0 on
pub record Leaves (o : Outcome) (before after : List ℕ) : Type 0 where
  pub size : length after ≡ length before
  pub refused : (r : Refusal) → o ≡ Refused r → after ≡ before
  pub sent : (x : List ℕ) → o ≡ Sent x → window after 0 (length x) ≡ x
  pub others : (x : List ℕ) → o ≡ Sent x → (i : ℕ) → length x ≤ i → octet after i ≡ octet before i
