-- When a message is due, said a second time: by what the IPv6 call answers, and in the octets of the packet and plain numbers. No row list,
-- no view and no test is named here.
use Rattle.std.specs.Prelude.{◌≡◌, ◌⊎◌, List, ℕ, ◌+◌, ◌≤◌, ◌<◌, length, Some}
use Rattle.rules.specs.Octets.{octet}
use Rattle.rules.specs.Table.{entry_at}
use Rattle.rules.specs.Ipv6 as Ipv6
use Rattle.rules.specs.Match.{match_entry}
use Rattle.rules.specs.Answer.{Refused, Sent, plain, Outcome, packed}
use Rattle.rules.specs.Calls.{translate6}
use Rattle.rules.specs.Refused.{upper, upper_at}
use Rattle.rules.specs.Given.{ReadBack}
use Rattle.rules.specs.declared.Refusal.{Refusal}
use Rattle.icmp.specs.Message.{WrittenIcmp}

-- the IPv6 call answers the packet with this number, whatever the room
abbrev pub Answers : (p t : List ℕ) (n : ℕ) → Type 0
Answers p t n = (room : ℕ) → (r : Refusal) × ((translate6 p t room ≡ Refused r) × (r.number ≡ n))

-- with 6, 7 or 8
pub data Answered678 (p t : List ℕ) : Type 0 where
  hop_limit : Answers p t 6 → Answered678 p t
  segments_left : Answers p t 7 → Answered678 p t
  upper_layer : Answers p t 8 → Answered678 p t

-- toward whom, and about what, none is built (RFC 4443, 2.4 e); the source is octets 8 to 23 of the packet, the destination 24 to 39
pub data Exempt (p : List ℕ) : Type 0 where
  -- toward a multicast source, ff00::/8
  multicast_source : octet p 8 ≡ 0xff → Exempt p
  -- toward the unspecified source, ::
  unspecified_source : ((i : ℕ) → 8 ≤ i → i < 24 → octet p i ≡ 0) → Exempt p
  -- about a packet to a multicast destination
  multicast_destination : octet p 24 ≡ 0xff → Exempt p
  -- where the upper layer is ICMPv6 (58) with a type octet under 128, an error message
  error_message : upper p ≡ 58 → upper_at p < length p → octet p (upper_at p) < 128 → Exempt p
  -- or equal to 137, a Redirect
  redirect : upper p ≡ 58 → upper_at p < length p → octet p (upper_at p) ≡ 137 → Exempt p

-- 23: none is due, a packet answered otherwise included
pub data NoneDue (p t : List ℕ) : Type 0 where
  otherwise : (Answered678 p t → ⊥) → NoneDue p t
  exempt : Exempt p → NoneDue p t

-- 16: the output is shorter than the message, which has 48 octets and those that it quotes, 1,280 at most
pub data Short (p : List ℕ) (room : ℕ) : Type 0 where
  all : length p ≤ 1232 → room < 48 + length p → Short p room
  cut : 1232 ≤ length p → room < 1280 → Short p room

-- what is sent: the message about the packet, with the number that the IPv6 call answers, from the entry that is the longest match
pub record Reports (p t x : List ℕ) : Type 0 where
  pub number : ℕ
  pub index : ℕ
  pub among : (number ≡ 6) ⊎ ((number ≡ 7) ⊎ (number ≡ 8))
  pub answered : Answers p t number
  pub matched : match_entry t (Ipv6.destination p) ≡ Some index
  pub written : WrittenIcmp (entry_at t index) number p x

-- An answer of the call: 0 with the length of what is sent, or 23 or 16 with length 0; all ICMP fields are 0.
pub data Listed (p t : List ℕ) (room : ℕ) (o : Outcome) : Type 0 where
  none : o ≡ Refused (plain 23) → NoneDue p t → ReadBack (packed o) 23 0 0 0 0 → Listed p t room o
  short : o ≡ Refused (plain 16) → (NoneDue p t → ⊥) → Short p room → ReadBack (packed o) 16 0 0 0 0 → Listed p t room o
  sent : (x : List ℕ) → o ≡ Sent x → (NoneDue p t → ⊥) → (Short p room → ⊥) → Reports p t x → ReadBack (packed o) 0 0 0 0 (length x)
      → Listed p t room o
