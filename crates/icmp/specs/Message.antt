-- What is written, read back: each field of an ICMPv6 message, through the readers of the layouts and in plain numbers. No writer is named
-- here.
use Rattle.std.specs.Prelude.{◌≡◌, List, ℕ, ◌+◌, ◌-◌, ◌%◌, ◌≤◌, ◌<◌, length, drop}
use Rattle.rules.specs.Octets.{octet}
use Rattle.rules.specs.Entry as Entry
use Rattle.rules.specs.Ipv6 as Ipv6
use Rattle.rules.specs.AddsUp.{words_of, words}
use Rattle.rules.specs.Refused.{upper_at}
use Rattle.rules.specs.Written.{Ipv6Fields}
use Rattle.icmp.specs.Icmp as Icmp

-- The checksum of a message m between two addresses (RFC 4443, 2.3): the eight words of each address, the length, ICMPv6's number and the
-- words of the message add up to a multiple of FFFF, and the checksum is below that. No other number is both.
pub record TrueChecksum (source destination m : List ℕ) : Type 0 where
  pub small : Icmp.icmp_checksum m < 0xffff
  pub adds : (words_of 8 source + words_of 8 destination + length m + 58 + words m) % 0xffff ≡ 0

-- what the message m says of a packet p that was answered with this number: 6 is Time Exceeded (type 3) code 0, with 0 in the unused field;
-- 7 and 8 are Parameter Problem (type 4), 7 code 0 with pointer 43, 8 code 4 with its pointer at the upper-layer header
pub record Says (answered : ℕ) (p m : List ℕ) : Type 0 where
  pub hopLimit : answered ≡ 6 → (Icmp.icmp_type m ≡ 3) × ((Icmp.icmp_code m ≡ 0) × (Icmp.pointer m ≡ 0))
  pub segmentsLeft : answered ≡ 7 → (Icmp.icmp_type m ≡ 4) × ((Icmp.icmp_code m ≡ 0) × (Icmp.pointer m ≡ 43))
  pub upper_layer : answered ≡ 8 → (Icmp.icmp_type m ≡ 4) × ((Icmp.icmp_code m ≡ 4) × (Icmp.pointer m ≡ upper_at p))

-- x quotes p behind 48 octets of headers: its first octets in their order, all of them or as many as make 1,280 in all
pub record Quotes (p x : List ℕ) : Type 0 where
  pub all : length p ≤ 1232 → length x ≡ 48 + length p
  pub cut : 1232 ≤ length p → length x ≡ 1280
  pub at_most : length x ≤ 1280
  pub octets : (i : ℕ) → 48 + i < length x → octet x (48 + i) ≡ octet p i

-- the message x about the packet p, answered with this number, at the entry e; drop 40 x is what follows the IPv6 header
pub record WrittenIcmp (e : List ℕ) (answered : ℕ) (p x : List ℕ) : Type 0 where
  pub ipv6 : Ipv6Fields x 0 (length x - 40) (Entry.hop_limit e)
  pub nextHeader : Ipv6.next_header x ≡ 58
  pub source : Ipv6.source x ≡ Entry.source e
  pub destination : Ipv6.destination x ≡ Ipv6.source p
  pub says : Says answered p (drop 40 x)
  pub checksum : TrueChecksum (Ipv6.source x) (Ipv6.destination x) (drop 40 x)
  pub quotes : Quotes p x
