-- ICMPv6 error messages (RFC 4443, 3.3 and 3.4) about a packet that the IPv6 call refused: what is written.
use Rattle.std.specs.Prelude.{List, ◌∷◌, ℕ, ◌+◌, length, take}
use Rattle.rules.specs.Octets.{octet, put16, read16, number}
use Rattle.rules.specs.Assigned.{icmpv6_protocol}
use Rattle.rules.specs.Checksum.{checksum, with_pseudo_header}
use Rattle.rules.specs.Entry as Entry
use Rattle.rules.specs.Ipv6 as Ipv6
use Rattle.rules.specs.Ipv6.{ipv6}
use Rattle.rules.specs.declared.Refusal.{Refusal}

-- THE FIELDS OF A MESSAGE m

abbrev pub icmp_type : List ℕ → ℕ
icmp_type m = octet m 0

abbrev pub icmp_code : List ℕ → ℕ
icmp_code m = octet m 1

abbrev pub icmp_checksum : List ℕ → ℕ
icmp_checksum m = read16 m 2

-- the pointer of a Parameter Problem; unused, and 0, in Time Exceeded
unfoldable pub pointer : List ℕ → ℕ
pointer m = number m 4 4

-- A MESSAGE AS WE WRITE IT

-- what is left of 1,280 octets, the least MTU of IPv6 (RFC 8200, 5), behind 40 of IPv6 and 8 of ICMPv6
abbrev pub quoted_at_most : ℕ
quoted_at_most = 1232

-- as much of the packet as has room there, from its first octet on
unfoldable pub quoted : List ℕ → List ℕ
quoted p = take quoted_at_most p

-- type, code and pointer as the IPv6 call answers them, with some checksum; its pointers fit the low 16 bits
abbrev pub icmp : Refusal → (checksum : ℕ) (rest : List ℕ) → List ℕ
icmp r checksum rest = r.icmpType ∷ r.icmpCode ∷ put16 checksum (0 ∷ 0 ∷ put16 r.pointer rest)

-- the checksum of a message between two addresses, whose checksum field is 0 (RFC 4443, 2.3); a computed 0 stays 0
unfoldable pub checksum_of : (source destination m : List ℕ) → ℕ
checksum_of source destination m = checksum (with_pseudo_header source destination icmpv6_protocol m)

-- about the packet p, refused with r, at the entry e: traffic class 0, flow label 0, hop limit and source address of the entry; to the
-- packet's source
unfoldable pub icmp_packet : (e : List ℕ) → Refusal → (p : List ℕ) → List ℕ
icmp_packet e r p =
    ipv6 0 (8 + length (quoted p)) icmpv6_protocol (Entry.hop_limit e) (Entry.source e) (Ipv6.source p)
    (icmp r (checksum_of (Entry.source e) (Ipv6.source p) (icmp r 0 (quoted p))) (quoted p))
