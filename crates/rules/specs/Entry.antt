-- The fields of a SID entry.
use Rattle.std.specs.Prelude.{Bool, List, ℕ, eqb}
use Rattle.rules.specs.Octets.{octet, window, read16}

abbrev pub behaviour : List ℕ → ℕ
behaviour e = octet e 0

abbrev pub prefix_length : List ℕ → ℕ
prefix_length e = octet e 1

-- hop limit, at E4 the TTL
abbrev pub hop_limit : List ℕ → ℕ
hop_limit e = octet e 2

abbrev pub direction : List ℕ → ℕ
direction e = octet e 3

abbrev pub session : List ℕ → ℕ
session e = octet e 4

-- the number of a policy, from 0
abbrev pub policy : List ℕ → ℕ
policy e = octet e 5

-- the bit at which Args begin
abbrev pub start : List ℕ → ℕ
start e = octet e 6

-- the octets of the two prefixes of E4, before the IPv4 destination and before the IPv4 source
abbrev pub p : List ℕ → ℕ
p e = octet e 7

abbrev pub q : List ℕ → ℕ
q e = octet e 8

-- D and Di: 1 where a UDP checksum of zero is allowed inbound; reserved at the others
abbrev pub zero_checksum : List ℕ → ℕ
zero_checksum e = octet e 9

abbrev pub zero_allowed : List ℕ → Bool
zero_allowed e = eqb (zero_checksum e) 1

abbrev pub source_port : List ℕ → ℕ
source_port e = read16 e 10

abbrev pub prefix : List ℕ → List ℕ
prefix e = window e 16 16

abbrev pub source : List ℕ → List ℕ
source e = window e 32 16
