-- IPv4 header (RFC 791): its fields, and the header as we write it.
use Rattle.std.specs.Prelude.{List, ◌∷◌, ◌++◌, ℕ, ◌+◌, ◌*◌, ◌/◌, ◌%◌}
use Rattle.rules.specs.Octets.{octet, window, read16, put16}
use Rattle.rules.specs.Checksum.{ones_sum, checksum}
use Rattle.rules.specs.Assigned.{udp_protocol}

abbrev pub size : ℕ
size = 20

abbrev pub version : List ℕ → ℕ
version p = octet p 0 / 16

-- header length in 4-octet units
abbrev pub header_length : List ℕ → ℕ
header_length p = octet p 0 % 16

abbrev pub tos : List ℕ → ℕ
tos p = octet p 1

abbrev pub total_length : List ℕ → ℕ
total_length p = read16 p 2

abbrev pub identification : List ℕ → ℕ
identification p = read16 p 4

abbrev pub reserved_bit : List ℕ → ℕ
reserved_bit p = octet p 6 / 128

abbrev pub dont_fragment : List ℕ → ℕ
dont_fragment p = octet p 6 / 64 % 2

abbrev pub more_fragments : List ℕ → ℕ
more_fragments p = octet p 6 / 32 % 2

abbrev pub fragment_offset : List ℕ → ℕ
fragment_offset p = octet p 6 % 32 * 256 + octet p 7

abbrev pub ttl : List ℕ → ℕ
ttl p = octet p 8

abbrev pub protocol : List ℕ → ℕ
protocol p = octet p 9

abbrev pub header_checksum : List ℕ → ℕ
header_checksum p = read16 p 10

-- ones' complement sum of the header, the checksum included: FFFF where that is right
abbrev pub header_sum : List ℕ → ℕ
header_sum p = ones_sum (window p 0 size)

abbrev pub source : List ℕ → List ℕ
source p = window p 12 4

abbrev pub destination : List ℕ → List ℕ
destination p = window p 16 4

-- the header but for checksum and addresses: no options, identification 0, DF set (house); UDP
abbrev pub ipv4_front : (tos total_length ttl : ℕ) (rest : List ℕ) → List ℕ
ipv4_front tos total_length ttl rest = 0x45 ∷ tos ∷ put16 total_length (0 ∷ 0 ∷ 0x40 ∷ 0 ∷ ttl ∷ udp_protocol ∷ rest)

-- its checksum is that of the header with the checksum 0
abbrev pub ipv4 : (tos total_length ttl : ℕ) (source destination rest : List ℕ) → List ℕ
ipv4 tos total_length ttl source destination rest =
    ipv4_front tos total_length ttl
    (put16 (checksum (ipv4_front tos total_length ttl (put16 0 (source ++ destination)))) (source ++ (destination ++ rest)))
