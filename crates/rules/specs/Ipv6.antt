-- IPv6 fixed header (RFC 8200, 3): its fields, and the header as we write it.
use Rattle.std.specs.Prelude.{List, ◌∷◌, ◌++◌, ℕ, ◌+◌, ◌*◌, ◌/◌, ◌%◌}
use Rattle.rules.specs.Octets.{octet, window, read16, put16}

abbrev pub size : ℕ
size = 40

abbrev pub version : List ℕ → ℕ
version p = octet p 0 / 16

abbrev pub traffic_class : List ℕ → ℕ
traffic_class p = octet p 0 % 16 * 16 + octet p 1 / 16

abbrev pub flow_label : List ℕ → ℕ
flow_label p = octet p 1 % 16 * 65536 + read16 p 2

abbrev pub payload_length : List ℕ → ℕ
payload_length p = read16 p 4

abbrev pub next_header : List ℕ → ℕ
next_header p = octet p 6

abbrev pub hop_limit : List ℕ → ℕ
hop_limit p = octet p 7

abbrev pub source : List ℕ → List ℕ
source p = window p 8 16

abbrev pub destination : List ℕ → List ℕ
destination p = window p 24 16

-- version 6, flow label 0 (house)
abbrev pub ipv6 : (traffic_class payload_length next_header hop_limit : ℕ) (source destination rest : List ℕ) → List ℕ
ipv6 traffic_class payload_length next_header hop_limit source destination rest =
    (0x60 + traffic_class / 16) ∷ (traffic_class % 16 * 16) ∷ 0 ∷ 0 ∷ put16 payload_length
    (next_header ∷ hop_limit ∷ (source ++ (destination ++ rest)))
