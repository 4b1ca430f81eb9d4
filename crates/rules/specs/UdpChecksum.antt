-- The UDP checksum over IPv6 (RFC 8200, 8.1): what is sent, and row 18.
use Rattle.std.specs.Prelude.{Bool, not, cond, List, [], ◌∷◌, ℕ, eqb}
use Rattle.rules.specs.Assigned.{udp_protocol}
use Rattle.rules.specs.Checksum.{ones_sum, checksum, with_pseudo_header}
use Rattle.rules.specs.Gtpu as Gtpu
use Rattle.rules.specs.Answer.{Row, row, differs}

-- a computed 0 is sent as FFFF
abbrev pub or_ffff : ℕ → ℕ
or_ffff computed = cond (eqb computed 0) 0xffff computed

-- the checksum of a datagram u between two addresses, whose checksum field is 0
unfoldable pub udp_checksum6 : (source destination u : List ℕ) → ℕ
udp_checksum6 source destination u = or_ffff (checksum (with_pseudo_header source destination udp_protocol u))

-- the sum of a datagram with its checksum: FFFF where that is right
unfoldable pub udp_sum6 : (source destination u : List ℕ) → ℕ
udp_sum6 source destination u = ones_sum (with_pseudo_header source destination udp_protocol u)

-- checksum wrong, or zero where not allowed; zero is not verified
abbrev pub bad_checksum : (zero_allowed : Bool) (source destination u : List ℕ) → Bool
bad_checksum zero_allowed source destination u =
    cond (eqb (Gtpu.udp_checksum u) 0) (not zero_allowed) (differs (udp_sum6 source destination u) 0xffff)

-- row 18
abbrev pub checksum_row : (zero_allowed : Bool) (source destination u : List ℕ) → Row
checksum_row zero_allowed source destination u = row (bad_checksum zero_allowed source destination u ∷ []) 18
