-- The fields of a policy.
use Rattle.std.specs.Prelude.{List, ℕ, ◌+◌, ◌-◌, ◌*◌}
use Rattle.rules.specs.Octets.{octet, window}
use Rattle.rules.specs.Table.{addresses_at}

-- the number of SIDs
abbrev pub sid_count : List ℕ → ℕ
sid_count policy = octet policy 0

-- the bit at which Args begin in the last SID
abbrev pub start : List ℕ → ℕ
start policy = octet policy 1

abbrev pub reserved : List ℕ → ℕ
reserved policy = octet policy 2

-- the SIDs in order of travel: those before the last, which are waypoints, and the last
abbrev pub waypoints : List ℕ → List (List ℕ)
waypoints policy = addresses_at policy 16 (sid_count policy - 1)

abbrev pub last_sid : List ℕ → List ℕ
last_sid policy = window policy (16 + 16 * (sid_count policy - 1)) 16
