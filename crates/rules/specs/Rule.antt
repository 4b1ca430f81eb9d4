-- The fields of an IPv4 rule.
use Rattle.std.specs.Prelude.{List, ℕ}
use Rattle.rules.specs.Octets.{octet, window}
use Rattle.rules.specs.Table.{addresses_at}

abbrev pub prefix_length : List ℕ → ℕ
prefix_length r = octet r 0

abbrev pub hop_limit : List ℕ → ℕ
hop_limit r = octet r 1

abbrev pub direction : List ℕ → ℕ
direction r = octet r 2

abbrev pub session : List ℕ → ℕ
session r = octet r 3

-- the octets of the prefixes of the SID and of the source that the rule builds
abbrev pub p : List ℕ → ℕ
p r = octet r 4

abbrev pub q : List ℕ → ℕ
q r = octet r 5

-- the number of waypoints
abbrev pub waypoint_count : List ℕ → ℕ
waypoint_count r = octet r 6

abbrev pub reserved : List ℕ → ℕ
reserved r = octet r 7

abbrev pub prefix : List ℕ → List ℕ
prefix r = window r 8 4

abbrev pub sid_prefix : List ℕ → List ℕ
sid_prefix r = window r 16 16

abbrev pub source_prefix : List ℕ → List ℕ
source_prefix r = window r 32 16

-- the waypoints, in order of travel
abbrev pub waypoints : List ℕ → List (List ℕ)
waypoints r = addresses_at r 48 (waypoint_count r)
