-- Sample messages, their octets written out: one list, checked by computation.
use mathlib.Core.List.{List, [], ◌∷◌, ◌++◌}
use Prim.Native.Nat.{ℕ}
use lib.Dec.{T}
use lib.ListN.{length}
use Rattle.rules.specs.Assigned.{end}
use Rattle.rules.specs.Octets.{put16}
use Rattle.rules.specs.Answer.{hop_limit_row, segments_left_row, upper_layer_row}
use Rattle.rules.proofs.Computing.{computing}
use Rattle.rules.proofs.Samples.{zeros, sid_of, gateway6, entry}
use Rattle.rules.proofs.Worked.{Example, is, right}
use Rattle.icmp.specs.Icmp.{quoted, checksum_of, icmp_packet}

-- a waypoint with hop limit 64 and source 2001:db8:b:63::
abbrev pub waypoint : List ℕ
waypoint = entry end 0 (zeros 16)

-- an IPv6 header and nothing behind it, from 2001:db8:a::1 to 2001:db8:b:2::, with hop limit 63 and a flow label of 16 bits
abbrev pub bare : (flow : ℕ) → List ℕ
bare flow = 0x60 ∷ 0 ∷ put16 flow (0 ∷ 0 ∷ 59 ∷ 63 ∷ (gateway6 ++ sid_of 2))

-- the message about it
abbrev pub wanted : (kind code checksum pointer flow : ℕ) → List ℕ
wanted kind code checksum pointer flow =
    0x60 ∷ 0 ∷ 0 ∷ 0 ∷ 0 ∷ 48 ∷ 58 ∷ 64 ∷ (sid_of 0x63 ++ (gateway6 ++ (kind ∷ code ∷ put16 checksum (0 ∷ 0 ∷ 0 ∷ pointer ∷ bare flow))))

unfoldable pub examples : List Example
examples =
    is (icmp_packet waypoint (hop_limit_row []).refusal (bare 0)) (wanted 3 0 0xa9e0 0 0)
    ∷ is (icmp_packet waypoint (segments_left_row []).refusal (bare 0)) (wanted 4 0 0xa8b5 43 0)
    ∷ is (icmp_packet waypoint (upper_layer_row [] 40).refusal (bare 0)) (wanted 4 4 0xa8b4 40 0)
    -- a computed 0 stays 0
    ∷ is (icmp_packet waypoint (upper_layer_row [] 40).refusal (bare 0xa8b4)) (wanted 4 4 0 40 0xa8b4)
    -- all of a packet, or 1,232 octets
    ∷ is (length (quoted (zeros 39)) ∷ length (quoted (zeros 1232)) ∷ length (quoted (zeros 1233)) ∷ []) (39 ∷ 1232 ∷ 1232 ∷ [])
    ∷ []

pub sampled : T (right examples)
unfolding examples computing quoted checksum_of icmp_packet
sampled = tt
