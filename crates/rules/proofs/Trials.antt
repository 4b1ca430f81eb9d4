-- Samples beside those of docs/RULES.md, Worked packets, checked by computation: whole trips over IPv4, what buffers hold, R in uplink,
-- one prefix within another, and the sum of RFC 1071, 3.
use mathlib.Core.List.{List, [], ◌∷◌, ◌++◌}
use Prim.Native.Nat.{ℕ}
use lib.Dec.{T}
use lib.ListN.{replicate}
use Rattle.rules.specs.Assigned.{end, end_m_gtp6d_di, end_m_gtp6e}
use Rattle.rules.specs.Checksum.{ones_sum}
use Rattle.rules.specs.Gtpu.{udp}
use Rattle.rules.specs.Args.{args_octets}
use Rattle.rules.specs.Answer.{Refused, plain, overlay}
use Rattle.rules.specs.Carried.{carried_by}
use Rattle.rules.specs.Calls.{translate4}
use Rattle.rules.specs.Trip.{Stop, Trip, v4, trip}
use Rattle.rules.specs.Demand3.{forwarded_into}
use Rattle.rules.proofs.Computing.{computing}
use Rattle.rules.proofs.Samples.{header, entry, network, sid_of, joined, table, packet4}
use Rattle.rules.proofs.Worked.{Example, is, right, answer, sent, octets_of, call, to_e6, to_waypoint, stop_of}

-- over IPv4
abbrev pub near4 : (waypoints : ℕ) → Stop
near4 waypoints = record { version = v4; table = table end_m_gtp6d_di waypoints; buffer = replicate 300 255 }

abbrev pub in4 : List ℕ
in4 = packet4 (replicate 20 7)

-- flow 9 in uplink, with the bit that is the reflective one in downlink
abbrev pub uplink_message : List ℕ
uplink_message = udp 2152 2152 24 0 (0x34 ∷ 0xff ∷ 0 ∷ 8 ∷ 1 ∷ 2 ∷ 3 ∷ 4 ∷ 0 ∷ 0 ∷ 0 ∷ 0x85 ∷ 1 ∷ 0x10 ∷ 0x49 ∷ 0 ∷ [])

-- a waypoint for 2001:db8::/32, and E6 for 2001:db8:b:1::/64 within it
abbrev pub nested : List ℕ
nested = header 2 0 0 (entry end 32 (network 0) ++ entry end_m_gtp6e 64 (sid_of 1))

-- a packet of 180 octets at one waypoint
abbrev pub passing : Trip
passing = trip (stop_of end_m_gtp6d_di 0 ∷ []) (to_waypoint 64)

unfoldable pub trials : List Example
trials =
    -- from D4 to E4, past no waypoint and past two
    is (answer (translate4 in4 (table end_m_gtp6d_di 0) 1500)) (sent 60)
    ∷ is (answer (translate4 in4 (table end_m_gtp6d_di 2) 1500)) (sent 116)
    ∷ is (octets_of (trip (near4 0 ∷ stop_of end_m_gtp6d_di 0 ∷ []) in4).outcome) in4
    ∷ is (octets_of (trip (near4 2 ∷ replicate 3 (stop_of end_m_gtp6d_di 2)) in4).outcome) in4
    -- a refusal leaves the buffer; a waypoint's holds the packet forwarded, over what was there
    ∷ is (overlay (Refused (plain 4)) (1 ∷ 2 ∷ 3 ∷ [])) (1 ∷ 2 ∷ 3 ∷ [])
    ∷ is (joined passing.buffers) (octets_of passing.outcome ++ replicate 120 255)
    ∷ is (joined (forwarded_into (stop_of end_m_gtp6d_di 0 ∷ []) (to_waypoint 64))) (joined passing.buffers)
    -- in uplink R is 0
    ∷ is (args_octets (carried_by 0 [] [] uplink_message).args) (0x24 ∷ 1 ∷ 2 ∷ 3 ∷ 4 ∷ [])
    -- longest match wins: SL 0 at E6, not at the waypoint
    ∷ is (call (to_e6 0) nested 1500) (7 ∷ 4 ∷ 0 ∷ 43 ∷ 0 ∷ [])
    -- 00 01 f2 03 f4 f5 f6 f7 sums to dd f2
    ∷ is (ones_sum (0x00 ∷ 0x01 ∷ 0xf2 ∷ 0x03 ∷ 0xf4 ∷ 0xf5 ∷ 0xf6 ∷ 0xf7 ∷ []) ∷ []) (0xddf2 ∷ [])
    ∷ []

pub tried : T (right trials)
unfolding trials computing
tried = tt
