-- The worked packets with a star (docs/RULES.md, Worked packets): rows of one list, under one claim about the definitions.
use mathlib.Core.Bool.{Bool, true, false, ◌&&◌}
use mathlib.Core.List.{List, [], ◌∷◌, ◌++◌}
use Prim.Native.Nat.{ℕ, ◌+◌}
use lib.Dec.{T, eqb}
use lib.ListN.{length, take, replicate}
use Rattle.rules.specs.Assigned.{end_m_gtp6d, end_m_gtp6d_di, ipv6_protocol, routing_header, downlink, uplink}
use Rattle.rules.specs.Ipv6 as Ipv6
use Rattle.rules.specs.Ipv6.{ipv6}
use Rattle.rules.specs.Ipv4.{ipv4}
use Rattle.rules.specs.Srh.{srh}
use Rattle.rules.specs.Gtpu.{udp, datagram_octets}
use Rattle.rules.specs.Octets.{put16, splice}
use Rattle.rules.specs.Args.{args_octets, args_at, with_args}
use Rattle.rules.specs.Answer.{Outcome, Sent, Refused, verdict, Verdict}
use Rattle.rules.specs.Datagram.{datagram, message_rows, g_pdu_rows}
use Rattle.rules.specs.Carried.{carried_by}
use Rattle.rules.specs.D4.{d4_sid, d4_source}
use Rattle.rules.specs.Calls.{translate6, translate4}
use Rattle.rules.specs.Trip.{Stop, v6, trip}
use Rattle.std.specs.Prelude.{Ok, Err}
use Rattle.rules.proofs.Computing.{computing}
use Rattle.rules.proofs.Samples as Samples
use Rattle.rules.proofs.Samples.{sid_of, gateway6, args_of, table, values4}

pub record Example : Type 0 where
  pub got : List ℕ
  pub want : List ℕ

-- what is computed, and what docs/RULES.md says
abbrev pub is : List ℕ → List ℕ → Example
is got want = record { got = got; want = want }

abbrev pub same : List ℕ → List ℕ → Bool
same [] [] = true
same (x ∷ xs) (y ∷ ys) = eqb x y && same xs ys
same [] (y ∷ ys) = false
same (x ∷ xs) [] = false

abbrev pub right : List Example → Bool
right [] = true
right (x ∷ xs) = same x.got x.want && right xs

-- number, ICMP type, code and pointer, and length of an answer
abbrev pub answer : Outcome → List ℕ
answer (Sent x) = 0 ∷ 0 ∷ 0 ∷ 0 ∷ length x ∷ []
answer (Refused r) = r.number ∷ r.icmpType ∷ r.icmpCode ∷ r.pointer ∷ 0 ∷ []

abbrev pub sent : ℕ → List ℕ
sent n = 0 ∷ 0 ∷ 0 ∷ 0 ∷ n ∷ []

-- nothing where rows pass, else the number
abbrev pub told : Verdict → List ℕ
told (Ok tt) = []
told (Err r) = r.number ∷ []

abbrev pub octets_of : Outcome → List ℕ
octets_of (Sent x) = x
octets_of (Refused r) = []

abbrev pub call : (packet table : List ℕ) (room : ℕ) → List ℕ
call p t room = answer (translate6 p t room)

-- inner 100, one-unit container: IPv6, its source and destination, UDP with its checksum, GTP-U of flow 9 with the reflective bit, and
-- the inner octets
abbrev pub in164 : List ℕ
in164 =
    0x62 ∷ 0xe0 ∷ 0x00 ∷ 0x00 ∷ 0x00 ∷ 0x7c ∷ 0x11 ∷ 0x40
    ∷ 0x20 ∷ 0x01 ∷ 0x0d ∷ 0xb8 ∷ 0x00 ∷ 0x0b ∷ 0x00 ∷ 0x63 ∷ 0x00 ∷ 0x00 ∷ 0x00 ∷ 0x00 ∷ 0x00 ∷ 0x00 ∷ 0x00 ∷ 0x00
    ∷ 0x20 ∷ 0x01 ∷ 0x0d ∷ 0xb8 ∷ 0x00 ∷ 0x0a ∷ 0x00 ∷ 0x00 ∷ 0x00 ∷ 0x00 ∷ 0x00 ∷ 0x00 ∷ 0x00 ∷ 0x00 ∷ 0x00 ∷ 0x01
    ∷ 0x08 ∷ 0x68 ∷ 0x08 ∷ 0x68 ∷ 0x00 ∷ 0x7c ∷ 0x72 ∷ 0x77
    ∷ 0x34 ∷ 0xff ∷ 0x00 ∷ 0x6c ∷ 0x01 ∷ 0x02 ∷ 0x03 ∷ 0x04 ∷ 0x00 ∷ 0x00 ∷ 0x00 ∷ 0x85 ∷ 0x01 ∷ 0x00 ∷ 0x49 ∷ 0x00
    ∷ 0x00 ∷ 0x01 ∷ 0x02 ∷ 0x03 ∷ 0x04 ∷ 0x05 ∷ 0x06 ∷ 0x07 ∷ 0x08 ∷ 0x09 ∷ 0x0a ∷ 0x0b ∷ 0x0c ∷ 0x0d ∷ 0x0e ∷ 0x0f
    ∷ 0x10 ∷ 0x11 ∷ 0x12 ∷ 0x13 ∷ 0x14 ∷ 0x15 ∷ 0x16 ∷ 0x17 ∷ 0x18 ∷ 0x19 ∷ 0x1a ∷ 0x1b ∷ 0x1c ∷ 0x1d ∷ 0x1e ∷ 0x1f
    ∷ 0x20 ∷ 0x21 ∷ 0x22 ∷ 0x23 ∷ 0x24 ∷ 0x25 ∷ 0x26 ∷ 0x27 ∷ 0x28 ∷ 0x29 ∷ 0x2a ∷ 0x2b ∷ 0x2c ∷ 0x2d ∷ 0x2e ∷ 0x2f
    ∷ 0x30 ∷ 0x31 ∷ 0x32 ∷ 0x33 ∷ 0x34 ∷ 0x35 ∷ 0x36 ∷ 0x37 ∷ 0x38 ∷ 0x39 ∷ 0x3a ∷ 0x3b ∷ 0x3c ∷ 0x3d ∷ 0x3e ∷ 0x3f
    ∷ 0x40 ∷ 0x41 ∷ 0x42 ∷ 0x43 ∷ 0x44 ∷ 0x45 ∷ 0x46 ∷ 0x47 ∷ 0x48 ∷ 0x49 ∷ 0x4a ∷ 0x4b ∷ 0x4c ∷ 0x4d ∷ 0x4e ∷ 0x4f
    ∷ 0x50 ∷ 0x51 ∷ 0x52 ∷ 0x53 ∷ 0x54 ∷ 0x55 ∷ 0x56 ∷ 0x57 ∷ 0x58 ∷ 0x59 ∷ 0x5a ∷ 0x5b ∷ 0x5c ∷ 0x5d ∷ 0x5e ∷ 0x5f
    ∷ 0x60 ∷ 0x61 ∷ 0x62 ∷ 0x63 ∷ []

-- at the far gateway and at a waypoint: an SRH of two segments, with SL and hop limit
abbrev pub to_e6 : (segments_left : ℕ) → List ℕ
to_e6 segments_left =
    let sid = with_args (sid_of 1) 64 (args_of 9 1) in
    ipv6 0 140 routing_header 64 (sid_of 0x63) sid (srh ipv6_protocol segments_left (sid ∷ gateway6 ∷ []) (replicate 100 7))

abbrev pub to_waypoint : (hop_limit : ℕ) → List ℕ
to_waypoint hop_limit = ipv6 0 140 routing_header hop_limit (sid_of 0x63) (sid_of 2)
    (srh ipv6_protocol 1 (sid_of 2 ∷ sid_of 1 ∷ []) (replicate 100 7))

abbrev pub stop_of : (behaviour waypoints : ℕ) → Stop
stop_of behaviour waypoints = record { version = v6; table = table behaviour waypoints; buffer = replicate 300 255 }

-- the GTP-U message of the papers in a UDP datagram
abbrev pub message : List ℕ
message =
    udp 2152 2152 26 0 (0x34 ∷ 0xff ∷ 0x00 ∷ 0x0a ∷ 0x01 ∷ 0x02 ∷ 0x03 ∷ 0x04 ∷ 0x00 ∷ 0x00 ∷ 0x00 ∷ 0x85 ∷ 0x01 ∷ 0x00 ∷ 0x49 ∷ 0x00 ∷
    0x60 ∷
    0x00 ∷ [])

-- an Echo Request from port 0x1234 with the sequence number 0xabcd, and the reply to it
abbrev pub echo_request : (checksum : ℕ) → List ℕ
echo_request checksum = udp 0x1234 2152 20 checksum (0x32 ∷ 0x01 ∷ 0x00 ∷ 0x04 ∷ 0x00 ∷ 0x00 ∷ 0x00 ∷ 0x00 ∷ 0xab ∷ 0xcd ∷ 0x00 ∷ 0x00 ∷ [])

abbrev pub echo_reply : (checksum : ℕ) → List ℕ
echo_reply checksum =
    0x08 ∷ 0x68 ∷ 0x12 ∷ 0x34 ∷ 0x00 ∷ 0x16 ∷ put16 checksum
    (0x32 ∷ 0x02 ∷ 0x00 ∷ 0x06 ∷ 0x00 ∷ 0x00 ∷ 0x00 ∷ 0x00 ∷ 0xab ∷ 0xcd ∷ 0x00 ∷ 0x00 ∷ 0x0e ∷ 0x00 ∷ [])

-- over IPv6 from 2001:db8:b:63:: to 2001:db8:a::1, behind an SRH with SL 0; over IPv4 from 198.51.100.7 to 192.0.2.1; class 0x2e
abbrev pub echo6 : List ℕ
echo6 = ipv6 0x2e 44 routing_header 55 (sid_of 0x63) gateway6 (srh 17 0 (gateway6 ∷ []) (echo_request 0xab6c))

abbrev pub reply6 : List ℕ
reply6 =
    0x62 ∷ 0xe0 ∷ 0x00 ∷ 0x00 ∷ 0x00 ∷ 0x16 ∷ 0x11 ∷ 0x40
    ∷ 0x20 ∷ 0x01 ∷ 0x0d ∷ 0xb8 ∷ 0x00 ∷ 0x0a ∷ 0x00 ∷ 0x00 ∷ 0x00 ∷ 0x00 ∷ 0x00 ∷ 0x00 ∷ 0x00 ∷ 0x00 ∷ 0x00 ∷ 0x01
    ∷ 0x20 ∷ 0x01 ∷ 0x0d ∷ 0xb8 ∷ 0x00 ∷ 0x0b ∷ 0x00 ∷ 0x63 ∷ 0x00 ∷ 0x00 ∷ 0x00 ∷ 0x00 ∷ 0x00 ∷ 0x00 ∷ 0x00 ∷ 0x00
    ∷ echo_reply 0x9d65

abbrev pub echo4 : List ℕ
echo4 = ipv4 0x2e 40 55 (198 ∷ 51 ∷ 100 ∷ 7 ∷ []) (192 ∷ 0 ∷ 2 ∷ 1 ∷ []) (echo_request 0)

abbrev pub reply4 : List ℕ
reply4 =
    0x45 ∷ 0x2e ∷ 0x00 ∷ 0x2a ∷ 0x00 ∷ 0x00 ∷ 0x40 ∷ 0x00 ∷ 0x40 ∷ 0x11 ∷ 0x4e ∷ 0x59
    ∷ 0xc0 ∷ 0x00 ∷ 0x02 ∷ 0x01 ∷ 0xc6 ∷ 0x33 ∷ 0x64 ∷ 0x07 ∷ echo_reply 0

-- the longest inner packets have the checksum 0, at a table that allows it: to sum them takes about a second of each check
abbrev pub zero_allowed : (waypoints : ℕ) → List ℕ
zero_allowed waypoints = splice (table end_m_gtp6d waypoints) 25 (1 ∷ [])

abbrev pub zero_checksum : (inner : List ℕ) → List ℕ
zero_checksum inner = ipv6 0x2e (24 + length inner) 17 64 (sid_of 0x63) gateway6 (datagram_octets 2152 downlink 0 (args_of 9 1) inner)

abbrev pub args9 : List ℕ
args9 = 0x26 ∷ 0x01 ∷ 0x02 ∷ 0x03 ∷ 0x04 ∷ []

unfoldable pub examples : List Example
examples =
    -- Args
    is (args_octets (args_of 9 1)) args9
    ∷ is (args_octets (args_of 5 0)) (0x14 ∷ 0x01 ∷ 0x02 ∷ 0x03 ∷ 0x04 ∷ [])
    ∷ is (take 1 (args_octets (args_of 63 1))) (0xfe ∷ [])
    ∷ is (args_octets (args_at (0xff ∷ 1 ∷ 2 ∷ 3 ∷ 4 ∷ []) 0)) (args_octets (args_of 63 1))
    ∷ is (args_octets (carried_by 0 [] [] message).args) args9
    ∷ is (carried_by 0 [] [] message).inner (0x60 ∷ 0x00 ∷ [])
    -- rows 9 to 13 pass it in downlink, and row 13 refuses it in uplink
    ∷ is (told (verdict (message_rows [] (datagram message) ++ g_pdu_rows downlink (datagram message)))) []
    ∷ is (told (verdict (message_rows [] (datagram message) ++ g_pdu_rows uplink (datagram message)))) (13 ∷ [])
    -- SIDs
    ∷ is (with_args (sid_of 1) 64 (args_of 9 1)) (0x20 ∷ 0x01 ∷ 0x0d ∷ 0xb8 ∷ 0x00 ∷ 0x0b ∷ 0x00 ∷ 0x01 ∷ 0x26 ∷ 0x01 ∷ 0x02 ∷ 0x03 ∷ 0x04 ∷
    0x00 ∷ 0x00 ∷ 0x00 ∷ [])
    ∷ is (d4_sid (Samples.rule []) (values4 [])) (0x20 ∷ 0x01 ∷ 0x0d ∷ 0xb8 ∷ 0x00 ∷ 0x0c ∷ 0xc0 ∷ 0x00 ∷ 0x02 ∷ 0x01 ∷ 0x26 ∷ 0x01 ∷ 0x02 ∷
    0x03 ∷ 0x04 ∷ 0x00 ∷ [])
    ∷ is (d4_source (Samples.rule []) (values4 []))
    (0x20 ∷ 0x01 ∷ 0x0d ∷ 0xb8 ∷ 0x00 ∷ 0x0d ∷ 0x00 ∷ 0x00 ∷ 0xc6 ∷ 0x33 ∷ 0x64 ∷ 0x07 ∷ 0x00 ∷ 0x00 ∷ 0x00 ∷ 0x00 ∷ [])
    -- lengths
    ∷ is (length in164 ∷ []) (164 ∷ [])
    ∷ is (call in164 (table end_m_gtp6d 0) 1500) (sent 164)
    ∷ is (call in164 (table end_m_gtp6d 2) 1500) (sent 196)
    ∷ is (call in164 (table end_m_gtp6d_di 0) 1500) (sent 180)
    ∷ is (octets_of (trip (stop_of end_m_gtp6d_di 0 ∷ stop_of end_m_gtp6d_di 0 ∷ []) in164).outcome) in164
    -- past two waypoints
    ∷ is (octets_of (trip (replicate 4 (stop_of end_m_gtp6d_di 2)) in164).outcome) in164
    -- destination is the first SID, with Args if there is one
    ∷ is (Ipv6.destination (octets_of (translate6 in164 (table end_m_gtp6d 0) 1500))) (with_args (sid_of 1) 64 (args_of 9 1))
    ∷ is (Ipv6.destination (octets_of (translate6 in164 (table end_m_gtp6d 2) 1500))) (sid_of 2)
    -- room
    ∷ is (call in164 (table end_m_gtp6d 0) 163) (16 ∷ 0 ∷ 0 ∷ 0 ∷ 0 ∷ [])
    ∷ is (call in164 (table end_m_gtp6d 0) 164) (sent 164)
    -- Segments Left at E6, hop limit at a waypoint
    ∷ is (call (to_e6 0) (table end_m_gtp6d 0) 1500) (7 ∷ 4 ∷ 0 ∷ 43 ∷ 0 ∷ [])
    ∷ is (call (to_e6 2) (table end_m_gtp6d 0) 1500) (7 ∷ 4 ∷ 0 ∷ 43 ∷ 0 ∷ [])
    ∷ is (call (to_e6 1) (table end_m_gtp6d 0) 1500) (sent 164)
    ∷ is (call (to_waypoint 1) (table end_m_gtp6d 0) 1500) (6 ∷ 3 ∷ 0 ∷ 0 ∷ 0 ∷ [])
    ∷ is (Ipv6.hop_limit (octets_of (translate6 (to_waypoint 2) (table end_m_gtp6d 0) 1500)) ∷ []) (1 ∷ [])
    -- Echo
    ∷ is (octets_of (translate6 echo6 (table end_m_gtp6d 0) 62)) reply6
    ∷ is (octets_of (translate6 echo6 (table end_m_gtp6d_di 2) 62)) reply6
    ∷ is (octets_of (translate4 echo4 (table end_m_gtp6d 2) 42)) reply4
    ∷ is (answer (translate4 echo4 (table end_m_gtp6d 0) 41)) (16 ∷ 0 ∷ 0 ∷ 0 ∷ 0 ∷ [])
    -- the longest inner packet past eight SIDs
    ∷ is (call (zero_checksum (replicate 65399 0)) (zero_allowed 7) 66000) (sent 65575)
    ∷ is (call (zero_checksum (replicate 65400 0)) (zero_allowed 7) 66000) (15 ∷ 0 ∷ 0 ∷ 0 ∷ 0 ∷ [])
    ∷ []

pub worked : T (right examples)
unfolding examples computing
worked = tt
