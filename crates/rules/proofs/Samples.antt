-- Sample tables and packets, as octets, for the worked packets and for trips that meet the premises of demand 3.
use mathlib.Core.Path.{◌≡◌}
use mathlib.Core.Bool.{Bool, true, ◌&&◌}
use mathlib.Core.List.{List, [], ◌∷◌, ◌++◌}
use Prim.Native.Nat.{ℕ, zero, suc, ◌-◌, ◌*◌}
use native.Mathlib.Omega.{arith}
use lib.Dec.{ltb}
use lib.ListN.{length, replicate}
use borrow.Author.Tests.{ltb-true}
use Rattle.rules.specs.Octets.{Octets, put16}
use Rattle.rules.specs.Assigned.{end, end_m_gtp6e, end_m_gtp4e, ipv6_session, downlink}
use Rattle.rules.specs.Args.{Args}
use Rattle.rules.specs.Carried.{Carried}
use Rattle.rules.specs.E6.{e6_packet}
use Rattle.rules.specs.E4.{e4_packet}
use Rattle.rules.proofs.Conditions.{and_left, and_right}

abbrev pub zeros : ℕ → List ℕ
zeros n = replicate n 0

-- octets, by a test
abbrev pub bytes : List ℕ → Bool
bytes [] = true
bytes (x ∷ s) = ltb x 256 && bytes s

pub bytes-octets : (s : List ℕ) → bytes s ≡ true → Octets s
bytes-octets [] h i = omega arith
bytes-octets (x ∷ s) h zero = ltb-true x 256 (and_left (ltb x 256) (bytes s) h)
bytes-octets (x ∷ s) h (suc i) = bytes-octets s (and_right (ltb x 256) (bytes s) h) i

-- ADDRESSES

-- 2001:db8:GROUP::
abbrev pub network : (group : ℕ) → List ℕ
network group = 0x20 ∷ 0x01 ∷ 0x0d ∷ 0xb8 ∷ put16 group (zeros 10)

-- 2001:db8:b:N::
abbrev pub sid_of : (n : ℕ) → List ℕ
sid_of n = 0x20 ∷ 0x01 ∷ 0x0d ∷ 0xb8 ∷ 0 ∷ 0x0b ∷ 0 ∷ n ∷ zeros 8

-- 2001:db8:a::1, where the G-PDUs of the samples go
abbrev pub gateway6 : List ℕ
gateway6 = 0x20 ∷ 0x01 ∷ 0x0d ∷ 0xb8 ∷ 0 ∷ 0x0a ∷ zeros 9 ++ 1 ∷ []

abbrev pub joined : (addresses : List (List ℕ)) → List ℕ
joined [] = []
joined (a ∷ more) = a ++ joined more

-- TABLES

abbrev pub header : (entries rules policies : ℕ) (rest : List ℕ) → List ℕ
header entries rules policies rest = 1 ∷ 0 ∷ put16 entries (put16 rules (put16 policies (zeros 8 ++ rest)))

-- IPv6 sessions downlink, hop limit 64, policy 0, Args at bit 64, p 6, q 8, source port 2152, source 2001:db8:b:63::
abbrev pub entry : (behaviour prefix_length : ℕ) (prefix : List ℕ) → List ℕ
entry behaviour prefix_length prefix =
    behaviour ∷ prefix_length ∷ 64 ∷ downlink ∷ ipv6_session ∷ 0 ∷ 64 ∷ 6 ∷ 8 ∷ 0 ∷ put16 2152
    (zeros 4 ++ (prefix ++ (sid_of 0x63 ++ zeros 16)))

-- IPv6 sessions downlink, hop limit 64, p 6, q 8, any destination
abbrev pub rule : (waypoints : List (List ℕ)) → List ℕ
rule waypoints =
    0 ∷ 64 ∷ downlink ∷ ipv6_session ∷ 6 ∷ 8 ∷ length waypoints ∷ 0 ∷ zeros 8
    ++ (network 0xc ++ (network 0xd ++ (joined waypoints ++ zeros (112 - 16 * length waypoints))))

-- Args at bit 64
abbrev pub policy : (sids : List (List ℕ)) → List ℕ
policy sids = length sids ∷ 64 ∷ zeros 14 ++ (joined sids ++ zeros (272 - 16 * length sids))

-- an entry of a behaviour for 2001:db8:a::/48; E6 for 2001:db8:b:1::/64, a waypoint for 2001:db8:b:2::/64, E4 for 2001:db8:c::/48;
-- a policy past as many waypoints to 2001:db8:b:1::, and a rule past as many
abbrev pub table : (behaviour waypoints : ℕ) → List ℕ
table behaviour waypoints =
    header 4 1 1
    (entry behaviour 48 (network 0xa)
    ++ (entry end_m_gtp6e 64 (sid_of 1)
    ++ (entry end 64 (sid_of 2) ++ (entry end_m_gtp4e 48 (network 0xc)
    ++ (rule (replicate waypoints (sid_of 2)) ++ policy (replicate waypoints (sid_of 2) ++ sid_of 1 ∷ []))))))

-- PACKETS

-- QFI, R and the TEID 01020304
abbrev pub args_of : (qfi reflective : ℕ) → Args
args_of qfi reflective = record { qfi = qfi; reflective = reflective; teid = 1 ∷ 2 ∷ 3 ∷ 4 ∷ [] }

-- G-PDUs of flow 9 with the reflective bit: over IPv6, and over IPv4 from 198.51.100.7 to 192.0.2.1
abbrev pub values6 : (inner : List ℕ) → Carried
values6 inner = record { trafficClass = 0x2e; source = []; destination = gateway6; args = args_of 9 1; inner = inner }

abbrev pub values4 : (inner : List ℕ) → Carried
values4 inner = record {
  trafficClass = 0x2e;
  source = 198 ∷ 51 ∷ 100 ∷ 7 ∷ [];
  destination = 192 ∷ 0 ∷ 2 ∷ 1 ∷ [];
  args = args_of 9 1;
  inner = inner;
}

abbrev pub packet6 : (inner : List ℕ) → List ℕ
packet6 inner = e6_packet (entry end_m_gtp6e 0 (zeros 16)) (values6 inner)

abbrev pub packet4 : (inner : List ℕ) → List ℕ
packet4 inner = e4_packet (entry end_m_gtp4e 0 (zeros 16)) (values4 inner)
