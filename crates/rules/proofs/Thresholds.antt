-- Sample packets on both sides of each threshold of rows 2 to 14 and 17, and some to which two rows apply, and what the calls answer them:
-- one list, checked by computation.
use mathlib.Core.Bool.{Bool, true, ◌&&◌}
use mathlib.Core.List.{List, [], ◌∷◌, ◌++◌}
use Prim.Native.Nat.{ℕ, ◌+◌}
use lib.Dec.{T, eqb}
use lib.ListN.{length, take, replicate}
use Rattle.rules.specs.Octets.{put16, splice}
use Rattle.rules.specs.UdpChecksum.{udp_checksum6}
use Rattle.rules.specs.Assigned.{end_m_gtp6d}
use Rattle.rules.specs.Checksum.{checksum}
use Rattle.rules.specs.Answer.{Outcome, Sent, Refused}
use Rattle.rules.specs.Calls.{translate6, translate4}
use Rattle.rules.proofs.Computing.{computing}
use Rattle.rules.proofs.Samples as Samples
use Rattle.rules.proofs.Samples.{zeros, network, sid_of, gateway6, table}

-- the number that is answered, 0 for a packet that is sent
abbrev pub number_of : Outcome → ℕ
number_of (Sent x) = 0
number_of (Refused r) = r.number

-- IPv6 PACKETS

-- to an address, with a first octet, a next header, a hop limit and what follows
abbrev pub packet : (first next hop : ℕ) (to rest : List ℕ) → List ℕ
packet first next hop to rest = first ∷ 0 ∷ 0 ∷ 0 ∷ put16 (length rest) (next ∷ hop ∷ (sid_of 0x63 ++ (to ++ rest)))

abbrev pub plain6 : (next : ℕ) (to rest : List ℕ) → List ℕ
plain6 next to rest = packet 0x60 next 64 to rest

-- behind an SRH of length 4, which holds two segments: with upper layer, routing type, SL and LE
abbrev pub routed : (hop : ℕ) (to : List ℕ) (upper kind left last : ℕ) (rest : List ℕ) → List ℕ
routed hop to upper kind left last rest = packet 0x60 43 hop to (upper ∷ 4 ∷ kind ∷ left ∷ last ∷ 0 ∷ 0 ∷ 0 ∷ zeros 32 ++ rest)

-- a UDP datagram with a GTP-U message: ports' second, lengths, flags, type, and what follows the TEID
abbrev pub message : (port udp_length flags kind size : ℕ) (rest : List ℕ) → List ℕ
message port udp_length flags kind size rest =
    put16 2152 (put16 port (put16 udp_length (put16 0 (flags ∷ kind ∷ put16 size (1 ∷ 2 ∷ 3 ∷ 4 ∷ rest)))))

-- a G-PDU with flags, first extension type, units, first content octet, following type and four octets more
abbrev pub gpdu : (flags kind units content following : ℕ) → List ℕ
gpdu flags kind units content following =
    message 2152 28 flags 255 12 (0 ∷ 0 ∷ 0 ∷ kind ∷ units ∷ content ∷ 0x49 ∷ following ∷ 0x45 ∷ 0 ∷ 0 ∷ 0 ∷ [])

-- an Echo Request with flags, the octets of its TEID and what follows it
abbrev pub echo : (flags a b c d : ℕ) (rest : List ℕ) → List ℕ
echo flags a b c d rest =
    let size = length rest in
    put16 2152 (put16 2152 (put16 (16 + size) (put16 0 (flags ∷ 1 ∷ put16 size (a ∷ b ∷ c ∷ d ∷ rest)))))

-- AT EACH KIND OF ENTRY, AND AT D4

-- where D allows a UDP checksum of zero, and where it does not
abbrev pub table_d : List ℕ
table_d = splice (table end_m_gtp6d 0) 25 (1 ∷ [])

abbrev pub strict_d : List ℕ
strict_d = table end_m_gtp6d 0

abbrev pub answer : List ℕ → ℕ
answer p = number_of (translate6 p table_d 300)

-- at a waypoint; its SL, LE and hop limit
abbrev pub onward : (left last hop : ℕ) → ℕ
onward left last hop = answer (routed hop (sid_of 2) 41 4 left last [])

abbrev pub at_e6 : (left last upper : ℕ) → ℕ
at_e6 left last upper = answer (routed 64 (sid_of 1) upper 4 left last [])

abbrev pub at_d : (datagram : List ℕ) → ℕ
at_d datagram = answer (plain6 17 gateway6 datagram)

abbrev pub strictly : (datagram : List ℕ) → ℕ
strictly datagram = number_of (translate6 (plain6 17 gateway6 datagram) strict_d 300)

-- a datagram with its checksum, and with something added to that; with some octets as its checksum
abbrev pub checksum_of : (datagram : List ℕ) → ℕ
checksum_of datagram = udp_checksum6 (sid_of 0x63) gateway6 datagram

abbrev pub summed : (more : ℕ) (datagram : List ℕ) → List ℕ
summed more datagram = splice datagram 6 (put16 (checksum_of datagram + more) [])

-- at D with IPv4v6 sessions and a policy of some SIDs: a G-PDU with an inner packet
abbrev pub table_either : (sids : ℕ) → List ℕ
table_either sids =
    let entry : List ℕ = 69 ∷ 48 ∷ 64 ∷ 0 ∷ 3 ∷ 0 ∷ 0 ∷ 0 ∷ 0 ∷ 1 ∷ put16 2152 (zeros 4 ++ (network 0xa ++ (sid_of 0x63 ++ zeros 16))) in
    Samples.header 1 0 1 (entry ++ Samples.policy (replicate sids (sid_of 1)))

abbrev pub tunnelled : (inner : List ℕ) → List ℕ
tunnelled inner =
    let size = length inner in
    message 2152 (24 + size) 0x34 255 (8 + size) (0 ∷ 0 ∷ 0 ∷ 0x85 ∷ 1 ∷ 0 ∷ 0x49 ∷ 0 ∷ inner)

-- two inner octets with which the words of such a datagram add up to FFFF
abbrev pub fitting : List ℕ
fitting = put16 (checksum_of (tunnelled (0 ∷ 0 ∷ []))) []

abbrev pub either : (inner : List ℕ) → ℕ
either inner = number_of (translate6 (plain6 17 gateway6 (tunnelled inner)) (table_either 1) 300)

-- an IPv4 packet with its first octet, total length, octets 6 and 7, protocol, and what is added to the right checksum
abbrev pub front4 : (first total flags offset protocol : ℕ) (rest : List ℕ) → List ℕ
front4 first total flags offset protocol rest = first ∷ 0 ∷ put16 total (0 ∷ 0 ∷ flags ∷ offset ∷ 64 ∷ protocol ∷ rest)

abbrev pub addresses4 : List ℕ
addresses4 = 198 ∷ 51 ∷ 100 ∷ 7 ∷ 192 ∷ 0 ∷ 2 ∷ 1 ∷ []

abbrev pub at_d4 : (first total flags offset protocol off : ℕ) → ℕ
at_d4 first total flags offset protocol off =
    let sum = checksum (front4 first total flags offset protocol (put16 0 addresses4)) in
    number_of (translate4 (front4 first total flags offset protocol (put16 (sum + off) (addresses4 ++ gpdu 0x34 0x85 1 0 0))) table_d 300)

-- THE SAMPLES

pub record Sample : Type 0 where
  pub got : ℕ
  pub want : ℕ

abbrev pub is : (got want : ℕ) → Sample
is got want = record { got = got; want = want }

abbrev pub right : List Sample → Bool
right [] = true
right (x ∷ xs) = eqb x.got x.want && right xs

unfoldable pub samples : List Sample
samples =
    -- row 2
    is (answer []) 2
    ∷ is (answer (take 39 (plain6 59 gateway6 []))) 2
    ∷ is (answer (plain6 59 gateway6 [])) 8
    ∷ is (answer (packet 0x50 59 64 gateway6 [])) 2
    ∷ is (answer (packet 0x70 59 64 gateway6 [])) 2
    ∷ is (answer (plain6 59 gateway6 [] ++ 0 ∷ [])) 2
    ∷ is (number_of (translate4 [] table_d 300)) 2
    ∷ is (number_of (translate4 (0x45 ∷ 0 ∷ 0 ∷ 19 ∷ zeros 15) table_d 300)) 2
    ∷ is (at_d4 0x45 48 0x40 0 17 0) 0
    ∷ is (at_d4 0x55 48 0x40 0 17 0) 2
    ∷ is (at_d4 0x35 48 0x40 0 17 0) 2
    ∷ is (at_d4 0x45 47 0x40 0 17 0) 2
    ∷ is (at_d4 0x45 49 0x40 0 17 0) 2
    -- row 3: header length, checksum, More Fragments, offset; DF and the reserved bit are not examined
    ∷ is (at_d4 0x44 48 0x40 0 17 0) 3
    ∷ is (at_d4 0x46 48 0x40 0 17 0) 3
    ∷ is (at_d4 0x45 48 0x40 0 17 1) 3
    ∷ is (at_d4 0x45 48 0x20 0 17 0) 3
    ∷ is (at_d4 0x45 48 0x40 1 17 0) 3
    ∷ is (at_d4 0x45 48 0x50 0 17 0) 3
    ∷ is (at_d4 0x45 48 0x41 0 17 0) 3
    ∷ is (at_d4 0x45 48 0x80 0 17 0) 0
    ∷ is (at_d4 0x45 48 0x00 0 17 0) 0
    -- row 4
    ∷ is (answer (plain6 59 (network 0xe) [])) 4
    -- row 5: the chain
    ∷ is (answer (plain6 0 (sid_of 2) [])) 5
    ∷ is (answer (plain6 44 (sid_of 2) [])) 5
    ∷ is (answer (plain6 60 (sid_of 2) [])) 5
    ∷ is (answer (plain6 1 (sid_of 2) [])) 8
    ∷ is (answer (plain6 45 (sid_of 2) [])) 8
    ∷ is (answer (plain6 61 (sid_of 2) [])) 8
    ∷ is (answer (routed 64 (sid_of 2) 0 4 1 1 [])) 5
    ∷ is (answer (routed 64 (sid_of 2) 43 4 1 1 [])) 5
    ∷ is (answer (routed 64 (sid_of 2) 44 4 1 1 [])) 5
    ∷ is (answer (routed 64 (sid_of 2) 60 4 1 1 [])) 5
    ∷ is (answer (routed 64 (sid_of 2) 59 4 1 1 [])) 0
    ∷ is (answer (routed 64 (sid_of 2) 41 3 1 1 [])) 5
    ∷ is (answer (plain6 43 (sid_of 2) (41 ∷ 0 ∷ 4 ∷ 0 ∷ 0 ∷ 0 ∷ 0 ∷ []))) 5
    ∷ is (answer (plain6 43 (sid_of 2) (41 ∷ 0 ∷ 4 ∷ 0 ∷ 0 ∷ 0 ∷ 0 ∷ 0 ∷ []))) 8
    ∷ is (answer (plain6 43 (sid_of 2) (41 ∷ 4 ∷ 4 ∷ 1 ∷ 1 ∷ 0 ∷ 0 ∷ 0 ∷ zeros 31))) 5
    ∷ is (answer (plain6 41 (sid_of 1) [])) 5
    -- row 6: hop limit 0 and 1, where a segment is left
    ∷ is (onward 1 1 2) 0
    ∷ is (onward 1 1 1) 6
    ∷ is (onward 1 1 0) 6
    ∷ is (onward 0 1 1) 8
    -- row 7: LE beyond the two segments held, SL beyond LE + 1; SL 1 at E6; SL 0 at D and E4
    ∷ is (onward 2 1 64) 0
    ∷ is (onward 3 1 64) 7
    ∷ is (onward 1 2 64) 7
    ∷ is (onward 2 0 64) 7
    ∷ is (onward 1 0 64) 0
    ∷ is (answer (plain6 43 (sid_of 2) (41 ∷ 3 ∷ 4 ∷ 1 ∷ 1 ∷ 0 ∷ 0 ∷ 0 ∷ zeros 24))) 7
    ∷ is (answer (plain6 43 (sid_of 2) (41 ∷ 5 ∷ 4 ∷ 1 ∷ 1 ∷ 0 ∷ 0 ∷ 0 ∷ zeros 40))) 0
    ∷ is (answer (plain6 43 (sid_of 2) (41 ∷ 5 ∷ 4 ∷ 1 ∷ 2 ∷ 0 ∷ 0 ∷ 0 ∷ zeros 40))) 7
    ∷ is (at_e6 1 1 41) 0
    ∷ is (at_e6 0 1 41) 7
    ∷ is (at_e6 2 1 41) 7
    ∷ is (at_e6 1 2 41) 7
    ∷ is (answer (routed 64 gateway6 17 4 0 1 (gpdu 0x34 0x85 1 0 0))) 0
    ∷ is (answer (routed 64 gateway6 17 4 1 1 (gpdu 0x34 0x85 1 0 0))) 7
    ∷ is (answer (routed 64 (network 0xc) 41 4 0 1 [])) 0
    ∷ is (answer (routed 64 (network 0xc) 41 4 1 1 [])) 7
    -- row 8: the session's next header, UDP and its port
    ∷ is (at_e6 1 1 4) 8
    ∷ is (at_e6 1 1 143) 8
    ∷ is (answer (plain6 41 (network 0xc) [])) 0
    ∷ is (answer (plain6 4 (network 0xc) [])) 8
    ∷ is (answer (plain6 6 gateway6 (gpdu 0x34 0x85 1 0 0))) 8
    ∷ is (at_d (message 2151 28 0x34 255 12 (zeros 12))) 8
    ∷ is (at_d (zeros 8)) 8
    ∷ is (at_d4 0x45 48 0x40 0 6 0) 8
    -- row 9
    ∷ is (at_d (zeros 7)) 9
    ∷ is (at_d (message 2152 27 0x34 255 12 (0 ∷ 0 ∷ 0 ∷ 0x85 ∷ 1 ∷ 0 ∷ 0x49 ∷ 0 ∷ zeros 4))) 9
    ∷ is (at_d (message 2152 29 0x34 255 12 (0 ∷ 0 ∷ 0 ∷ 0x85 ∷ 1 ∷ 0 ∷ 0x49 ∷ 0 ∷ zeros 4))) 9
    -- row 18: zero where it is allowed and where not; a sum that is right and one that is not; an odd octet; behind an SRH; of an Echo
    -- Request
    ∷ is (at_d (gpdu 0x34 0x85 1 0 0)) 0
    ∷ is (strictly (gpdu 0x34 0x85 1 0 0)) 18
    ∷ is (strictly (summed 0 (gpdu 0x34 0x85 1 0 0))) 0
    ∷ is (strictly (summed 1 (gpdu 0x34 0x85 1 0 0))) 18
    ∷ is (at_d (summed 0 (gpdu 0x34 0x85 1 0 0))) 0
    ∷ is (at_d (summed 1 (gpdu 0x34 0x85 1 0 0))) 18
    ∷ is (strictly (summed 0 (tunnelled (0x45 ∷ [])))) 0
    ∷ is (strictly (summed 1 (tunnelled (0x45 ∷ [])))) 18
    ∷ is (checksum_of (tunnelled (0x45 ∷ []))) (checksum_of (tunnelled (0x45 ∷ 0 ∷ [])) + 3)
    ∷ is (number_of (translate6 (routed 64 gateway6 17 4 0 1 (summed 0 (gpdu 0x34 0x85 1 0 0))) strict_d 300)) 0
    ∷ is (number_of (translate6 (routed 64 gateway6 17 4 0 1 (summed 1 (gpdu 0x34 0x85 1 0 0))) strict_d 300)) 18
    ∷ is (strictly (summed 0 (echo 0x32 0 0 0 0 (zeros 4)))) 0
    ∷ is (strictly (echo 0x32 0 0 0 0 (zeros 4))) 18
    -- a computed 0 is sent as FFFF, which is right there alone
    ∷ is (checksum_of (tunnelled fitting)) 0xffff
    ∷ is (strictly (summed 0 (tunnelled fitting))) 0
    ∷ is (strictly (tunnelled fitting)) 18
    ∷ is (strictly (splice (tunnelled (0 ∷ 0 ∷ [])) 6 (0xff ∷ 0xff ∷ []))) 18
    -- 8 and 9 are before 18; 10, 11 and 17 behind it
    ∷ is (strictly (message 2151 28 0x34 255 12 (zeros 12))) 8
    ∷ is (strictly (message 2152 27 0x34 255 12 (zeros 12))) 9
    ∷ is (strictly (gpdu 0x54 0x85 1 0 0)) 18
    ∷ is (strictly (message 2152 16 0x30 2 0 [])) 18
    ∷ is (strictly (echo 0x30 0 0 0 0 [])) 18
    -- row 10: eight octets, twelve with any of E, S, PN; version, PT, length
    ∷ is (at_d (put16 2152 (put16 2152 (put16 8 (put16 0 []))))) 10
    ∷ is (at_d (put16 2152 (put16 2152 (put16 15 (put16 0 (0x30 ∷ 255 ∷ 0 ∷ 0 ∷ 1 ∷ 2 ∷ 3 ∷ [])))))) 10
    ∷ is (at_d (message 2152 16 0x30 255 0 [])) 13
    ∷ is (at_d (message 2152 19 0x30 255 3 (zeros 3))) 13
    ∷ is (at_d (message 2152 19 0x31 255 3 (zeros 3))) 10
    ∷ is (at_d (message 2152 19 0x32 255 3 (zeros 3))) 10
    ∷ is (at_d (message 2152 19 0x34 255 3 (zeros 3))) 10
    ∷ is (at_d (message 2152 20 0x31 255 4 (zeros 4))) 13
    ∷ is (at_d (gpdu 0x54 0x85 1 0 0)) 10
    ∷ is (at_d (gpdu 0x14 0x85 1 0 0)) 10
    ∷ is (at_d (gpdu 0x24 0x85 1 0 0)) 10
    ∷ is (at_d (gpdu 0x3c 0x85 1 0 0)) 0
    ∷ is (at_d (message 2152 16 0x30 1 1 [])) 10
    ∷ is (at_d (message 2152 17 0x30 255 0 (0 ∷ []))) 10
    -- row 11
    ∷ is (at_d (message 2152 16 0x30 2 0 [])) 11
    ∷ is (at_d (message 2152 16 0x30 254 0 [])) 11
    -- row 17: S, each octet of the TEID; E, PN, extensions and elements are not examined, and there are no rows 11 to 15
    ∷ is (at_d (echo 0x32 0 0 0 0 (zeros 4))) 0
    ∷ is (at_d (echo 0x32 0 0 0 0 (zeros 3))) 10
    ∷ is (at_d (echo 0x30 0 0 0 0 [])) 17
    ∷ is (at_d (echo 0x35 0 0 0 0 (zeros 4))) 17
    ∷ is (at_d (echo 0x3f 0 0 0 0 (0 ∷ 7 ∷ 1 ∷ 0x40 ∷ 0 ∷ 14 ∷ []))) 0
    ∷ is (at_d (echo 0x32 1 0 0 0 (zeros 4))) 17
    ∷ is (at_d (echo 0x32 0 1 0 0 (zeros 4))) 17
    ∷ is (at_d (echo 0x32 0 0 1 0 (zeros 4))) 17
    ∷ is (at_d (echo 0x32 0 0 0 1 (zeros 4))) 17
    ∷ is (answer (routed 64 gateway6 17 4 0 1 (echo 0x32 0 0 0 0 (zeros 4)))) 0
    -- row 12: type, units, end, what follows; the next type counts only if E is set
    ∷ is (at_d (gpdu 0x34 0x85 1 0 0)) 0
    ∷ is (at_d (gpdu 0x34 0x84 1 0 0)) 12
    ∷ is (at_d (gpdu 0x33 0x84 1 0 0)) 13
    ∷ is (at_d (gpdu 0x34 0x85 0 0 0)) 12
    ∷ is (at_d (gpdu 0x34 0x85 2 0 0)) 0
    ∷ is (at_d (gpdu 0x34 0x85 3 0 0)) 12
    ∷ is (at_d (gpdu 0x34 0x85 1 0 0x85)) 12
    ∷ is (at_d (gpdu 0x34 0x85 1 0 0x40)) 12
    -- row 13
    ∷ is (at_d (gpdu 0x34 0x00 1 0 0)) 13
    ∷ is (at_d (gpdu 0x33 0x85 1 0 0)) 13
    ∷ is (at_d (gpdu 0x34 0x85 1 0x10 0)) 13
    ∷ is (at_d (gpdu 0x34 0x85 1 0x0f 0)) 0
    -- row 14
    ∷ is (either []) 14
    ∷ is (either (0x3f ∷ [])) 14
    ∷ is (either (0x40 ∷ [])) 0
    ∷ is (either (0x50 ∷ [])) 14
    ∷ is (either (0x6f ∷ [])) 0
    ∷ is (either (0x70 ∷ [])) 14
    -- a reply has 62 octets; 17 is before 16
    ∷ is (number_of (translate6 (plain6 17 gateway6 (echo 0x32 0 0 0 0 (zeros 4))) table_d 62)) 0
    ∷ is (number_of (translate6 (plain6 17 gateway6 (echo 0x32 0 0 0 0 (zeros 4))) table_d 61)) 16
    ∷ is (number_of (translate6 (plain6 17 gateway6 (echo 0x30 0 0 0 0 [])) table_d 0)) 17
    -- of two rows the one before: 5 and 16; 7 and 15 at E6, with an SRH that holds no segment; 14 and 15 at D
    ∷ is (number_of (translate6 (plain6 0 (sid_of 2) []) table_d 0)) 5
    ∷ is (number_of (translate6 (plain6 43 (sid_of 1) (41 ∷ 0 ∷ 4 ∷ 1 ∷ 0 ∷ 0 ∷ 0 ∷ 0 ∷ replicate 65512 0)) table_d 66000)) 7
    ∷ is (number_of (translate6 (plain6 17 gateway6 (tunnelled (replicate 65496 0))) (table_either 2) 66000)) 14
    ∷ is (number_of (translate6 (plain6 17 gateway6 (tunnelled (0x40 ∷ replicate 65495 0))) (table_either 2) 66000)) 15
    ∷ []

pub thresholds : T (right samples)
unfolding samples computing
thresholds = tt
