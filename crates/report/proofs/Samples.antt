-- Sample packets on both sides of each exception and of each number, and what is answered: one list, checked by computation.
use mathlib.Core.Bool.{Bool, cond}
use mathlib.Core.List.{List, [], ◌∷◌, ◌++◌}
use Prim.Native.Nat.{ℕ, ◌+◌}
use lib.Dec.{T}
use lib.ListN.{length}
use Rattle.rules.specs.Octets.{put16}
use Rattle.rules.specs.Answer.{any, Outcome, Sent, Refused, settle}
use Rattle.rules.proofs.Computing.{computing}
use Rattle.rules.proofs.Samples.{zeros, sid_of, gateway6, header}
use Rattle.rules.proofs.Thresholds.{Sample, is, right}
use Rattle.icmp.specs.Icmp.{quoted, checksum_of, icmp_packet}
use Rattle.icmp.proofs.Samples.{waypoint}
use Rattle.report.specs.Report.{none_due, report_of, icmp6}

-- one entry, a waypoint for every destination
abbrev pub table : List ℕ
table = header 1 0 0 waypoint

-- a packet with some hop limit, next header and addresses, and what follows
abbrev pub packet : (hops next : ℕ) (from to rest : List ℕ) → List ℕ
packet hops next from to rest = 0x60 ∷ 0 ∷ 0 ∷ 0 ∷ put16 (length rest) (next ∷ hops ∷ (from ++ (to ++ rest)))

-- an address that begins with two octets and ends with one
abbrev pub address : (first second last : ℕ) → List ℕ
address first second last = first ∷ second ∷ zeros 13 ++ last ∷ []

-- an SRH of one segment, with its next header and SL
abbrev pub srh : (next left : ℕ) (rest : List ℕ) → List ℕ
srh next left rest = next ∷ 2 ∷ 4 ∷ left ∷ 0 ∷ 0 ∷ 0 ∷ 0 ∷ (sid_of 1 ++ rest)

-- number and length of an answer: 0 is told as the length of what is sent, a refusal as 10,000 and its number
abbrev pub told : Outcome → ℕ
told (Sent x) = length x
told (Refused r) = 10000 + r.number

abbrev pub answer : (p : List ℕ) → ℕ
answer p = told (icmp6 p table 1280)

-- from and to an address, with nothing behind the header
abbrev pub from : (first second last : ℕ) → ℕ
from first second last = answer (packet 64 59 (address first second last) (sid_of 2) [])

abbrev pub to : (first second last : ℕ) → ℕ
to first second last = answer (packet 64 59 gateway6 (address first second last) [])

-- with an upper layer that begins with an octet, and behind an SRH
abbrev pub upper : (next first : ℕ) → ℕ
upper next first = answer (packet 64 next gateway6 (sid_of 2) (first ∷ []))

abbrev pub behind_srh : (next left hops first : ℕ) → ℕ
behind_srh next left hops first = answer (packet hops 43 gateway6 (sid_of 2) (srh next left (first ∷ [])))

abbrev pub bit : Bool → ℕ
bit b = cond b 1 0

unfoldable pub samples : List Sample
samples =
    -- toward a multicast source, ff00::/8
    is (from 0xff 0x00 0) 10023
    ∷ is (from 0xff 0x02 1) 10023
    ∷ is (from 0xfe 0xff 1) 88
    ∷ is (from 0x20 0xff 1) 88
    -- toward ::
    ∷ is (from 0 0 0) 10023
    ∷ is (from 0 0 1) 88
    ∷ is (from 0x80 0 0) 88
    -- to a multicast destination
    ∷ is (to 0xff 0x00 0) 10023
    ∷ is (to 0xff 0x02 1) 10023
    ∷ is (to 0xfe 0xff 1) 88
    ∷ is (to 0 0 0) 88
    -- about ICMPv6 with a type under 128 or 137
    ∷ is (upper 58 0) 10023
    ∷ is (upper 58 127) 10023
    ∷ is (upper 58 128) 89
    ∷ is (upper 58 136) 89
    ∷ is (upper 58 137) 10023
    ∷ is (upper 58 138) 89
    ∷ is (upper 58 255) 89
    -- without a type octet, and about another upper layer
    ∷ is (answer (packet 64 58 gateway6 (sid_of 2) [])) 88
    ∷ is (upper 59 1) 89
    ∷ is (upper 57 137) 89
    -- behind an SRH: no segment left, and one with the hop limit 1; with 2 the packet is sent on
    ∷ is (behind_srh 58 0 64 1) 10023
    ∷ is (behind_srh 58 0 64 128) 113
    ∷ is (behind_srh 59 1 1 1) 113
    ∷ is (behind_srh 58 1 1 1) 10023
    ∷ is (behind_srh 59 1 2 1) 10023
    -- malformed, no table, a header chain that is refused
    ∷ is (answer []) 10023
    ∷ is (told (icmp6 (packet 64 59 gateway6 (sid_of 2) []) [] 1280)) 10023
    ∷ is (upper 0 1) 10023
    -- the numbers
    ∷ is (bit (any (none_due 5 (packet 64 59 gateway6 (sid_of 2) [])))) 1
    ∷ is (bit (any (none_due 6 (packet 64 59 gateway6 (sid_of 2) [])))) 0
    ∷ is (bit (any (none_due 8 (packet 64 59 gateway6 (sid_of 2) [])))) 0
    ∷ is (bit (any (none_due 9 (packet 64 59 gateway6 (sid_of 2) [])))) 1
    -- room: an octet short, and just enough; 23 before 16
    ∷ is (told (icmp6 (packet 64 59 gateway6 (sid_of 2) []) table 87)) 10016
    ∷ is (told (icmp6 (packet 64 59 gateway6 (sid_of 2) []) table 88)) 88
    ∷ is (told (icmp6 (packet 64 59 (zeros 16) (sid_of 2) []) table 0)) 10023
    ∷ []

pub sampled : T (right samples)
unfolding samples computing settle quoted checksum_of icmp_packet none_due report_of icmp6
sampled = tt
