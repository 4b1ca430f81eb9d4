-- Sample packets, their octets written out, and what is found in them: one list, checked by computation.
use mathlib.Core.List.{List, [], ◌∷◌, ◌++◌}
use Prim.Native.Nat.{ℕ}
use lib.Dec.{T}
use lib.ListN.{take}
use Rattle.rules.proofs.Computing.{computing}
use Rattle.rules.proofs.Thresholds.{Sample, is, right}
use Rattle.sequence.specs.Sequence.{g_pdu_rows6, g_pdu_rows4, sequence_unless, sequence6, sequence4}

-- A DATAGRAM OF 24 OCTETS

-- its destination port, of which the high octet is 08, its flags and its message type; TEID 01020304, sequence number ABCD, N-PDU number 0,
-- the type of the first extension, and four octets more
abbrev pub datagram : (port flags kind extension : ℕ) → List ℕ
datagram port flags kind extension =
    0x08 ∷ 0x68 ∷ 0x08 ∷ port ∷ 0x00 ∷ 0x18 ∷ 0x00 ∷ 0x00
    ∷ flags ∷ kind ∷ 0x00 ∷ 0x08 ∷ 0x01 ∷ 0x02 ∷ 0x03 ∷ 0x04 ∷ 0xab ∷ 0xcd ∷ 0x00 ∷ extension
    ∷ 0x45 ∷ 0x00 ∷ 0x00 ∷ 0x04 ∷ []

-- a G-PDU to port 2152 with some flags: version 1 and PT are 0x30, S is 0x02
abbrev pub flagged : (flags : ℕ) → List ℕ
flagged flags = datagram 0x68 flags 255 0

-- twelve octets of GTP-U and nothing more, with every bit of TEID and sequence number 0, or 1
abbrev pub shortest : (bits : ℕ) → List ℕ
shortest bits =
    0x08 ∷ 0x68 ∷ 0x08 ∷ 0x68 ∷ 0x00 ∷ 0x14 ∷ 0x00 ∷ 0x00
    ∷ 0x32 ∷ 255 ∷ 0x00 ∷ 0x04 ∷ bits ∷ bits ∷ bits ∷ bits ∷ bits ∷ bits ∷ 0x00 ∷ 0x00 ∷ []

-- one octet less, and both lengths say so
abbrev pub too_short : List ℕ
too_short =
    0x08 ∷ 0x68 ∷ 0x08 ∷ 0x68 ∷ 0x00 ∷ 0x13 ∷ 0x00 ∷ 0x00
    ∷ 0x32 ∷ 255 ∷ 0x00 ∷ 0x03 ∷ 0x01 ∷ 0x02 ∷ 0x03 ∷ 0x04 ∷ 0xab ∷ 0xcd ∷ 0x00 ∷ []

-- IN A PACKET

-- from 2001:db8:b:63:: to 2001:db8:a::1
abbrev pub addresses6 : List ℕ
addresses6 =
    0x20 ∷ 0x01 ∷ 0x0d ∷ 0xb8 ∷ 0x00 ∷ 0x0b ∷ 0x00 ∷ 0x63 ∷ 0x00 ∷ 0x00 ∷ 0x00 ∷ 0x00 ∷ 0x00 ∷ 0x00 ∷ 0x00 ∷ 0x00
    ∷ 0x20 ∷ 0x01 ∷ 0x0d ∷ 0xb8 ∷ 0x00 ∷ 0x0a ∷ 0x00 ∷ 0x00 ∷ 0x00 ∷ 0x00 ∷ 0x00 ∷ 0x00 ∷ 0x00 ∷ 0x00 ∷ 0x00 ∷ 0x01 ∷ []

-- IPv6 of some payload length, right before a datagram
abbrev pub in6 : (size : ℕ) (u : List ℕ) → List ℕ
in6 size u = 0x60 ∷ 0x00 ∷ 0x00 ∷ 0x00 ∷ 0x00 ∷ size ∷ 0x11 ∷ 0x40 ∷ addresses6 ++ u

-- behind an SRH of one segment, with its next header, routing type and SL
abbrev pub behind_srh : (next kind left : ℕ) (u : List ℕ) → List ℕ
behind_srh next kind left u =
    0x60 ∷ 0x00 ∷ 0x00 ∷ 0x00 ∷ 0x00 ∷ 0x30 ∷ 0x2b ∷ 0x40 ∷ addresses6
    ++ (next ∷ 0x02 ∷ kind ∷ left ∷ 0x00 ∷ 0x00 ∷ 0x00 ∷ 0x00
    ∷ 0x20 ∷ 0x01 ∷ 0x0d ∷ 0xb8 ∷ 0x00 ∷ 0x0a ∷ 0x00 ∷ 0x00 ∷ 0x00 ∷ 0x00 ∷ 0x00 ∷ 0x00 ∷ 0x00 ∷ 0x00 ∷ 0x00 ∷ 0x01 ∷ u)

-- IPv4 from 198.51.100.7 to 192.0.2.1, 44 octets in all, with its octets 6 and 7 and its checksum
abbrev pub in4 : (flags offset high low : ℕ) (u : List ℕ) → List ℕ
in4 flags offset high low u =
    0x45 ∷ 0x00 ∷ 0x00 ∷ 0x2c ∷ 0x00 ∷ 0x00 ∷ flags ∷ offset ∷ 0x40 ∷ 0x11 ∷ high ∷ low
    ∷ 198 ∷ 51 ∷ 100 ∷ 7 ∷ 192 ∷ 0 ∷ 2 ∷ 1 ∷ u

-- the same with options: header length 6
abbrev pub options4 : List ℕ
options4 =
    0x46 ∷ 0x00 ∷ 0x00 ∷ 0x2c ∷ 0x00 ∷ 0x00 ∷ 0x40 ∷ 0x00 ∷ 0x40 ∷ 0x11 ∷ 0x4d ∷ 0x85
    ∷ 198 ∷ 51 ∷ 100 ∷ 7 ∷ 192 ∷ 0 ∷ 2 ∷ 1 ∷ flagged 0x32

-- WHAT IS FOUND

abbrev pub over6 : (u : List ℕ) → ℕ
over6 u = sequence6 (in6 0x18 u)

abbrev pub over4 : (u : List ℕ) → ℕ
over4 u = sequence4 (in4 0x40 0x00 0x4e 0x85 u)

unfoldable pub samples : List Sample
samples =
    -- a G-PDU with S: over IPv6, behind an SRH, over IPv4
    is (over6 (flagged 0x32)) 0x101020304abcd
    ∷ is (sequence6 (behind_srh 17 4 0 (flagged 0x32))) 0x101020304abcd
    ∷ is (over4 (flagged 0x32)) 0x101020304abcd
    -- TEID and sequence number at both ends, in twelve octets of GTP-U, and one octet less
    ∷ is (sequence6 (in6 0x14 (shortest 0x00))) 0x1000000000000
    ∷ is (sequence6 (in6 0x14 (shortest 0xff))) 0x1ffffffffffff
    ∷ is (sequence6 (in6 0x13 too_short)) 0
    -- S beside E, PN and the spare bit; rows from 12 on are not examined
    ∷ is (over6 (flagged 0x37)) 0x101020304abcd
    ∷ is (over6 (flagged 0x3a)) 0x101020304abcd
    ∷ is (over6 (datagram 0x68 0x36 255 0x77)) 0x101020304abcd
    -- without S: no flag, PN, E
    ∷ is (over6 (flagged 0x30)) 0
    ∷ is (over6 (flagged 0x31)) 0
    ∷ is (over6 (flagged 0x34)) 0
    ∷ is (over4 (flagged 0x30)) 0
    -- version 2, PT 0
    ∷ is (over6 (flagged 0x52)) 0
    ∷ is (over6 (flagged 0x22)) 0
    -- Echo Request, which has S; port 2153
    ∷ is (over6 (datagram 0x68 0x32 1 0)) 0
    ∷ is (over4 (datagram 0x68 0x32 1 0)) 0
    ∷ is (over6 (datagram 0x69 0x32 255 0)) 0
    ∷ is (over4 (datagram 0x69 0x32 255 0)) 0
    -- SL 1, a routing type but 4, TCP
    ∷ is (sequence6 (behind_srh 17 4 1 (flagged 0x32))) 0
    ∷ is (sequence6 (behind_srh 17 3 0 (flagged 0x32))) 0
    ∷ is (sequence6 (behind_srh 6 4 0 (flagged 0x32))) 0
    -- cut by an octet; cut, and the IPv6 length says so, but UDP's does not; nothing at all
    ∷ is (sequence6 (take 63 (in6 0x18 (flagged 0x32)))) 0
    ∷ is (sequence6 (take 63 (in6 0x17 (flagged 0x32)))) 0
    ∷ is (sequence4 (take 43 (in4 0x40 0x00 0x4e 0x85 (flagged 0x32)))) 0
    ∷ is (sequence6 []) 0
    ∷ is (sequence4 []) 0
    -- a fragment: the first of several, and a later one; a wrong checksum; options
    ∷ is (sequence4 (in4 0x20 0x00 0x6e 0x85 (flagged 0x32))) 0
    ∷ is (sequence4 (in4 0x00 0x01 0x8e 0x84 (flagged 0x32))) 0
    ∷ is (sequence4 (in4 0x40 0x00 0x4e 0x86 (flagged 0x32))) 0
    ∷ is (sequence4 options4) 0
    -- the other call's packet
    ∷ is (sequence4 (in6 0x18 (flagged 0x32))) 0
    ∷ is (sequence6 (in4 0x40 0x00 0x4e 0x85 (flagged 0x32))) 0
    ∷ []

pub sampled : T (right samples)
unfolding samples computing g_pdu_rows6 g_pdu_rows4 sequence_unless sequence6 sequence4
sampled = tt
