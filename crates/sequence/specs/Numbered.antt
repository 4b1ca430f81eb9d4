-- A well-formed G-PDU with S, said a second time: field by field, in the octets of the packet and plain numbers. No row, no view and no
-- reader of the layouts is named here.
use Rattle.std.specs.Prelude.{◌≡◌, ◌≢◌, List, ℕ, ◌+◌, ◌*◌, ◌^◌, ◌/◌, ◌%◌, ◌≤◌, length}
use Rattle.rules.specs.Octets.{octet, read16}

-- UDP (RFC 768) from octet `at` to the packet's end, and in it, behind eight octets, GTP-U (TS 29.281); with S its header has twelve octets
pub record GPduAt (p : List ℕ) (at : ℕ) : Type 0 where
  pub size : at + 8 + 12 ≤ length p
  pub destinationPort : read16 p (at + 2) ≡ 2152
  pub udp_length : at + read16 p (at + 4) ≡ length p
  pub version : octet p (at + 8) / 32 ≡ 1
  pub protocol_type : octet p (at + 8) / 16 % 2 ≡ 1
  pub sequence_flag : octet p (at + 8) / 2 % 2 ≡ 1
  pub messageType : octet p (at + 9) ≡ 255
  pub messageLength : at + 8 + 8 + read16 p (at + 10) ≡ length p

-- OVER IPV6

-- the IPv6 header (RFC 8200) of a packet
pub record Whole6 (p : List ℕ) : Type 0 where
  pub size : 40 ≤ length p
  pub version : octet p 0 / 16 ≡ 6
  pub payloadLength : 40 + read16 p 4 ≡ length p

-- a Segment Routing Header (RFC 8754) behind it, before UDP, with no segment left
pub record SpentSrh (p : List ℕ) : Type 0 where
  pub nextHeader : octet p 40 ≡ 17
  pub routingType : octet p 42 ≡ 4
  pub segmentsLeft : octet p 43 ≡ 0

-- UDP right behind the IPv6 header, or behind the SRH, whose length counts units of eight octets past the first
pub data UdpAt (p : List ℕ) (at : ℕ) : Type 0 where
  plain : octet p 6 ≡ 17 → at ≡ 40 → UdpAt p at
  behind_srh : octet p 6 ≡ 43 → SpentSrh p → at ≡ 40 + 8 + 8 * octet p 41 → UdpAt p at

pub record Numbered6 (p : List ℕ) (at : ℕ) : Type 0 where
  pub header : Whole6 p
  pub upper : UdpAt p at
  pub g_pdu : GPduAt p at

-- OVER IPV4

-- the sum of the ten 16-bit words of the header; with the right checksum it is a multiple of FFFF (RFC 1071)
abbrev pub header_words : List ℕ → ℕ
header_words p =
    read16 p 0 + read16 p 2 + read16 p 4 + read16 p 6 + read16 p 8
    + read16 p 10 + read16 p 12 + read16 p 14 + read16 p 16 + read16 p 18

-- the IPv4 header (RFC 791) without options; More Fragments and the offset are the low six bits of octet 6, and octet 7
pub record Numbered4 (p : List ℕ) : Type 0 where
  pub version : octet p 0 / 16 ≡ 4
  pub headerLength : octet p 0 % 16 ≡ 5
  pub totalLength : read16 p 2 ≡ length p
  pub fragment_high : octet p 6 % 64 ≡ 0
  pub fragment_low : octet p 7 ≡ 0
  pub protocol : octet p 9 ≡ 17
  pub checksum : header_words p % 0xffff ≡ 0
  pub g_pdu : GPduAt p 20

-- WHAT IS GIVEN

-- bit 48, then the octets of the TEID and of the sequence number, in the order of the packet
abbrev pub number_at : (p : List ℕ) (at : ℕ) → ℕ
number_at p at =
    2 ^ 48 + octet p (at + 12) * 2 ^ 40 + octet p (at + 13) * 2 ^ 32 + octet p (at + 14) * 2 ^ 24 + octet p (at + 15) * 2 ^ 16
    + octet p (at + 16) * 2 ^ 8 + octet p (at + 17)

-- TEID and sequence number, read from what is given
pub record ReadBack (r t n : ℕ) : Type 0 where
  pub bit48 : r / 2 ^ 48 ≡ 1
  pub teid : r / 2 ^ 16 % 2 ^ 32 ≡ t
  pub sequence_number : r % 2 ^ 16 ≡ n

-- a number r is that of the G-PDU exactly where there is one, else 0
pub record Gives6 (p : List ℕ) (r : ℕ) : Type 0 where
  pub numbered : (at : ℕ) → Numbered6 p at → r ≡ number_at p at
  pub otherwise : ((at : ℕ) → Numbered6 p at → ⊥) → r ≡ 0
  pub only : r ≢ 0 → (at : ℕ) × Numbered6 p at

pub record Gives4 (p : List ℕ) (r : ℕ) : Type 0 where
  pub numbered : Numbered4 p → r ≡ number_at p 20
  pub otherwise : (Numbered4 p → ⊥) → r ≡ 0
  pub only : r ≢ 0 → Numbered4 p
