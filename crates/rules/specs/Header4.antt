-- The view of an IPv4 packet, and rows 2 and 3.
use Rattle.std.specs.Prelude.{◌≡◌, Bool, List, [], ◌∷◌, ℕ, ◌≤◌, ◌<◌, ltb, length}
use Rattle.rules.specs.Ipv4 as Ipv4
use Rattle.rules.specs.Answer.{differs}
use Rattle.rules.specs.declared.Header4.{Header4}

-- what is asked of an IPv4 packet of n octets that begins with p
abbrev pub header4_of : (p : List ℕ) (n : ℕ) → Header4
header4_of p n = record {
  size = n;
  version = Ipv4.version p;
  headerLength = Ipv4.header_length p;
  totalLength = Ipv4.total_length p;
  moreFragments = Ipv4.more_fragments p;
  fragmentOffset = Ipv4.fragment_offset p;
  protocol = Ipv4.protocol p;
  headerSum = Ipv4.header_sum p;
}

unfoldable pub header4 : List ℕ → Header4
header4 p = header4_of p (length p)

-- row 2: shorter than 20 octets, wrong version, or the length field disagrees with the packet lent
abbrev pub malformed4 : Header4 → List Bool
malformed4 h = ltb h.size 20 ∷ differs h.version 4 ∷ differs h.totalLength h.size ∷ []

-- row 3: header length not 5, wrong checksum, a fragment; for options and fragments stricter than the standard (house)
abbrev pub bad_header4 : Header4 → List Bool
bad_header4 h =
    differs h.headerLength 5
    ∷ differs h.headerSum 0xffff
    ∷ differs h.moreFragments 0
    ∷ differs h.fragmentOffset 0
    ∷ []

-- a packet that passed rows 2 and 3, and its view: no packet is longer than its length field allows
pub record WellFormed4 (p : List ℕ) (h : Header4) : Type 0 where
  pub view : h ≡ header4 p
  pub long : 20 ≤ length p
  pub short : length p < 65536
