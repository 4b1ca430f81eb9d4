-- What is asked of an arriving IPv6 packet: rows 2 and 5, and the parts of row 7. The chain is the IPv6 next header and, where that
-- is 43, the SRH's; whatever follows is the upper layer.
use Rattle.std.specs.Prelude.{◌≡◌, Bool, cond, List, [], ◌∷◌, ℕ, ◌+◌, ◌*◌, ◌/◌, ◌≤◌, ◌<◌, leb, ltb, eqb, length}
use Rattle.rules.specs.Assigned.{hop_by_hop, routing_header, fragment_header, destination_options, segment_routing}
use Rattle.rules.specs.Ipv6 as Ipv6
use Rattle.rules.specs.Srh as Srh
use Rattle.rules.specs.Answer.{differs, given}
use Rattle.rules.specs.declared.Header.{Header}

-- of a packet of n octets that begins with p
abbrev pub header_of : (p : List ℕ) (n : ℕ) → Header
header_of p n = record {
  size = n;
  version = Ipv6.version p;
  trafficClass = Ipv6.traffic_class p;
  payloadLength = Ipv6.payload_length p;
  nextHeader = Ipv6.next_header p;
  hopLimit = Ipv6.hop_limit p;
  units = Srh.units p;
  routingType = Srh.routing_type p;
  segmentsLeft = Srh.segments_left p;
  lastEntry = Srh.last_entry p;
  upper = cond (eqb (Ipv6.next_header p) routing_header) (Srh.next_header p) (Ipv6.next_header p);
  upperAt = cond (eqb (Ipv6.next_header p) routing_header) (48 + 8 * Srh.units p) 40;
}

unfoldable pub header : List ℕ → Header
header p = header_of p (length p)

-- row 2: shorter than 40 octets, wrong version, or the length field disagrees with the packet lent
abbrev pub malformed : Header → List Bool
malformed h = ltb h.size 40 ∷ differs h.version 6 ∷ differs (40 + h.payloadLength) h.size ∷ []

-- the packet has a routing header
abbrev pub has_srh : Header → Bool
has_srh h = eqb h.nextHeader routing_header

-- row 5 (house): next header 0, 44 or 60 in the chain, a second 43, routing type not 4, or SRH cut short: fewer octets left than 8, or than
-- its length field says
abbrev pub bad_srh : Header → List Bool
bad_srh h =
    ltb h.size 48
    ∷ differs h.routingType segment_routing
    ∷ ltb h.size h.upperAt
    ∷ eqb h.upper hop_by_hop
    ∷ eqb h.upper fragment_header
    ∷ eqb h.upper destination_options
    ∷ eqb h.upper routing_header
    ∷ []

abbrev pub bad_chain : Header → List Bool
bad_chain h =
    eqb h.nextHeader hop_by_hop
    ∷ eqb h.nextHeader fragment_header
    ∷ eqb h.nextHeader destination_options
    ∷ given (has_srh h) (bad_srh h)

-- LE beyond the segments held, of which (length field / 2) - 1 is the highest index
abbrev pub beyond_held : Header → Bool
beyond_held h = leb (h.units / 2) h.lastEntry

-- row 7 at D, Di and E4: SL not 0
abbrev pub segments_remain : Header → List Bool
segments_remain h = given (has_srh h) (differs h.segmentsLeft 0 ∷ [])

-- a packet that passed row 2, and its view: no packet is longer than its length field allows
pub record WellFormed (p : List ℕ) (h : Header) : Type 0 where
  pub view : h ≡ header p
  pub long : 40 ≤ length p
  pub short : length p < 65576
