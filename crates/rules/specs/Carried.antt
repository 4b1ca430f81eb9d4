-- What a G-PDU carries from one side to the other, and how it is read from a packet with GTP-U in it.
use Rattle.std.specs.Prelude.{List, [], ℕ, drop}
use Rattle.rules.specs.Args.{Args}
use Rattle.rules.specs.Ipv6 as Ipv6
use Rattle.rules.specs.Ipv4 as Ipv4
use Rattle.rules.specs.Gtpu as Gtpu
use Rattle.rules.specs.Header.{header}

-- over IPv6 no source is carried, and the field is empty
pub record Carried : Type 0 where
  pub trafficClass : ℕ
  pub source : List ℕ
  pub destination : List ℕ
  pub args : Args
  pub inner : List ℕ

-- TEID from the GTP-U header, QFI and R from the container, R by the container's own direction; the inner octets are all that follow
unfoldable pub carried_by : (traffic_class : ℕ) (source destination u : List ℕ) → Carried
carried_by traffic_class source destination u = record {
  trafficClass = traffic_class;
  source = source;
  destination = destination;
  args = record { qfi = Gtpu.qfi u; reflective = Gtpu.reflective u; teid = Gtpu.teid u };
  inner = Gtpu.inner_of u;
}

-- the UDP datagram of an IPv6 packet, behind an SRH if there is one, and of an IPv4 packet without options
abbrev pub datagram_in6 : List ℕ → List ℕ
datagram_in6 p = drop (header p).upperAt p

abbrev pub datagram_in4 : List ℕ → List ℕ
datagram_in4 p = drop Ipv4.size p

-- what an IPv6 packet, and an IPv4 packet, carries
unfoldable pub carried6 : List ℕ → Carried
carried6 p = carried_by (Ipv6.traffic_class p) [] (Ipv6.destination p) (datagram_in6 p)

unfoldable pub carried4 : List ℕ → Carried
carried4 p = carried_by (Ipv4.tos p) (Ipv4.source p) (Ipv4.destination p) (datagram_in4 p)
