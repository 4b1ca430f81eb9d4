-- Next header of an inner packet: 4, 41 or 143 for IPv4, IPv6 or Ethernet sessions.
use Rattle.std.specs.Prelude.{Bool, cond, ◌&&◌, ◌||◌, List, ℕ, ◌/◌, eqb}
use Rattle.rules.specs.Octets.{octet}
use Rattle.rules.specs.Assigned.{ipv4_session, ipv6_session, ipv4v6_session, ethernet_session, ipv4_protocol, ipv6_protocol}
use Rattle.rules.specs.Assigned.{ethernet_protocol}

-- as written; an IPv4v6 session takes 4 or 41 from the inner first nibble
unfoldable pub inner_protocol : (session : ℕ) (inner : List ℕ) → ℕ
inner_protocol session inner =
    cond (eqb session ipv4_session) ipv4_protocol
    (cond (eqb session ipv6_session) ipv6_protocol
    (cond (eqb session ethernet_session) ethernet_protocol (cond (eqb (octet inner 0 / 16) 4) ipv4_protocol ipv6_protocol)))

-- as accepted; for an IPv4v6 session 4 and 41, the inner packet is not examined
unfoldable pub accepts : (session next_header : ℕ) → Bool
accepts session next_header =
    (eqb session ipv4_session && eqb next_header ipv4_protocol)
    || ((eqb session ipv6_session && eqb next_header ipv6_protocol)
    || ((eqb session ethernet_session && eqb next_header ethernet_protocol)
    || (eqb session ipv4v6_session && (eqb next_header ipv4_protocol || eqb next_header ipv6_protocol))))
