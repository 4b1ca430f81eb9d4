-- A reply from what is read of the packet: where the datagram of the request begins, traffic class (TOS), hop limit (TTL).
use Rattle.std.specs.Prelude.{List, ℕ, drop}
use Rattle.rules.specs.Ipv6 as Ipv6
use Rattle.rules.specs.Ipv6.{ipv6}
use Rattle.rules.specs.Ipv4 as Ipv4
use Rattle.rules.specs.Ipv4.{ipv4}
use Rattle.rules.specs.Assigned.{udp_protocol}
use Rattle.rules.specs.Echo.{echo_answer, echo_checksum}

abbrev pub reply_to6 : (p : List ℕ) (at class hops : ℕ) → List ℕ
reply_to6 p at class hops =
    let u = drop at p in
    ipv6 class 22 udp_protocol hops (Ipv6.destination p) (Ipv6.source p)
    (echo_answer (echo_checksum (Ipv6.destination p) (Ipv6.source p) u) u)

abbrev pub reply_to4 : (p : List ℕ) (at tos ttl : ℕ) → List ℕ
reply_to4 p at tos ttl = ipv4 tos 42 ttl (Ipv4.destination p) (Ipv4.source p) (echo_answer 0 (drop at p))
