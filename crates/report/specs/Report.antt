-- The call that reports by ICMPv6 (RFC 4443): a message about a packet that the IPv6 call answers 6, 7 or 8, where one is due.
use Rattle.std.specs.Prelude.{Bool, not, ◌&&◌, List, [], ◌∷◌, ℕ, leb, ltb, eqb, Option, Some, None}
use Rattle.rules.specs.Octets.{octet, number}
use Rattle.rules.specs.Assigned.{icmpv6_protocol, redirect}
use Rattle.rules.specs.Table.{entry_at}
use Rattle.rules.specs.Ipv6 as Ipv6
use Rattle.rules.specs.Match.{match_entry}
use Rattle.rules.specs.Header.{header}
use Rattle.rules.specs.Answer.{row, given, plain, Outcome, Sent, Refused, outcome, unless, settle}
use Rattle.rules.specs.Calls.{decide6}
use Rattle.rules.specs.declared.Header.{Header}
use Rattle.icmp.specs.Icmp.{icmp_packet}

-- ff00::/8, and :: (RFC 4291, 2.7 and 2.5.2)
abbrev pub is_multicast : (address : List ℕ) → Bool
is_multicast address = eqb (octet address 0) 0xff

abbrev pub is_unspecified : (address : List ℕ) → Bool
is_unspecified address = eqb (number address 0 16) 0

-- the upper layer is ICMPv6, and its type octet is there
abbrev pub has_type : Header → Bool
has_type h = eqb h.upper icmpv6_protocol && ltb h.upperAt h.size

-- an error message (RFC 4443, 2.1), or a Redirect
abbrev pub is_error_or_redirect : (icmp_type : ℕ) → List Bool
is_error_or_redirect icmp_type = ltb icmp_type 128 ∷ eqb icmp_type redirect ∷ []

-- toward whom, and about what, none is built (RFC 4443, 2.4 e)
abbrev pub exceptions : (p : List ℕ) → List Bool
exceptions p =
    is_multicast (Ipv6.source p)
    ∷ is_unspecified (Ipv6.source p)
    ∷ is_multicast (Ipv6.destination p)
    ∷ given (has_type (header p)) (is_error_or_redirect (octet p (header p).upperAt))

-- row 23: none is due, a packet that is answered otherwise than 6, 7 or 8 included
unfoldable pub none_due : (answered : ℕ) (p : List ℕ) → List Bool
none_due answered p = not (leb 6 answered && leb answered 8) ∷ exceptions p

-- about what the IPv6 call decided of the packet p, at the entry that is the longest match for its destination
unfoldable pub report_of : (t p : List ℕ) → Option ℕ → Outcome → Outcome
report_of t p (Some i) (Refused r) = unless (row (none_due r.number p) 23 ∷ []) (Sent (icmp_packet (entry_at t i) r p))
report_of t p (Some i) (Sent x) = Refused (plain 23)
report_of t p None o = Refused (plain 23)

-- the call: 23, then 16
unfoldable pub icmp6 : (packet table : List ℕ) (room : ℕ) → Outcome
icmp6 p t room = settle room (report_of t p (match_entry t (Ipv6.destination p)) (outcome (decide6 p t)))
