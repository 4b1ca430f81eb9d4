-- The call at D and Di: what a packet that is sent on tells, and what becomes there of the packet that E6 wrote.
use mathlib.Core.Path.{◌≡◌, refl, sym, ap, ◌∙◌}
use mathlib.Core.Bool.{Bool, false, cond}
use mathlib.Core.List.{List, []}
use Prim.Native.Nat.{ℕ, ◌+◌, ◌<◌}
use native.Mathlib.Omega.{arith}
use lib.Dec.{eqb}
use lib.ListN.{length}
use borrow.Author.Tests.{le-leb}
use Rattle.rules.specs.Octets.{octet, Octets}
use Rattle.rules.specs.Assigned.{udp_protocol, downlink, g_pdu}
use Rattle.rules.specs.Entry as Entry
use Rattle.rules.specs.Ipv6 as Ipv6
use Rattle.rules.specs.Gtpu as Gtpu
use Rattle.rules.specs.Answer.{Decision, Sent, outcome}
use Rattle.rules.specs.Header.{header, malformed}
use Rattle.rules.specs.Datagram.{datagram, message_rows, g_pdu_rows}
use Rattle.rules.specs.Carried.{Carried, carried_by, carried6, datagram_in6}
use Rattle.rules.specs.Gtp6D.{gtp6_rows, checksum_rows, gtp6d_rows, rows_gtp6d, decide_g_pdu6, decide_gtp6d}
use Rattle.rules.specs.UdpChecksum.{bad_checksum}
use Rattle.rules.specs.E6.{e6_packet, e6_payload, e6_datagram, e6_checksum}
use Rattle.rules.proofs.Windows.{window-length}
use Rattle.rules.proofs.Rows.{Clear, None, clear, read, none_parts, parts_none, unless-none, unless-sent}
use Rattle.rules.proofs.Reading.{ipv6-drop, ipv6-header, ipv6-source, ipv6-destination, ipv6-traffic_class}
use Rattle.rules.proofs.FarE6.{Valid, datagram-length}
use Rattle.rules.proofs.E6Checksums.{AllOctets, e6-passes}
use Rattle.rules.proofs.Messages.{datagram_back, carried_by_back, carried_by-fits, carried_by_quiet}

-- No row applied: to the IPv6 packet, to the datagram in it, to what is to be sent.
pub record Passed (e : List ℕ) (path : List (List ℕ)) (p : List ℕ) : Type 0 where
  pub front : Clear (malformed (header p))
  pub tunnel : None (gtp6_rows (header p) (datagram (datagram_in6 p)))
  pub message : None (message_rows (checksum_rows e p) (datagram (datagram_in6 p)))
  pub g_pdu : None (g_pdu_rows (Entry.direction e) (datagram (datagram_in6 p)))
  pub last : None (gtp6d_rows e path (carried6 p).inner)

module _ (e : List ℕ) (path : List (List ℕ)) (made p : List ℕ) where
  -- a G-PDU is no Echo Request
  pub g_pdu_decides : Gtpu.message_type (datagram_in6 p) ≡ g_pdu → decide_gtp6d e path made p ≡ decide_g_pdu6 e path made p
  unfolding datagram
  g_pdu_decides t = rw t

  pub sent_passed : (x : List ℕ) → Gtpu.message_type (datagram_in6 p) ≡ g_pdu → Clear (malformed (header p))
      → outcome (decide_gtp6d e path made p) ≡ Sent x → Passed e path p × (made ≡ x)
  unfolding rows_gtp6d
  sent_passed x t front h =
      let g = datagram (datagram_in6 p) in
      let (n, k) = unless-sent (rows_gtp6d e path p) (Sent made) x (sym (ap (λ (d : Decision). outcome d) (g_pdu_decides t)) ∙ h) in
      let last = gtp6d_rows e path (carried6 p).inner in
      let (a, (b, (c, d))) =
      none_parts (gtp6_rows (header p) g) (message_rows (checksum_rows e p) g) (g_pdu_rows (Entry.direction e) g) last n in
      (record { front = front; tunnel = a; message = b; g_pdu = c; last = d }, cc)

  pub passed_g_pdu : Passed e path p → Gtpu.message_type (datagram_in6 p) ≡ g_pdu
  unfolding g_pdu_rows datagram
  passed_g_pdu n = omega (read, n.g_pdu)

  pub passed_sent : Passed e path p → outcome (decide_gtp6d e path made p) ≡ Sent made
  unfolding rows_gtp6d
  passed_sent n =
      let g = datagram (datagram_in6 p) in
      ap (λ (d : Decision). outcome d) (g_pdu_decides (passed_g_pdu n))
      ∙ unless-none (rows_gtp6d e path p) (Sent made)
      (parts_none (gtp6_rows (header p) g) (message_rows (checksum_rows e p) g) (g_pdu_rows (Entry.direction e) g)
      (gtp6d_rows e path (carried6 p).inner)
      n.tunnel n.message n.g_pdu n.last)

  -- in uplink R is 0
  pub passed_quiet : Passed e path p → cond (eqb (Entry.direction e) downlink) 0 (carried6 p).args.reflective ≡ 0
  unfolding carried6 g_pdu_rows datagram
  passed_quiet n = carried_by_quiet (Ipv6.traffic_class p) [] (Ipv6.destination p) (datagram_in6 p) (Entry.direction e)
      (omega (read, n.g_pdu))

-- what was read
pub carried6_valid : (p : List ℕ) → Octets p → Valid 16 (carried6 p)
unfolding carried6 carried_by
carried6_valid p o = record {
  octet = omega (arith, o 1);
  to = window-length p 24 16;
  args = carried_by-fits (Ipv6.traffic_class p) [] (Ipv6.destination p) (datagram_in6 p);
}

pub carried6-source : (p : List ℕ) → (carried6 p).source ≡ []
unfolding carried6 carried_by
carried6-source p = refl

pub carried6-destination : (p : List ℕ) → (carried6 p).destination ≡ Ipv6.destination p
unfolding carried6 carried_by
carried6-destination p = refl

-- What E6 writes is read back at D and Di.
module _ (f : List ℕ) (c : Carried) (v : Valid 16 c) (none : c.source ≡ []) where
  sum : ℕ
  sum = e6_checksum f c.destination c.args c.inner

  rest : List ℕ
  rest = e6_datagram f sum c.args c.inner

  back_header : header (e6_packet f c) ≡ record {
    size = 64 + length c.inner;
    version = 6;
    trafficClass = c.trafficClass;
    payloadLength = e6_payload c.inner;
    nextHeader = udp_protocol;
    hopLimit = Entry.hop_limit f;
    units = octet rest 1;
    routingType = octet rest 2;
    segmentsLeft = octet rest 3;
    lastEntry = octet rest 4;
    upper = udp_protocol;
    upperAt = 40;
  }
  unfolding e6_packet rest sum
  back_header =
      let l : 40 + length rest ≡ 64 + length c.inner =
      rw (datagram-length (Entry.source_port f) (Entry.direction f) sum c.args c.inner v.args) (omega arith) in
      ipv6-header c.trafficClass (e6_payload c.inner) udp_protocol (Entry.hop_limit f) (Entry.source f) c.destination rest
      (window-length f 32 16) v.to v.octet
      ∙ (λ k. record {
        size = l k;
        version = 6;
        trafficClass = c.trafficClass;
        payloadLength = e6_payload c.inner;
        nextHeader = udp_protocol;
        hopLimit = Entry.hop_limit f;
        units = octet rest 1;
        routingType = octet rest 2;
        segmentsLeft = octet rest 3;
        lastEntry = octet rest 4;
        upper = udp_protocol;
        upperAt = 40;
      })

  pub back_datagram : datagram_in6 (e6_packet f c)
      ≡ e6_datagram f (e6_checksum f c.destination c.args c.inner) c.args c.inner
  unfolding e6_packet rest sum
  back_datagram =
      rw back_header (ipv6-drop c.trafficClass (e6_payload c.inner) udp_protocol (Entry.hop_limit f) (Entry.source f) c.destination
      rest (window-length f 32 16) v.to 0)

  back_source : Ipv6.source (e6_packet f c) ≡ Entry.source f
  unfolding e6_packet rest sum
  back_source = ipv6-source c.trafficClass (e6_payload c.inner) udp_protocol (Entry.hop_limit f) (Entry.source f)
      c.destination rest (window-length f 32 16) v.to

  pub back_destination : Ipv6.destination (e6_packet f c) ≡ c.destination
  unfolding e6_packet rest sum
  back_destination = ipv6-destination c.trafficClass (e6_payload c.inner) udp_protocol (Entry.hop_limit f) (Entry.source f)
      c.destination rest (window-length f 32 16) v.to

  back_class : Ipv6.traffic_class (e6_packet f c) ≡ c.trafficClass
  unfolding e6_packet rest sum
  back_class = ipv6-traffic_class c.trafficClass (e6_payload c.inner) udp_protocol (Entry.hop_limit f) (Entry.source f) c.destination
      rest (window-length f 32 16) v.to v.octet

  pub back_values : cond (eqb (Entry.direction f) downlink) 0 c.args.reflective ≡ 0 → carried6 (e6_packet f c) ≡ c
  unfolding carried6
  back_values quiet =
      (λ k. carried_by (back_class k) (sym none k) (back_destination k) (back_datagram k))
      ∙ carried_by_back (Entry.source_port f) (Entry.direction f) (e6_checksum f c.destination c.args c.inner) c v.args quiet

  -- its checksum is right there, whether zero is allowed or not
  pub back_checksum : AllOctets c → Octets f → Entry.direction f < 2 → 24 + length c.inner < 65536 → (allowed : Bool)
      → bad_checksum allowed (Ipv6.source (e6_packet f c)) (Ipv6.destination (e6_packet f c)) (datagram_in6 (e6_packet f c)) ≡ false
  back_checksum w of hd hl allowed = rw (back_source, back_destination, back_datagram) (e6-passes f c v w of hd hl allowed)

  -- no row applies to it there
  pub back_passed : (e : List ℕ) (path : List (List ℕ)) → AllOctets c → Octets f → Entry.direction f < 2
      → 24 + length c.inner < 65536 → Entry.direction f ≡ Entry.direction e
      → cond (eqb (Entry.direction f) downlink) 0 c.args.reflective ≡ 0
      → None (gtp6d_rows e path c.inner) → Passed e path (e6_packet f c)
  unfolding gtp6_rows message_rows g_pdu_rows
  back_passed e path w of hs hl hd quiet n =
      let k = e6_checksum f c.destination c.args c.inner in
      let g = ap datagram back_datagram ∙ datagram_back (Entry.source_port f) (Entry.direction f) k c.args c.inner v.args in
      let right = back_checksum w of hs hl (Entry.zero_allowed e) in
      record {
        front = rw back_header (omega clear);
        tunnel = rw (g, back_header, le-leb 8 (24 + length c.inner) (omega arith)) (omega clear);
        message = rw (g, right) (omega clear);
        g_pdu = rw (g, hd) (omega clear);
        last = rw (back_values quiet) n;
      }
