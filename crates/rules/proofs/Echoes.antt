-- Echo: which messages are taken, the fields of a reply, and that a reply is neither a G-PDU nor an Echo Request.
use mathlib.Core.Path.{◌≡◌, refl, sym, ap, ◌∙◌}
use mathlib.Core.Logic.{inl, inr}
use mathlib.Core.List.{List, []}
use Prim.Native.Nat.{ℕ, ◌<◌}
use native.Mathlib.Omega.{arith}
use native.Mathlib.Decide.{ℕ_discrete}
use lib.ListN.{length, length-append}
use borrow.Author.Tests.{ne_eqb}
use Rattle.rules.specs.Octets.{Octets, window}
use Rattle.rules.specs.Assigned.{udp_protocol, gtpu_port, echo_request}
use Rattle.rules.specs.Entry as Entry
use Rattle.rules.specs.Rule as Rule
use Rattle.rules.specs.Ipv6 as Ipv6
use Rattle.rules.specs.Ipv4 as Ipv4
use Rattle.rules.specs.Gtpu as Gtpu
use Rattle.rules.specs.Gtpu.{echo_message}
use Rattle.rules.specs.Answer.{verdict, Decision, Sent, outcome}
use Rattle.rules.specs.Header.{header}
use Rattle.rules.specs.Datagram.{datagram, message_rows, g_pdu_rows}
use Rattle.rules.specs.Carried.{carried6, carried4, datagram_in6, datagram_in4}
use Rattle.rules.specs.Echo.{echo_answer, echo_checksum, echo_reply6, echo_reply4}
use Rattle.rules.specs.Gtp6D.{gtp6_rows, checksum_rows, gtp6d_rows, rows_gtp6d, rows_echo6, decide_g_pdu6, decide_echo6, decide_gtp6d}
use Rattle.rules.specs.D4.{gtp4_rows, d4_rows, d4_packet, rows_d4, rows_echo4, decide_g_pdu4, decide_echo4, decide_d4}
use Rattle.rules.specs.Written.{TrueChecksum, EchoFields, WrittenEcho6, WrittenEcho4}
use Rattle.rules.specs.Sent.{Taken}
use Rattle.std.specs.Prelude.{Ok}
use Rattle.rules.proofs.Windows.{window-length, octets-window, octets-drop}
use Rattle.rules.proofs.Checksums.{octets-each}
use Rattle.rules.proofs.UdpChecksums.{sent_true}
use Rattle.rules.proofs.Rows.{read, clear, none_parts, none_pass, unless-sent}
use Rattle.rules.proofs.Reading.{ipv6-drop, ipv6-source, ipv6-destination}
use Rattle.rules.proofs.Fields.{ipv6_fields, ipv4-drop, ipv4_fields}

-- WHICH DECISION IS MADE

module _ (e : List ℕ) (path : List (List ℕ)) (made p : List ℕ) where
  pub echo_decides6 : Gtpu.message_type (datagram_in6 p) ≡ echo_request → decide_gtp6d e path made p ≡ decide_echo6 e p
  unfolding datagram
  echo_decides6 t = rw t

  pub other_decides6 : (Gtpu.message_type (datagram_in6 p) ≡ echo_request → ⊥) → decide_gtp6d e path made p ≡ decide_g_pdu6 e path made p
  unfolding datagram
  other_decides6 n = rw (ne_eqb (Gtpu.message_type (datagram_in6 p)) echo_request n)

  -- what D or Di sends was a G-PDU or an Echo Request
  pub taken6 : (x : List ℕ) → outcome (decide_gtp6d e path made p) ≡ Sent x → Taken (datagram_in6 p)
  unfolding rows_gtp6d g_pdu_rows datagram
  taken6 x h = go (ℕ_discrete (Gtpu.message_type (datagram_in6 p)) echo_request)
    where
      go : Dec (Gtpu.message_type (datagram_in6 p) ≡ echo_request) → Taken (datagram_in6 p)
      go (yes t) = inr t
      go (no n) =
          let g = datagram (datagram_in6 p) in
          let o = sym (ap (λ (d : Decision). outcome d) (other_decides6 n)) ∙ h in
          let last = gtp6d_rows e path (carried6 p).inner in
          let parts = none_parts (gtp6_rows (header p) g) (message_rows (checksum_rows e p) g) (g_pdu_rows (Entry.direction e) g) last
          (unless-sent (rows_gtp6d e path p) (Sent made) x o).0 in
          inl (omega (read, parts.1.1.0.0))

  pub echo_sent6 : (x : List ℕ) → Gtpu.message_type (datagram_in6 p) ≡ echo_request → outcome (decide_gtp6d e path made p) ≡ Sent x
      → echo_reply6 e p ≡ x
  echo_sent6 x t h =
      let o = sym (ap (λ (d : Decision). outcome d) (echo_decides6 t)) ∙ h in
      let k = (unless-sent (rows_echo6 e p) (Sent (echo_reply6 e p)) x o).1 in
      cc

module _ (r p : List ℕ) where
  pub echo_decides4 : Gtpu.message_type (datagram_in4 p) ≡ echo_request → decide_d4 r p ≡ decide_echo4 r p
  unfolding datagram
  echo_decides4 t = rw t

  pub other_decides4 : (Gtpu.message_type (datagram_in4 p) ≡ echo_request → ⊥) → decide_d4 r p ≡ decide_g_pdu4 r p
  unfolding datagram
  other_decides4 n = rw (ne_eqb (Gtpu.message_type (datagram_in4 p)) echo_request n)

  pub taken4 : (x : List ℕ) → outcome (decide_d4 r p) ≡ Sent x → Taken (datagram_in4 p)
  unfolding rows_d4 g_pdu_rows datagram
  taken4 x h = go (ℕ_discrete (Gtpu.message_type (datagram_in4 p)) echo_request)
    where
      go : Dec (Gtpu.message_type (datagram_in4 p) ≡ echo_request) → Taken (datagram_in4 p)
      go (yes t) = inr t
      go (no n) =
          let g = datagram (datagram_in4 p) in
          let o = sym (ap (λ (d : Decision). outcome d) (other_decides4 n)) ∙ h in
          let last = d4_rows r (carried4 p).inner in
          let parts = none_parts (gtp4_rows _ g) (message_rows [] g) (g_pdu_rows (Rule.direction r) g) last
          (unless-sent (rows_d4 r p) (Sent (d4_packet r (carried4 p))) x o).0 in
          inl (omega (read, parts.1.1.0.0))

  pub echo_sent4 : (x : List ℕ) → Gtpu.message_type (datagram_in4 p) ≡ echo_request → outcome (decide_d4 r p) ≡ Sent x → echo_reply4 r p ≡ x
  echo_sent4 x t h =
      let o = sym (ap (λ (d : Decision). outcome d) (echo_decides4 t)) ∙ h in
      let k = (unless-sent (rows_echo4 p) (Sent (echo_reply4 r p)) x o).1 in
      cc

-- THE FIELDS OF A REPLY

echo_fields : (k : ℕ) (u : List ℕ) → EchoFields (echo_answer k u) u
unfolding window
echo_fields k u = record {
  source_port = refl;
  destinationPort = omega arith;
  udp_length = refl;
  size = refl;
  version = refl;
  protocol_type = refl;
  spare_bit = refl;
  extension_flag = refl;
  sequence_flag = refl;
  n_pdu_flag = refl;
  messageType = refl;
  messageLength = refl;
  teid = refl;
  sequence_number = omega arith;
  n_pdu_number = refl;
  extensionType = refl;
  elements = refl;
}

-- its checksum over IPv6
echo_true : (p : List ℕ) → Octets p → let u = datagram_in6 p in
    TrueChecksum (Ipv6.destination p) (Ipv6.source p) (echo_answer (echo_checksum (Ipv6.destination p) (Ipv6.source p) u) u)
unfolding echo_checksum
echo_true p o =
    let u = datagram_in6 p in
    let ou = octets-drop p (header p).upperAt o in
    let message = echo_message (Gtpu.sequence_number u) in
    sent_true (Ipv6.destination p) (Ipv6.source p) gtpu_port (Gtpu.source_port u) 22 message (window-length p 24 16) (window-length p 8 16)
    (octets-window p 24 16 o) (octets-window p 8 16 o) (omega arith) (omega (arith, ou 0, ou 1)) (omega arith)
    (octets-each message (omega (arith, ou 16, ou 17))) (omega arith)

pub echo6_written : (e p : List ℕ) → Octets p → WrittenEcho6 e p (datagram_in6 p) (echo_reply6 e p)
unfolding echo_reply6
echo6_written e p o =
    let class = Ipv6.traffic_class p in
    let hop = Entry.hop_limit e in
    let s = Ipv6.destination p in
    let d = Ipv6.source p in
    let k = echo_checksum s d (datagram_in6 p) in
    let u = echo_answer k (datagram_in6 p) in
    let hs = window-length p 24 16 in
    let hd = window-length p 8 16 in
    let behind = ipv6-drop class 22 udp_protocol hop s d u hs hd 0 in
    let from = ipv6-source class 22 udp_protocol hop s d u hs hd in
    let to = ipv6-destination class 22 udp_protocol hop s d u hs hd in
    record {
      ipv6 = ipv6_fields class 22 udp_protocol hop s d u hs hd (omega (arith, o 1)) refl;
      nextHeader = refl;
      source = from;
      destination = to;
      echo = rw behind (echo_fields k (datagram_in6 p));
      checksum = rw (from, to, behind) (echo_true p o);
    }

pub echo4_written : (r p : List ℕ) → Octets p → Rule.hop_limit r < 256 → WrittenEcho4 r p (datagram_in4 p) (echo_reply4 r p)
unfolding echo_reply4
echo4_written r p o hh =
    let tos = Ipv4.tos p in
    let hop = Rule.hop_limit r in
    let s = Ipv4.destination p in
    let d = Ipv4.source p in
    let u = echo_answer 0 (datagram_in4 p) in
    let hs = window-length p 16 4 in
    let hd = window-length p 12 4 in
    record {
      ipv4 = ipv4_fields tos 42 hop s d u hs hd (o 1) (omega arith) hh (octets-window p 16 4 o) (octets-window p 12 4 o) refl;
      echo = rw (ipv4-drop tos 42 hop s d u hs hd) (echo_fields 0 (datagram_in4 p));
      checksum = rw (ipv4-drop tos 42 hop s d u hs hd) refl;
    }

pub reply6-size : (e p : List ℕ) → length (echo_reply6 e p) ≡ 62
unfolding echo_reply6
reply6-size e p = simp length-append (omega (arith, window-length p 24 16, window-length p 8 16))

pub reply4-size : (r p : List ℕ) → length (echo_reply4 r p) ≡ 42
unfolding echo_reply4
reply4-size r p = simp length-append (omega (arith, window-length p 16 4, window-length p 12 4))

-- WHAT A REPLY IS TO WHOEVER GETS IT

-- a well-formed message: rows 9 and 10 pass
pub reply_parses : (k : ℕ) (u : List ℕ) → verdict (message_rows [] (datagram (echo_answer k u))) ≡ Ok tt
unfolding message_rows datagram
reply_parses k u = none_pass (message_rows [] (datagram (echo_answer k u))) (omega clear)

-- Nobody takes a reply for a G-PDU or an Echo Request: no D or Di sends anything for it, whatever the entry and the path, and no D4. So two
-- gateways do not answer each other's replies.
no_reply : (u : List ℕ) → Gtpu.message_type u ≡ 2 → Taken u → ⊥
no_reply u t (inl g) = omega (arith, t, g)
no_reply u t (inr g) = omega (arith, t, g)

pub reply_ends6 : (e p e' : List ℕ) (path : List (List ℕ)) (made x : List ℕ) → Octets p
    → outcome (decide_gtp6d e' path made (echo_reply6 e p)) ≡ Sent x → ⊥
unfolding header echo_reply6
reply_ends6 e p e' path made x o h =
    let q = echo_reply6 e p in
    no_reply (datagram_in6 q) (echo6_written e p o).echo.messageType (taken6 e' path made q x h)

pub reply_ends4 : (r p r' x : List ℕ) → Octets p → Rule.hop_limit r < 256 → outcome (decide_d4 r' (echo_reply4 r p)) ≡ Sent x → ⊥
reply_ends4 r p r' x o hh h =
    let q = echo_reply4 r p in
    no_reply (datagram_in4 q) (echo4_written r p o hh).echo.messageType (taken4 r' q x h)
