-- The call at D4: what a packet that is sent on tells, and what becomes there of the packet that E4 wrote.
use mathlib.Core.Path.{◌≡◌, refl, sym, ap, ◌∙◌}
use mathlib.Core.Bool.{true, cond}
use mathlib.Core.List.{List, [], ◌++◌}
use Prim.Native.Nat.{ℕ, ◌+◌, ◌-◌, ◌*◌, ◌/◌, ◌%◌, ◌≤◌, ◌<◌}
use native.Mathlib.Omega.{arith}
use lib.Dec.{eqb}
use lib.ListN.{length, length-drop}
use borrow.Author.Tests.{le-leb, not-false, eqb-false}
use Rattle.rules.specs.Octets.{octet, Octets, window}
use Rattle.rules.specs.Assigned.{udp_protocol, downlink, g_pdu}
use Rattle.rules.specs.Table.{rule_at}
use Rattle.rules.specs.Entry as Entry
use Rattle.rules.specs.Rule as Rule
use Rattle.rules.specs.Ipv4 as Ipv4
use Rattle.rules.specs.Ipv4.{ipv4}
use Rattle.rules.specs.Gtpu as Gtpu
use Rattle.rules.specs.Gtpu.{datagram_octets}
use Rattle.rules.specs.Match.{match_rule}
use Rattle.rules.specs.Answer.{Decision, Sent, unless, outcome}
use Rattle.rules.specs.Datagram.{datagram, message_rows, g_pdu_rows, extended, bad_extensions}
use Rattle.rules.specs.Carried.{Carried, carried_by, carried4, datagram_in4}
use Rattle.rules.specs.D4.{d4_packet, gtp4_rows, d4_rows, rows_d4, decide_g_pdu4, decide_d4, at_d4}
use Rattle.rules.specs.Header4.{header4, malformed4, bad_header4}
use Rattle.rules.specs.E4.{e4_packet, e4_total_length}
use Rattle.rules.specs.Calls.{front_rows4, at_found_rule}
use Rattle.rules.specs.Trip.{Stop, call}
use Rattle.rules.specs.Demand3.{AtRule}
use Rattle.std.specs.Prelude.{Option, Some}
use Rattle.rules.proofs.Windows.{drop_past, window-length, window-past, window_front}
use Rattle.rules.proofs.Rows.{Clear, None, clear, read, none_parts, parts_none, unless-none, unless-sent, settle-sent, sent-settle}
use Rattle.rules.proofs.FarE6.{Valid}
use Rattle.rules.proofs.FarE4.{e4-length}
use Rattle.rules.proofs.Messages.{datagram_back, carried_by_back, carried_by-fits, carried_by_quiet}
use Rattle.rules.proofs.Checksums.{ipv4-sum}
use Rattle.rules.proofs.Deciding.{settled4, at_found-rule}
use Rattle.rules.proofs.Trips.{call_v4}

-- No row applied: to the IPv4 header, to the datagram, to what is to be sent.
pub record Passed (r p : List ℕ) : Type 0 where
  pub front : Clear (malformed4 (header4 p))
  pub ipv4 : Clear (bad_header4 (header4 p))
  pub tunnel : None (gtp4_rows (header4 p) (datagram (datagram_in4 p)))
  pub message : None (message_rows [] (datagram (datagram_in4 p)))
  pub g_pdu : None (g_pdu_rows (Rule.direction r) (datagram (datagram_in4 p)))
  pub last : None (d4_rows r (carried4 p).inner)

module _ (r p : List ℕ) where
  -- a G-PDU is no Echo Request
  g_pdu_decides : Gtpu.message_type (datagram_in4 p) ≡ g_pdu → decide_d4 r p ≡ decide_g_pdu4 r p
  unfolding datagram
  g_pdu_decides t = rw t

  pub g_pdu_at_d4 : Gtpu.message_type (datagram_in4 p) ≡ g_pdu → at_d4 r p ≡ outcome (decide_g_pdu4 r p)
  unfolding at_d4
  g_pdu_at_d4 t = ap (λ (d : Decision). outcome d) (g_pdu_decides t)

  sent_passed : (x : List ℕ) → Gtpu.message_type (datagram_in4 p) ≡ g_pdu → Clear (malformed4 (header4 p)) → Clear (bad_header4 (header4 p))
      → at_d4 r p ≡ Sent x → Passed r p
  unfolding rows_d4
  sent_passed x t front ipv4 h =
      let g = datagram (datagram_in4 p) in
      let (n, k) = unless-sent (rows_d4 r p) (Sent (d4_packet r (carried4 p))) x (sym (g_pdu_at_d4 t) ∙ h) in
      let last = d4_rows r (carried4 p).inner in
      let (a, (b, (c, d))) = none_parts (gtp4_rows (header4 p) g) (message_rows [] g) (g_pdu_rows (Rule.direction r) g) last n in
      record { front = front; ipv4 = ipv4; tunnel = a; message = b; g_pdu = c; last = d }

  passed_g_pdu : Passed r p → Gtpu.message_type (datagram_in4 p) ≡ g_pdu
  unfolding g_pdu_rows datagram
  passed_g_pdu n = omega (read, n.g_pdu)

  passed_sent : Passed r p → at_d4 r p ≡ Sent (d4_packet r (carried4 p))
  unfolding rows_d4
  passed_sent n =
      let g = datagram (datagram_in4 p) in
      g_pdu_at_d4 (passed_g_pdu n)
      ∙ unless-none (rows_d4 r p) (Sent (d4_packet r (carried4 p)))
      (parts_none (gtp4_rows (header4 p) g) (message_rows [] g) (g_pdu_rows (Rule.direction r) g) (d4_rows r (carried4 p).inner)
      n.tunnel n.message n.g_pdu n.last)

  -- in uplink R is 0
  pub passed_quiet : Passed r p → cond (eqb (Rule.direction r) downlink) 0 (carried4 p).args.reflective ≡ 0
  unfolding carried4 g_pdu_rows datagram
  passed_quiet n = carried_by_quiet (Ipv4.tos p) (Ipv4.source p) (Ipv4.destination p) (datagram_in4 p) (Rule.direction r)
      (omega (read, n.g_pdu))

  -- the packet that went in had room for 44 octets of headers
  pub passed_fits : Octets p → Passed r p → e4_total_length (carried4 p).inner ≤ 65535
  unfolding carried4 carried_by header4 g_pdu_rows datagram
  passed_fits o n =
      let u = datagram_in4 p in
      let x : extended (datagram u) ≡ true = not-false (extended (datagram u)) n.g_pdu.1.1.0.0 in
      let e : Clear (bad_extensions (datagram u)) = n.g_pdu.1.0 in
      let y = rw x at e in
      let f : length u ≡ length p - 20 = length-drop 20 p in
      rw (length-drop (20 + 4 * octet u 20) u) (omega (read, eqb-false, y, o 2, o 3, n.front))

-- what was read
pub carried4_valid : (p : List ℕ) → Octets p → Valid 4 (carried4 p)
unfolding carried4 carried_by
carried4_valid p o = record {
  octet = o 1;
  to = window-length p 16 4;
  args = carried_by-fits (Ipv4.tos p) (Ipv4.source p) (Ipv4.destination p) (datagram_in4 p);
}

pub carried4-source : (p : List ℕ) → (carried4 p).source ≡ Ipv4.source p
unfolding carried4 carried_by
carried4-source p = refl

pub carried4-destination : (p : List ℕ) → (carried4 p).destination ≡ Ipv4.destination p
unfolding carried4 carried_by
carried4-destination p = refl

-- THE CALL

module _ (s : Stop) (p d : List ℕ) (k : ℕ) (a : AtRule s d k) (hd : Ipv4.destination p ≡ d) where
  found_at : match_rule s.table (Ipv4.destination p) ≡ Some k
  found_at = rw hd a.matches

  pub call_passed : (x : List ℕ) → Gtpu.message_type (datagram_in4 p) ≡ g_pdu → call s p ≡ Sent x → Passed (rule_at s.table k) p
  unfolding front_rows4
  call_passed x type hc =
      let t = s.table in
      let room = length s.buffer in
      let found = at_found_rule t p (match_rule t (Ipv4.destination p)) in
      let k₁ = sent-settle room (unless (front_rows4 t (header4 p)) found) x (sym (settled4 p t room) ∙ sym (call_v4 s p a.call) ∙ hc) in
      let (n, k₂) = unless-sent (front_rows4 t (header4 p)) found x k₁ in
      sent_passed (rule_at t k) p x type n.1.0 n.1.1.0 (sym (ap (λ (f : Option ℕ). at_found_rule t p f) found_at ∙ at_found-rule t p k)
      ∙ k₂)

  pub passed_call : (r : List ℕ) → rule_at s.table k ≡ r → Passed r p → length (d4_packet r (carried4 p)) ≤ length s.buffer
      → call s p ≡ Sent (d4_packet r (carried4 p))
  unfolding front_rows4
  passed_call r hr n room =
      let t = s.table in
      let found = at_found_rule t p (match_rule t (Ipv4.destination p)) in
      call_v4 s p a.call
      ∙ settled4 p t (length s.buffer)
      ∙ settle-sent (length s.buffer) (unless (front_rows4 t (header4 p)) found) (d4_packet r (carried4 p))
      (unless-none (front_rows4 t (header4 p)) found ((rw a.sound, tt), (n.front, (n.ipv4, tt)))
      ∙ ap (λ (f : Option ℕ). at_found_rule t p f) found_at
      ∙ at_found-rule t p k
      ∙ ap (λ (r : List ℕ). at_d4 r p) hr
      ∙ passed_sent r p n)
      room

-- WHAT E4 WRITES IS READ BACK

module _ (f : List ℕ) (c : Carried) (v : Valid 4 c) (hs : length c.source ≡ 4) (os : Octets c.source) (od : Octets c.destination)
    (ttl : Entry.hop_limit f < 256) (fits : e4_total_length c.inner ≤ 65535) where
  rest : List ℕ
  rest = datagram_octets (Entry.source_port f) (Entry.direction f) 0 c.args c.inner

  back_header : header4 (e4_packet f c) ≡ record {
    size = 44 + length c.inner;
    version = 4;
    headerLength = 5;
    totalLength = 44 + length c.inner;
    moreFragments = 0;
    fragmentOffset = 0;
    protocol = udp_protocol;
    headerSum = 0xffff;
  }
  unfolding header4 e4_packet rest
  back_header =
      let t : (44 + length c.inner) / 256 * 256 + (44 + length c.inner) % 256 ≡ 44 + length c.inner = omega arith in
      λ k. record {
        size = e4-length f c v hs k;
        version = 4;
        headerLength = 5;
        totalLength = t k;
        moreFragments = 0;
        fragmentOffset = 0;
        protocol = udp_protocol;
        headerSum = ipv4-sum c.trafficClass (e4_total_length c.inner) (Entry.hop_limit f) c.source c.destination rest v.octet
            (omega arith) ttl hs v.to os od k;
      }

  pub back_datagram : datagram_in4 (e4_packet f c) ≡ datagram_octets (Entry.source_port f) (Entry.direction f) 0 c.args c.inner
  unfolding e4_packet
  back_datagram = drop_past c.source (c.destination ++ _) 4 4 hs ∙ drop_past c.destination _ 4 0 v.to

  pub back_source : Ipv4.source (e4_packet f c) ≡ c.source
  unfolding e4_packet window
  back_source = window_front c.source (c.destination ++ _) 4 hs

  pub back_destination : Ipv4.destination (e4_packet f c) ≡ c.destination
  unfolding e4_packet window
  back_destination = window-past c.source (c.destination ++ _) 4 0 4 hs ∙ window_front c.destination _ 4 v.to

  back_tos : Ipv4.tos (e4_packet f c) ≡ c.trafficClass
  unfolding e4_packet
  back_tos = refl

  pub back_values : cond (eqb (Entry.direction f) downlink) 0 c.args.reflective ≡ 0 → carried4 (e4_packet f c) ≡ c
  unfolding carried4
  back_values quiet =
      (λ k. carried_by (back_tos k) (back_source k) (back_destination k) (back_datagram k))
      ∙ carried_by_back (Entry.source_port f) (Entry.direction f) 0 c v.args quiet

  -- no row applies to it at D4
  pub back_passed : (r : List ℕ) → Entry.direction f ≡ Rule.direction r
      → cond (eqb (Entry.direction f) downlink) 0 c.args.reflective ≡ 0
      → None (d4_rows r c.inner) → Passed r (e4_packet f c)
  unfolding gtp4_rows message_rows g_pdu_rows
  back_passed r hd quiet n =
      let g = ap datagram back_datagram ∙ datagram_back (Entry.source_port f) (Entry.direction f) 0 c.args c.inner v.args in
      record {
        front = rw back_header (omega clear);
        ipv4 = rw back_header (omega clear);
        tunnel = rw (g, back_header, le-leb 8 (24 + length c.inner) (omega arith)) (omega clear);
        message = rw g (omega clear);
        g_pdu = rw (g, hd) (omega clear);
        last = rw (back_values quiet) n;
      }
