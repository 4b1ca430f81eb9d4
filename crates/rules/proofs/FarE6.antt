-- The call at E6: it reads the values that Di wrote, and sends the packet made from them.
use mathlib.Core.Path.{◌≡◌, sym, ap, ◌∙◌}
use mathlib.Core.Bool.{true}
use mathlib.Core.List.{List, [], ◌∷◌, ◌++◌}
use Prim.Native.Nat.{ℕ, ◌+◌, ◌-◌, ◌≤◌, ◌<◌}
use native.Mathlib.Omega.{arith}
use lib.ListN.{length, length-append}
use Rattle.rules.specs.Assigned.{udp_protocol, routing_header, end_m_gtp6e}
use Rattle.rules.specs.Table.{entry_at}
use Rattle.rules.specs.Entry as Entry
use Rattle.rules.specs.Srh.{segment, srh}
use Rattle.rules.specs.Srv6.{srv6_payload}
use Rattle.rules.specs.Args.{Args, args_at, with_args}
use Rattle.rules.specs.Gtpu.{datagram_octets}
use Rattle.rules.specs.Answer.{Sent, length_row}
use Rattle.rules.specs.Header.{header}
use Rattle.rules.specs.Session.{accepts}
use Rattle.rules.specs.Carried.{Carried}
use Rattle.rules.specs.E6.{e6_carried, e6_payload, e6_datagram, e6_checksum, e6_packet, e6_rows, rows_e6, at_e6}
use Rattle.rules.specs.Trip.{Stop, call}
use Rattle.rules.specs.Demand3.{AtEntry, HasRoom}
use Rattle.rules.proofs.Windows.{window-length, window-drop}
use Rattle.rules.proofs.Rows.{None, clear, none-append, unless-none}
use Rattle.rules.proofs.Reading.{ipv6-length, ipv6-segment, ipv6-traffic_class}
use Rattle.rules.proofs.Waypoints.{on_the_way, Way, way_header, way_destination, way_wellformed, way_inner, segment-behind}
use Rattle.rules.proofs.Entries.{at_e6_lem, entry_sends}
use Rattle.rules.proofs.Sids.{Fits, with_args-length, with_args_back}

-- what holds of values that were read, where an address has n octets
pub record Valid (n : ℕ) (c : Carried) : Type 0 where
  pub octet : c.trafficClass < 256
  pub to : length c.destination ≡ n
  pub args : Fits c.args

pub datagram-length : (port direction checksum : ℕ) (x : Args) (inner : List ℕ) → Fits x
    → length (datagram_octets port direction checksum x inner) ≡ 24 + length inner
datagram-length port direction checksum x inner f = simp length-append (omega (arith, f.tunnel))

pub e6-length : (e : List ℕ) (c : Carried) → Valid 16 c → length (e6_packet e c) ≡ 64 + length c.inner
unfolding e6_packet
e6-length e c v =
    let k = e6_checksum e c.destination c.args c.inner in
    ipv6-length c.trafficClass (e6_payload c.inner) udp_protocol (Entry.hop_limit e) (Entry.source e) c.destination
    (e6_datagram e k c.args c.inner) (window-length e 32 16) v.to
    ∙ rw (datagram-length (Entry.source_port e) (Entry.direction e) k c.args c.inner v.args) (omega arith)

module _ (e : List ℕ) (upper hop : ℕ) (source : List ℕ) (pre : List (List ℕ)) (sid : List ℕ) (start : ℕ) (c : Carried)
    (hs : length sid ≡ 16) (he : Entry.start e ≡ start) (hb : start ≤ 88) (none : c.source ≡ []) (v : Valid 16 c)
    (w : Way c.trafficClass upper hop source (pre ++ c.destination ∷ []) (with_args sid start c.args ∷ c.destination ∷ [])
    c.inner) where
  pub e6_reads : e6_carried e (on_the_way c.trafficClass upper hop source (pre ++ c.destination ∷ [])
      (with_args sid start c.args ∷ c.destination ∷ []) c.inner) ≡ c
  unfolding e6_carried
  e6_reads =
      let held = pre ++ c.destination ∷ [] in
      let x = with_args sid start c.args in
      let path = x ∷ c.destination ∷ [] in
      let p = on_the_way c.trafficClass upper hop source held path c.inner in
      let r = srh upper (length path - 1) held c.inner in
      let n = srv6_payload held c.inner in
      let hx = with_args-length sid start c.args hs hb v.args in
      let g : segment p 0 ≡ c.destination =
      ipv6-segment c.trafficClass n routing_header hop source x r w.from hx 0
      ∙ sym (window-drop r 8 0 16) ∙ segment-behind pre c.destination [] c.inner v.to tt in
      λ k. record {
        trafficClass = ipv6-traffic_class c.trafficClass n routing_header hop source x r w.from hx v.octet k;
        source = sym none k;
        destination = g k;
        args =
            (ap (λ (l : List ℕ). args_at l (Entry.start e)) (way_destination c.trafficClass upper hop source held path c.inner w)
            ∙ ap (λ (n : ℕ). args_at x n) he ∙ with_args_back sid start c.args hs hb v.args) k;
        inner = way_inner c.trafficClass upper hop source held path c.inner w k;
      }

  pub e6_sends : (s : Stop) (j : ℕ) → entry_at s.table j ≡ e → AtEntry s (with_args sid start c.args) end_m_gtp6e j
      → HasRoom s (length (e6_packet e c)) → accepts (Entry.session e) upper ≡ true
      → call s (on_the_way c.trafficClass upper hop source (pre ++ c.destination ∷ [])
      (with_args sid start c.args ∷ c.destination ∷ []) c.inner) ≡ Sent (e6_packet e c)
  unfolding at_e6 rows_e6 e6_rows
  e6_sends s j hj a room ha =
      let held = pre ++ c.destination ∷ [] in
      let x = with_args sid start c.args in
      let path = x ∷ c.destination ∷ [] in
      let p = on_the_way c.trafficClass upper hop source held path c.inner in
      let h : 1 ≤ length held = rw (length-append pre (c.destination ∷ [])) (omega arith) in
      let n : None (e6_rows e (header p)) = rw (way_header c.trafficClass upper hop source held path c.inner w, ha)
      (omega (clear, w.not0, w.not43)) in
      let last = length_row (e6_payload (e6_carried e p).inner) ∷ [] in
      let m : None last = rw e6_reads (omega (clear, w.fits)) in
      entry_sends s p x (e6_packet e c) end_m_gtp6e j a (way_destination c.trafficClass upper hop source held path c.inner w)
      (way_wellformed c.trafficClass upper hop source held path c.inner w)
      (at_e6_lem s.table (entry_at s.table j) p a.kind
      ∙ ap (λ (e : List ℕ). at_e6 e p) hj
      ∙ unless-none (rows_e6 e p) (Sent (e6_packet e (e6_carried e p))) (none-append (e6_rows e (header p)) last n m)
      ∙ ap (λ (c : Carried). Sent (e6_packet e c)) e6_reads)
      room
