-- The call at E4: it reads the values that D4 wrote, with an SRH or without, and sends the packet made from them.
use mathlib.Core.Path.{◌≡◌, sym, ap, ◌∙◌}
use mathlib.Core.Bool.{true, false}
use mathlib.Core.List.{List, [], ◌∷◌, ◌++◌}
use Prim.Native.Nat.{ℕ, ◌+◌, ◌-◌, ◌≤◌, ◌<◌}
use native.Mathlib.Nat.{add-zero}
use native.Mathlib.Omega.{arith}
use lib.Dec.{eqb}
use lib.ListN.{length, take, drop, replicate, length-append, length-replicate}
use lib.Seq.{length-take-le}
use borrow.Author.Tests.{ne_eqb}
use Rattle.rules.specs.Octets.{window}
use Rattle.rules.specs.Assigned.{routing_header, end_m_gtp4e}
use Rattle.rules.specs.Table.{entry_at}
use Rattle.rules.specs.Entry as Entry
use Rattle.rules.specs.Rule as Rule
use Rattle.rules.specs.Ipv6 as Ipv6
use Rattle.rules.specs.Ipv6.{ipv6}
use Rattle.rules.specs.Srh.{srh}
use Rattle.rules.specs.Srv6.{srv6_payload}
use Rattle.rules.specs.Args.{args_at}
use Rattle.rules.specs.Answer.{Sent, length_row}
use Rattle.rules.specs.Header.{header, malformed, bad_chain, segments_remain}
use Rattle.rules.specs.Session.{accepts}
use Rattle.rules.specs.Carried.{Carried}
use Rattle.rules.specs.E4.{start_behind, e4_carried, e4_total_length, e4_packet, e4_rows, rows_e4, at_e4}
use Rattle.rules.specs.D4.{address_behind, d4_sid, d4_source}
use Rattle.rules.specs.Trip.{Stop, call}
use Rattle.rules.specs.Demand3.{AtEntry, HasRoom}
use Rattle.rules.proofs.Windows.{window-length, window-past, window_front}
use Rattle.rules.proofs.Rows.{Clear, None, clear, none-append, unless-none}
use Rattle.rules.proofs.Reading.{ipv6-drop, ipv6-header, ipv6-source, ipv6-destination, ipv6-traffic_class}
use Rattle.rules.proofs.Waypoints.{on_the_way, Way, way_header, way_destination, way_wellformed, way_inner}
use Rattle.rules.proofs.Entries.{at_e4_lem, entry_sends}
use Rattle.rules.proofs.Sids.{with_args-length, with_args_back, with_args_before}
use Rattle.rules.proofs.FarE6.{Valid}
use Rattle.rules.proofs.Sessions.{Carries}

-- What E4 sees of a packet.
pub record Arrived (p : List ℕ) (class upper : ℕ) (source sid inner : List ℕ) : Type 0 where
  pub front : Clear (malformed (header p))
  pub chain : Clear (bad_chain (header p))
  pub left : Clear (segments_remain (header p))
  pub protocol : (header p).upper ≡ upper
  pub to : Ipv6.destination p ≡ sid
  pub from : Ipv6.source p ≡ source
  pub trafficClass : Ipv6.traffic_class p ≡ class
  pub rest : drop (header p).upperAt p ≡ inner

-- with no SRH
pub plain-arrived : (class upper hop session : ℕ) (source sid inner : List ℕ) → class < 256 → Carries session upper → length source ≡ 16
    → length sid ≡ 16
    → Arrived (ipv6 class (length inner) upper hop source sid inner) class upper source sid inner
plain-arrived class upper hop session source sid inner hc k hs hd =
    let h = ipv6-header class (length inner) upper hop source sid inner hs hd hc in
    let b : eqb upper routing_header ≡ false = ne_eqb upper routing_header k.not43 in
    record {
      front = rw h (omega clear);
      chain = rw (h, b) (omega (clear, k.not0, k.not44, k.not60));
      left = rw (h, b) tt;
      protocol = rw (h, b);
      to = ipv6-destination class (length inner) upper hop source sid inner hs hd;
      from = ipv6-source class (length inner) upper hop source sid inner hs hd;
      trafficClass = ipv6-traffic_class class (length inner) upper hop source sid inner hs hd hc;
      rest = rw (h, b) (ipv6-drop class (length inner) upper hop source sid inner hs hd 0);
    }

-- with an SRH, at its last segment
pub way_arrived : (class upper hop : ℕ) (source : List ℕ) (held : List (List ℕ)) (sid inner : List ℕ)
    → Way class upper hop source held (sid ∷ []) inner
    → Arrived (on_the_way class upper hop source held (sid ∷ []) inner) class upper source sid inner
way_arrived class upper hop source held sid inner w =
    let h = way_header class upper hop source held (sid ∷ []) inner w in
    let n = srv6_payload held inner in
    let s = srh upper (length (sid ∷ []) - 1) held inner in
    record {
      front = way_wellformed class upper hop source held (sid ∷ []) inner w;
      chain = rw h (omega (clear, w.not0));
      left = rw h (omega clear);
      protocol = rw h;
      to = way_destination class upper hop source held (sid ∷ []) inner w;
      from = ipv6-source class n routing_header hop source sid s w.from w.to.0;
      trafficClass = ipv6-traffic_class class n routing_header hop source sid s w.from w.to.0 w.octet;
      rest = way_inner class upper hop source held (sid ∷ []) inner w;
    }

-- an IPv4 address behind n octets of a prefix
module _ (prefix : List ℕ) (n : ℕ) (address : List ℕ) (hp : length prefix ≡ 16) (hn : n ≤ 12) (ha : length address ≡ 4) where
  front_length : length (take n prefix) ≡ n
  front_length = length-take-le n prefix (omega arith)

  pub behind-length : length (address_behind prefix n address) ≡ 16
  behind-length = simp (length-append, front_length, length-replicate) (omega arith)

  pub behind_back : window (address_behind prefix n address) n 4 ≡ address
  behind_back =
      let zeros : List ℕ = replicate (12 - n) 0 in
      ap (λ (k : ℕ). window (take n prefix ++ (address ++ zeros)) k 4) (sym (add-zero n))
      ∙ window-past (take n prefix) (address ++ zeros) n 0 4 front_length
      ∙ window_front address zeros 4 ha

-- the SID and the source that a rule builds, read back
module _ (r : List ℕ) (c : Carried) (v : Valid 4 c) (hs : length c.source ≡ 4) (hp : Rule.p r ≤ 7) (hq : Rule.q r ≤ 12) where
  base-length : length (address_behind (Rule.sid_prefix r) (Rule.p r) c.destination) ≡ 16
  base-length = behind-length (Rule.sid_prefix r) (Rule.p r) c.destination (window-length r 16 16) (omega arith) v.to

  pub sid_length : length (d4_sid r c) ≡ 16
  unfolding d4_sid
  sid_length = with_args-length _ (start_behind (Rule.p r)) c.args base-length (omega arith) v.args

  pub source-length : length (d4_source r c) ≡ 16
  unfolding d4_source
  source-length = behind-length (Rule.source_prefix r) (Rule.q r) c.source (window-length r 32 16) hq hs

  pub sid_address : window (d4_sid r c) (Rule.p r) 4 ≡ c.destination
  unfolding d4_sid
  sid_address =
      with_args_before (address_behind (Rule.sid_prefix r) (Rule.p r) c.destination) (start_behind (Rule.p r)) c.args base-length
      (omega arith) v.args (Rule.p r) 4 (omega arith)
      ∙ behind_back (Rule.sid_prefix r) (Rule.p r) c.destination (window-length r 16 16) (omega arith) v.to

  pub sid_args : args_at (d4_sid r c) (start_behind (Rule.p r)) ≡ c.args
  unfolding d4_sid
  sid_args = with_args_back _ (start_behind (Rule.p r)) c.args base-length (omega arith) v.args

  pub source-address : window (d4_source r c) (Rule.q r) 4 ≡ c.source
  unfolding d4_source
  source-address = behind_back (Rule.source_prefix r) (Rule.q r) c.source (window-length r 32 16) hq hs

pub e4-length : (e : List ℕ) (c : Carried) → Valid 4 c → length c.source ≡ 4 → length (e4_packet e c) ≡ 44 + length c.inner
unfolding e4_packet
e4-length e c v hs = simp length-append (omega (arith, v.to, v.args.tunnel))

module _ (e r : List ℕ) (upper : ℕ) (c : Carried) (v : Valid 4 c) (hs : length c.source ≡ 4) (hp : Rule.p r ≤ 7) (hq : Rule.q r ≤ 12)
    (same_p : Entry.p e ≡ Rule.p r) (same_q : Entry.q e ≡ Rule.q r)
    (p : List ℕ) (a : Arrived p c.trafficClass upper (d4_source r c) (d4_sid r c) c.inner) where
  pub e4_reads : e4_carried e p ≡ c
  unfolding e4_carried
  e4_reads = λ k. record {
    trafficClass = a.trafficClass k;
    source = ((λ i. window (a.from i) (same_q i) 4) ∙ source-address r c v hs hp hq) k;
    destination = ((λ i. window (a.to i) (same_p i) 4) ∙ sid_address r c v hs hp hq) k;
    args = ((λ i. args_at (a.to i) (start_behind (same_p i))) ∙ sid_args r c v hs hp hq) k;
    inner = a.rest k;
  }

  pub e4_sends : (s : Stop) (j : ℕ) → entry_at s.table j ≡ e → AtEntry s (d4_sid r c) end_m_gtp4e j → HasRoom s (length (e4_packet e c))
      → accepts (Entry.session e) upper ≡ true → e4_total_length c.inner ≤ 65535 → call s p ≡ Sent (e4_packet e c)
  unfolding at_e4 rows_e4 e4_rows
  e4_sends s j hj at room ha hf =
      let n : None (e4_rows e (header p)) = (a.chain, (a.left, ((rw (a.protocol, ha), tt), tt))) in
      let last = length_row (e4_total_length (e4_carried e p).inner) ∷ [] in
      let m : None last = rw e4_reads (omega clear) in
      entry_sends s p (d4_sid r c) (e4_packet e c) end_m_gtp4e j at a.to a.front
      (at_e4_lem s.table (entry_at s.table j) p at.kind
      ∙ ap (λ (e : List ℕ). at_e4 e p) hj
      ∙ unless-none (rows_e4 e p) (Sent (e4_packet e (e4_carried e p))) (none-append (e4_rows e (header p)) last n m)
      ∙ ap (λ (c : Carried). Sent (e4_packet e c)) e4_reads)
      room
