-- Demand 3 over IPv4: D4, waypoints, E4.
use mathlib.Core.Path.{◌≡◌, refl, ap, ◌∙◌, subst}
use mathlib.Core.Bool.{cond}
use mathlib.Core.List.{List, [], ◌∷◌, ◌++◌}
use Prim.Native.Nat.{ℕ, ◌+◌, ◌-◌, ◌*◌, ◌≤◌, ◌<◌}
use native.Mathlib.Omega.{arith}
use lib.Dec.{eqb}
use lib.ListN.{length, length-append}
use Rattle.rules.specs.Octets.{Octets}
use Rattle.rules.specs.Assigned.{end_m_gtp4e, downlink}
use Rattle.rules.specs.Table.{entry_at, rule_at}
use Rattle.rules.specs.Entry as Entry
use Rattle.rules.specs.Rule as Rule
use Rattle.rules.specs.Ipv4 as Ipv4
use Rattle.rules.specs.Ipv6.{ipv6}
use Rattle.rules.specs.Sound.{entry_limit}
use Rattle.rules.specs.Answer.{Sent}
use Rattle.rules.specs.Session.{inner_protocol}
use Rattle.rules.specs.Srv6.{srv6_payload, past_waypoints, past_waypoints_payload}
use Rattle.rules.specs.Carried.{Carried, carried4}
use Rattle.rules.specs.Datagram.{inner_rows}
use Rattle.rules.specs.D4.{d4_sid, d4_source, d4_packet, d4_rows}
use Rattle.rules.specs.E4.{e4_packet, e4_total_length}
use Rattle.rules.specs.Trip.{Stop, call, trip}
use Rattle.rules.specs.Demand3.{AtEntry, AtRule, AtWaypoints, EachHasRoom, Room, Matching4, Arrives, Again, Delivers4}
use Rattle.rules.proofs.Windows.{window-length, octets-window}
use Rattle.rules.proofs.Rows.{None, read}
use Rattle.rules.proofs.Reading.{Addresses}
use Rattle.rules.proofs.Waypoints.{on_the_way}
use Rattle.rules.proofs.FarE6.{Valid}
use Rattle.rules.proofs.FarE4.{Arrived, plain-arrived, way_arrived, sid_length, source-length, e4-length, e4_sends}
use Rattle.rules.proofs.NearD4.{Passed, passed_quiet, passed_fits, carried4_valid, carried4-source, carried4-destination}
use Rattle.rules.proofs.NearD4.{call_passed, passed_call, back_destination, back_values, back_passed}
use Rattle.rules.proofs.Sessions.{Carries, carries}
use Rattle.rules.proofs.Paths.{addresses_at-addresses, way_end, arrives}
use Rattle.rules.proofs.Tables.{found-rule}
use Rattle.rules.specs.SoundRecord.{SoundRule}
use Rattle.rules.proofs.Trips.{forwards, trip-whole, trip-none}
use Rattle.rules.proofs.Fields.{e4_written}
use Rattle.rules.proofs.Again.{same-entry, same-rule, same-waypoints, same_length}

-- a packet written past waypoints arrives at its SID, with an SRH or without
record Reaches (ss : List Stop) (o : List ℕ) (class upper : ℕ) (source sid inner : List ℕ) : Type 0 where
  packet : List ℕ
  sent : trip ss o ≡ forwards ss o packet
  arrived : Arrived packet class upper source sid inner

reaches : (class upper hop session : ℕ) (source : List ℕ) (ws : List (List ℕ)) (sid inner : List ℕ) (ss : List Stop) → class < 256
    → Carries session upper
    → length source ≡ 16 → length sid ≡ 16 → Addresses ws → past_waypoints_payload ws inner ≤ 65535 → length ss < hop
    → AtWaypoints ss ws → EachHasRoom ss (length (past_waypoints class upper hop source ws sid inner))
    → Reaches ss (past_waypoints class upper hop source ws sid inner) class upper source sid inner
reaches class upper hop session source [] sid inner [] hc k hs hd hw fits hh a room = record {
  packet = ipv6 class (length inner) upper hop source sid inner;
  sent = trip-none (ipv6 class (length inner) upper hop source sid inner);
  arrived = plain-arrived class upper hop session source sid inner hc k hs hd;
}
reaches class upper hop session source [] sid inner (s ∷ ss) hc k hs hd hw fits hh a room = absurd a
reaches class upper hop session source (w ∷ ws) sid inner ss hc k hs hd hw fits hh a room =
    let held = w ∷ ws ++ sid ∷ [] in
    let n : length held ≡ length (w ∷ ws) + 1 = length-append (w ∷ ws) (sid ∷ []) in
    let fits' : srv6_payload held inner ≤ 65535 = omega arith in
    record {
      packet = on_the_way class upper (hop - length ss) source held (sid ∷ []) inner;
      sent = arrives class upper hop source (w ∷ ws) (sid ∷ []) inner session hc k hs hw (hd, tt) (omega arith) fits' ss hh a room;
      arrived = way_arrived class upper (hop - length ss) source held sid inner
          (way_end class upper hop source (w ∷ ws) (sid ∷ []) inner session hc k hs hw (hd, tt) (omega arith) fits' (hop - length ss));
    }

-- What the premises say of the stops, the values and the records that are found: near rule r, far entry f.
record Ready (near : Stop) (ss : List Stop) (far : Stop) (address : List ℕ) (c : Carried) (k j : ℕ) (r f : List ℕ) : Type 0 where
  enters : AtRule near address k
  rule : rule_at near.table k ≡ r
  passes : AtWaypoints ss (Rule.waypoints r)
  leaves : AtEntry far (d4_sid r c) end_m_gtp4e j
  exit : entry_at far.table j ≡ f
  hopLimit : length ss < Rule.hop_limit r
  direction : Entry.direction f ≡ Rule.direction r
  session : Entry.session f ≡ Rule.session r
  same_p : Entry.p f ≡ Rule.p r
  same_q : Entry.q f ≡ Rule.q r
  room : Room near ss far (length (d4_packet r c)) (length (e4_packet f c))

ready : (near : Stop) (ss : List Stop) (far : Stop) (p : List ℕ) (k j : ℕ) → Matching4 near ss far p k j
    → Ready near ss far (Ipv4.destination p) (carried4 p) k j (rule_at near.table k) (entry_at far.table j)
ready near ss far p k j m = record {
  enters = m.enters;
  rule = refl;
  passes = m.passes;
  leaves = m.leaves;
  exit = refl;
  hopLimit = m.hopLimit;
  direction = m.direction;
  session = m.session;
  same_p = m.p;
  same_q = m.q;
  room = m.room;
}

ready_again : (near : Stop) (ss : List Stop) (far : Stop) (address : List ℕ) (c : Carried) (k j : ℕ) (r f : List ℕ)
    → Ready near ss far address c k j r f
    → (near' : Stop) (ss' : List Stop) (far' : Stop) → Again near ss far near' ss' far' (length (d4_packet r c)) (length (e4_packet f c))
    → Ready near' ss' far' address c k j r f
ready_again near ss far address c k j r f h near' ss' far' a = record {
  enters = same-rule near near' a.same_near address k h.enters;
  rule = ap (λ (t : List ℕ). rule_at t k) a.same_near.table ∙ h.rule;
  passes = same-waypoints ss ss' (Rule.waypoints r) a.same_waypoints h.passes;
  leaves = same-entry far far' a.same_far (d4_sid r c) end_m_gtp4e j h.leaves;
  exit = ap (λ (t : List ℕ). entry_at t j) a.same_far.table ∙ h.exit;
  hopLimit = rw (same_length ss ss' a.same_waypoints) h.hopLimit;
  direction = h.direction;
  session = h.session;
  same_p = h.same_p;
  same_q = h.same_q;
  room = a.room;
}

module _ (near : Stop) (ss : List Stop) (far : Stop) (address : List ℕ) (c : Carried) (k j : ℕ) (r f : List ℕ)
    (h : Ready near ss far address c k j r f)
    (v : Valid 4 c) (hs : length c.source ≡ 4) (fits : e4_total_length c.inner ≤ 65535) where
  rule-sound : SoundRule r
  rule-sound = subst (λ (r : List ℕ). SoundRule r) h.rule
      (found-rule entry_limit near.table address k h.enters.sound h.enters.matches)

  -- a packet that carries the values, and that passes at the near gateway, goes all the way
  whole : (p : List ℕ) → Ipv4.destination p ≡ address → carried4 p ≡ c → Passed r p
      → Arrives near ss far p (d4_packet r c) (e4_packet f c)
  unfolding d4_packet inner_rows
  whole p hd hc n =
      let last : None (d4_rows r c.inner) = rw hc at n.last in
      let upper = inner_protocol (Rule.session r) c.inner in
      let good = carries (Rule.session r) c.inner rule-sound.session in
      let a = reaches c.trafficClass upper (Rule.hop_limit r) (Rule.session r) (d4_source r c) (Rule.waypoints r) (d4_sid r c) c.inner ss
      v.octet good
      (source-length r c v hs rule-sound.p rule-sound.q) (sid_length r c v hs rule-sound.p rule-sound.q)
      (addresses_at-addresses r 48 _) (omega (read, last)) h.hopLimit h.passes h.room.at_waypoints in
      let near-sends : call near p ≡ Sent (d4_packet r c) =
      passed_call near p address k h.enters hd r h.rule n (rw hc h.room.at_near) ∙ ap (λ (c : Carried). Sent (d4_packet r c)) hc in
      let far-sends : call far a.packet ≡ Sent (e4_packet f c) =
      e4_sends f r upper c v hs rule-sound.p rule-sound.q h.same_p h.same_q a.packet a.arrived far j h.exit h.leaves
      h.room.at_far (rw h.session good.taken) fits in
      trip-whole near ss far p (d4_packet r c) a.packet (e4_packet f c) near-sends a.sent far-sends

pub demand3_ipv4 : (near : Stop) (ss : List Stop) (far : Stop) (p : List ℕ) (k j : ℕ) → Matching4 near ss far p k j
    → Delivers4 near ss far p k j
unfolding entry_at
demand3_ipv4 near ss far p k j m =
    let r = rule_at near.table k in
    let f = entry_at far.table j in
    let c = carried4 p in
    let h = ready near ss far p k j m in
    let v = carried4_valid p m.octets in
    let hs : length c.source ≡ 4 = rw (carried4-source p) (window-length p 12 4) in
    let os : Octets c.source = rw (carried4-source p) (octets-window p 12 4 m.octets) in
    let od : Octets c.destination = rw (carried4-destination p) (octets-window p 16 4 m.octets) in
    let ttl = octets-window far.table (16 + 64 * j) 64 m.leaves.octets 2 in
    let n = call_passed near p (Ipv4.destination p) k m.enters refl m.sent.0 m.g_pdu m.sent.1 in
    let fits = passed_fits r p m.octets n in
    let quiet : cond (eqb (Entry.direction f) downlink) 0 c.args.reflective ≡ 0 = rw m.direction (passed_quiet r p n) in
    let back = back_values f c v hs os od ttl fits quiet in
    let there = back_destination f c v hs os od ttl fits ∙ carried4-destination p in
    let n' = back_passed f c v hs os od ttl fits r m.direction quiet n.last in
    record {
      arrives = whole near ss far (Ipv4.destination p) c k j r f h v hs fits p refl refl n;
      written = e4_written f c v hs os od ttl (omega (arith, fits));
      size = e4-length f c v hs;
      values = back;
      again = λ near' ss' far' a.
          let h' = ready_again near ss far (Ipv4.destination p) c k j r f h near' ss' far' a in (
            whole near' ss' far' (Ipv4.destination p) c k j r f h' v hs fits p refl refl n,
            whole near' ss' far' (Ipv4.destination p) c k j r f h' v hs fits (e4_packet f c) there back n',
          );
    }
