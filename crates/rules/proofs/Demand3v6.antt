-- Demand 3 over IPv6: Di, waypoints, E6.
use mathlib.Core.Path.{◌≡◌, refl, sym, ap, ◌∙◌, subst}
use mathlib.Core.Bool.{true, cond}
use mathlib.Core.List.{List, [], ◌∷◌, ◌++◌, append_assoc}
use Prim.Native.Nat.{ℕ, ◌+◌, ◌-◌, ◌≤◌, ◌<◌}
use native.Mathlib.Omega.{arith}
use lib.Dec.{eqb}
use lib.ListN.{length, length-append}
use Rattle.rules.specs.Assigned.{end_m_gtp6d_di, end_m_gtp6e, downlink}
use Rattle.rules.specs.Table.{entry_at, policy_at}
use Rattle.rules.specs.Entry as Entry
use Rattle.rules.specs.Policy as Policy
use Rattle.rules.specs.Ipv6 as Ipv6
use Rattle.rules.specs.Sound.{session_known, entry_limit}
use Rattle.rules.specs.Answer.{Sent, outcome}
use Rattle.rules.specs.Session.{inner_protocol}
use Rattle.rules.specs.Srv6.{srv6_payload}
use Rattle.rules.specs.Carried.{Carried, carried6}
use Rattle.rules.specs.Datagram.{inner_rows}
use Rattle.rules.specs.Gtp6D.{gtp6d_packet, gtp6d_rows, decide_gtp6d}
use Rattle.rules.specs.D.{last_with_args}
use Rattle.rules.specs.Di.{di_path, di_packet, at_di}
use Rattle.rules.specs.E6.{e6_packet}
use Rattle.rules.specs.Trip.{Stop, call, trip}
use Rattle.rules.specs.Demand3.{AtEntry, AtWaypoints, Room, policy_of, Matching6, Arrives, Again, Delivers6}
use Rattle.rules.proofs.Windows.{window-length}
use Rattle.rules.proofs.Rows.{None, read}
use Rattle.rules.proofs.Reading.{Addresses}
use Rattle.rules.proofs.Waypoints.{on_the_way}
use Rattle.rules.proofs.Entries.{at_di_lem, entry_sends, sent-entry}
use Rattle.rules.proofs.Sids.{with_args-length}
use Rattle.rules.proofs.FarE6.{Valid, e6-length, e6_sends}
use Rattle.rules.proofs.NearGtp6D.{Passed, sent_passed, passed_sent, passed_quiet, carried6_valid, carried6-source}
use Rattle.rules.proofs.NearGtp6D.{carried6-destination, back_destination, back_values, back_passed}
use Rattle.rules.proofs.E6Checksums.{carried6-octets, direction_small}
use Rattle.rules.proofs.SoundTables.{octets-entry}
use Rattle.rules.proofs.Sessions.{Carries, carries}
use Rattle.rules.proofs.Paths.{addresses_at-addresses, way_end, arrives}
use Rattle.rules.proofs.Tables.{found-di}
use Rattle.rules.specs.SoundRecord.{SoundGtp6D}
use Rattle.rules.proofs.Trips.{forwards, trip-whole}
use Rattle.rules.proofs.Fields.{e6_written}
use Rattle.rules.proofs.Again.{same-entry, same-waypoints, same_length}

-- What the premises say of the stops, the values and the records that are found: near entry e with policy y, far entry f.
record Ready (near : Stop) (ss : List Stop) (far : Stop) (address : List ℕ) (c : Carried) (i j : ℕ) (e y f : List ℕ) : Type 0 where
  enters : AtEntry near address end_m_gtp6d_di i
  entry : entry_at near.table i ≡ e
  policy : policy_of near i ≡ y
  passes : AtWaypoints ss (Policy.waypoints y)
  leaves : AtEntry far (last_with_args y c.args) end_m_gtp6e j
  exit : entry_at far.table j ≡ f
  hopLimit : length ss < Entry.hop_limit e
  direction : Entry.direction f ≡ Entry.direction e
  session : Entry.session f ≡ Entry.session e
  start : Entry.start f ≡ Policy.start y
  room : Room near ss far (length (di_packet e y c)) (length (e6_packet f c))

ready : (near : Stop) (ss : List Stop) (far : Stop) (p : List ℕ) (i j : ℕ) → Matching6 near ss far p i j
    → Ready near ss far (Ipv6.destination p) (carried6 p) i j (entry_at near.table i) (policy_of near i) (entry_at far.table j)
ready near ss far p i j m = record {
  enters = m.enters;
  entry = refl;
  policy = refl;
  passes = m.passes;
  leaves = m.leaves;
  exit = refl;
  hopLimit = m.hopLimit;
  direction = m.direction;
  session = m.session;
  start = m.start;
  room = m.room;
}

ready_again : (near : Stop) (ss : List Stop) (far : Stop) (address : List ℕ) (c : Carried) (i j : ℕ) (e y f : List ℕ)
    → Ready near ss far address c i j e y f
    → (near' : Stop) (ss' : List Stop) (far' : Stop) → Again near ss far near' ss' far' (length (di_packet e y c)) (length (e6_packet f c))
    → Ready near' ss' far' address c i j e y f
ready_again near ss far address c i j e y f r near' ss' far' a = record {
  enters = same-entry near near' a.same_near address end_m_gtp6d_di i r.enters;
  entry = ap (λ (t : List ℕ). entry_at t i) a.same_near.table ∙ r.entry;
  policy = ap (λ (t : List ℕ). policy_at t (Entry.policy (entry_at t i))) a.same_near.table ∙ r.policy;
  passes = same-waypoints ss ss' (Policy.waypoints y) a.same_waypoints r.passes;
  leaves = same-entry far far' a.same_far (last_with_args y c.args) end_m_gtp6e j r.leaves;
  exit = ap (λ (t : List ℕ). entry_at t j) a.same_far.table ∙ r.exit;
  hopLimit = rw (same_length ss ss' a.same_waypoints) r.hopLimit;
  direction = r.direction;
  session = r.session;
  start = r.start;
  room = a.room;
}

module _ (near : Stop) (ss : List Stop) (far : Stop) (address : List ℕ) (c : Carried) (i j : ℕ) (e y f : List ℕ)
    (r : Ready near ss far address c i j e y f)
    (v : Valid 16 c) (none : c.source ≡ []) where
  near_sound_lem : SoundGtp6D near.table (entry_at near.table i)
  near_sound_lem = found-di entry_limit near.table address i r.enters.sound r.enters.matches r.enters.kind

  near_carries : Carries (Entry.session e) (inner_protocol (Entry.session e) c.inner)
  near_carries = carries (Entry.session e) c.inner
      (subst (λ (e : List ℕ). session_known (Entry.session e) ≡ true) r.entry near_sound_lem.session)

  start_fits : Policy.start y ≤ 88
  start_fits = subst (λ (y : List ℕ). Policy.start y ≤ 88) r.policy near_sound_lem.policy.start

  -- the packet that comes to the far gateway, with some hop limit
  abbrev coming : (hop : ℕ) → List ℕ
  coming hop =
      on_the_way c.trafficClass (inner_protocol (Entry.session e) c.inner) hop (Entry.source e) (di_path y c)
      (last_with_args y c.args ∷ c.destination ∷ []) c.inner

  -- from the near gateway on
  onward : None (gtp6d_rows e (di_path y c) c.inner) → (hop : ℕ) → hop ≡ Entry.hop_limit e - length ss
      → (trip ss (di_packet e y c) ≡ forwards ss (di_packet e y c) (coming hop)) × (call far (coming hop) ≡ Sent (e6_packet f c))
  unfolding di_path di_packet gtp6d_packet inner_rows
  onward n hop q =
      let x = last_with_args y c.args in
      let ws = Policy.waypoints y in
      let tail = x ∷ c.destination ∷ [] in
      let upper = inner_protocol (Entry.session e) c.inner in
      let hx : length x ≡ 16 = with_args-length (Policy.last_sid y) (Policy.start y) c.args (window-length y _ 16) start_fits v.args in
      let ht : Addresses tail = (hx, (v.to, tt)) in
      let hw : Addresses ws = addresses_at-addresses y 16 _ in
      let fits : srv6_payload (ws ++ tail) c.inner ≤ 65535 = omega (read, n) in
      let hs = window-length e 32 16 in
      let w = way_end c.trafficClass upper (Entry.hop_limit e) (Entry.source e) ws tail c.inner (Entry.session e) v.octet
      near_carries hs hw ht (omega arith) fits hop in
      let g : ws ++ tail ≡ (ws ++ x ∷ []) ++ c.destination ∷ [] = sym (append_assoc ws (x ∷ []) (c.destination ∷ [])) in (
        arrives c.trafficClass upper (Entry.hop_limit e) (Entry.source e) ws tail c.inner (Entry.session e) v.octet near_carries
            hs hw ht (omega arith) fits ss r.hopLimit r.passes r.room.at_waypoints
            ∙ rw q,
        rw g
            (e6_sends f upper hop (Entry.source e) (ws ++ x ∷ []) (Policy.last_sid y) (Policy.start y) c (window-length y _ 16) r.start
            start_fits none v (rw g at w) far j r.exit r.leaves r.room.at_far
            (rw r.session near_carries.taken)),
      )

  -- a packet that carries the values, and that passes at the near gateway, goes all the way
  whole : (p : List ℕ) → Ipv6.destination p ≡ address → carried6 p ≡ c → Passed e (di_path y c) p
      → Arrives near ss far p (di_packet e y c) (e6_packet f c)
  unfolding at_di di_packet
  whole p hd hc n =
      let o = onward (rw hc at n.last) (Entry.hop_limit e - length ss) refl in
      let h : call near p ≡ Sent (di_packet e y c) =
      entry_sends near p address (di_packet e y c) end_m_gtp6d_di i r.enters hd n.front
      (at_di_lem near.table (entry_at near.table i) p r.enters.kind
      ∙ (λ k. at_di (r.entry k) (r.policy k) p)
      ∙ ap (λ (c : Carried). outcome (decide_gtp6d e (di_path y c) (di_packet e y c) p)) hc
      ∙ passed_sent e (di_path y c) (di_packet e y c) p n)
      r.room.at_near in
      trip-whole near ss far p _ _ _ h o.0 o.1

-- what Di sends is not too long for E6
payload_fits : (e y : List ℕ) (c : Carried) → None (gtp6d_rows e (di_path y c) c.inner) → 24 + length c.inner < 65536
unfolding di_path inner_rows
payload_fits e y c n =
    let l = length-append (Policy.waypoints y) (last_with_args y c.args ∷ c.destination ∷ []) in
    omega (read, n)

pub demand3_ipv6 : (near : Stop) (ss : List Stop) (far : Stop) (p : List ℕ) (i j : ℕ) → Matching6 near ss far p i j
    → Delivers6 near ss far p i j
unfolding at_di
demand3_ipv6 near ss far p i j m =
    let e = entry_at near.table i in
    let y = policy_of near i in
    let f = entry_at far.table j in
    let c = carried6 p in
    let r = ready near ss far p i j m in
    let v = carried6_valid p m.octets in
    let none = carried6-source p in
    let (front, k) = sent-entry near p (Ipv6.destination p) m.sent.0 end_m_gtp6d_di i m.enters refl m.sent.1 in
    let here = sym (at_di_lem near.table e p m.enters.kind) ∙ k in
    let (n, _) = sent_passed e (di_path y c) (di_packet e y c) p m.sent.0 m.g_pdu front here in
    let quiet : cond (eqb (Entry.direction f) downlink) 0 c.args.reflective ≡ 0 =
    rw m.direction (passed_quiet e (di_path y c) (di_packet e y c) p n) in
    let back = back_values f c v none quiet in
    let there = back_destination f c v none ∙ carried6-destination p in
    let w = carried6-octets p m.octets in
    let of = octets-entry far.table m.leaves.octets j in
    let sound = found-di entry_limit near.table (Ipv6.destination p) i m.enters.sound m.enters.matches m.enters.kind in
    let hd : Entry.direction f < 2 = rw m.direction (direction_small (Entry.direction e) sound.direction) in
    let fits = payload_fits e y c n.last in
    let n' = back_passed f c v none e (di_path y c) w of hd fits m.direction quiet n.last in
    record {
      arrives = whole near ss far (Ipv6.destination p) c i j e y f r v none p refl refl n;
      written = e6_written f c v w of hd fits;
      size = e6-length f c v;
      values = back;
      again = λ near' ss' far' a.
          let r' = ready_again near ss far (Ipv6.destination p) c i j e y f r near' ss' far' a in (
            whole near' ss' far' (Ipv6.destination p) c i j e y f r' v none p refl refl n,
            whole near' ss' far' (Ipv6.destination p) c i j e y f r' v none (e6_packet f c) there back n',
          );
    }
