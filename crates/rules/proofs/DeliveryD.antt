-- D: what arrives at the policy's last SID reads back as the values that went in.
use mathlib.Core.Path.{◌≡◌, refl, sym, ap, ◌∙◌}
use mathlib.Core.List.{List, [], ◌∷◌, ◌++◌}
use Prim.Native.Nat.{ℕ, ◌-◌, ◌≤◌}
use native.Mathlib.Omega.{arith}
use lib.ListN.{length}
use Rattle.rules.specs.Assigned.{end_m_gtp6d, routing_header}
use Rattle.rules.specs.Table.{entry_at}
use Rattle.rules.specs.Entry as Entry
use Rattle.rules.specs.Policy as Policy
use Rattle.rules.specs.Ipv6 as Ipv6
use Rattle.rules.specs.Srh.{srh}
use Rattle.rules.specs.Args.{args_at}
use Rattle.rules.specs.Sound.{entry_limit}
use Rattle.rules.specs.Answer.{Sent}
use Rattle.rules.specs.Session.{inner_protocol}
use Rattle.rules.specs.Srv6.{srv6_payload}
use Rattle.rules.specs.Carried.{carried6}
use Rattle.rules.specs.Datagram.{inner_rows}
use Rattle.rules.specs.Gtp6D.{gtp6d_packet}
use Rattle.rules.specs.D.{last_with_args, d_path, d_packet, at_d}
use Rattle.rules.specs.Trip.{Stop, Trip, call}
use Rattle.rules.specs.Demand3.{policy_of, MatchingD, DeliversD}
use Rattle.rules.proofs.Windows.{window-length}
use Rattle.rules.proofs.Rows.{read}
use Rattle.rules.proofs.Reading.{Addresses, ipv6-octet, ipv6-traffic_class}
use Rattle.rules.proofs.Waypoints.{on_the_way, way_destination, way_inner}
use Rattle.rules.proofs.Entries.{at_d_lem, sent-entry}
use Rattle.rules.proofs.Sids.{with_args-length, with_args_back}
use Rattle.rules.proofs.NearGtp6D.{sent_passed, carried6_valid}
use Rattle.rules.proofs.Sessions.{carries}
use Rattle.rules.proofs.Paths.{addresses_at-addresses, way_end, arrives}
use Rattle.rules.proofs.Tables.{found-d}
use Rattle.rules.proofs.Trips.{trip-outcome}

pub d_delivers : (near : Stop) (ss : List Stop) (p : List ℕ) (i : ℕ) → MatchingD near ss p i → DeliversD near ss p (policy_of near i)
unfolding at_d d_path d_packet gtp6d_packet inner_rows
d_delivers near ss p i m =
    let e = entry_at near.table i in
    let y = policy_of near i in
    let c = carried6 p in
    let v = carried6_valid p m.octets in
    let good = found-d entry_limit near.table (Ipv6.destination p) i m.enters.sound m.enters.matches m.enters.kind in
    let k = carries (Entry.session e) c.inner good.session in
    let (front, s) = sent-entry near p (Ipv6.destination p) m.sent.0 end_m_gtp6d i m.enters refl m.sent.1 in
    let here = sym (at_d_lem near.table e p m.enters.kind) ∙ s in
    let (n, sends) = sent_passed e (d_path y c) (d_packet e y c) p m.sent.0 m.g_pdu front here in
    let sid = last_with_args y c.args in
    let ws = Policy.waypoints y in
    let tail = sid ∷ [] in
    let upper = inner_protocol (Entry.session e) c.inner in
    let hop = Entry.hop_limit e - length ss in
    let hx : length sid ≡ 16 = with_args-length (Policy.last_sid y) (Policy.start y) c.args (window-length y _ 16) good.policy.start
    v.args in
    let hw : Addresses ws = addresses_at-addresses y 16 _ in
    let fits : srv6_payload (ws ++ tail) c.inner ≤ 65535 = omega (read, n.last) in
    let hs = window-length e 32 16 in
    let w = way_end c.trafficClass upper (Entry.hop_limit e) (Entry.source e) ws tail c.inner (Entry.session e) v.octet k hs hw
    (hx, tt) (omega arith) fits hop in
    let r = srh upper (length tail - 1) (ws ++ tail) c.inner in
    let q = on_the_way c.trafficClass upper hop (Entry.source e) (ws ++ tail) tail c.inner in
    let d : Ipv6.destination q ≡ sid = way_destination c.trafficClass upper hop (Entry.source e) (ws ++ tail) tail c.inner w in
    let sent : call near p ≡ Sent (d_packet e y c) = m.sent.1 ∙ ap Sent (sym sends) in
    record {
      packet = q;
      arrives = trip-outcome near ss p (d_packet e y c) sent
          ∙ ap (λ (t : Trip). t.outcome)
          (arrives c.trafficClass upper (Entry.hop_limit e) (Entry.source e) ws tail c.inner (Entry.session e) v.octet k
          hs hw (hx, tt) (omega arith) fits ss m.hopLimit m.passes m.room);
      destination = d;
      segmentsLeft = ipv6-octet c.trafficClass (srv6_payload (ws ++ tail) c.inner) routing_header hop (Entry.source e) sid r hs hx 3;
      args = ap (λ (l : List ℕ). args_at l (Policy.start y)) d
          ∙ with_args_back (Policy.last_sid y) (Policy.start y) c.args (window-length y _ 16) good.policy.start v.args;
      trafficClass = ipv6-traffic_class c.trafficClass (srv6_payload (ws ++ tail) c.inner) routing_header hop (Entry.source e) sid r hs
          hx v.octet;
      inner = way_inner c.trafficClass upper hop (Entry.source e) (ws ++ tail) tail c.inner w;
    }
