-- Compatible tables meet the premises of demand 3, for every packet that the near gateway sends on.
use mathlib.Core.Path.{◌≡◌, refl, sym, ap, ◌∙◌}
use mathlib.Core.Logic.{◌≢◌}
use mathlib.Core.List.{List, [], ◌∷◌}
use Prim.Native.Nat.{ℕ, suc}
use lib.ListN.{length}
use borrow.Author.Tests.{ne_eqb}
use Rattle.rules.specs.Octets.{Octets}
use Rattle.rules.specs.Assigned.{end_m_gtp6d_di, g_pdu, downlink}
use Rattle.rules.specs.Table.{entry_at, rule_at}
use Rattle.rules.specs.Entry as Entry
use Rattle.rules.specs.Rule as Rule
use Rattle.rules.specs.Policy as Policy
use Rattle.rules.specs.Ipv6 as Ipv6
use Rattle.rules.specs.Ipv4 as Ipv4
use Rattle.rules.specs.Gtpu as Gtpu
use Rattle.rules.specs.Match.{match_entry, match_rule}
use Rattle.rules.specs.Answer.{Sent}
use Rattle.rules.specs.Header.{header}
use Rattle.rules.specs.Datagram.{datagram, g_pdu_rows}
use Rattle.rules.specs.Carried.{carried_by, carried6, carried4, datagram_in6, datagram_in4}
use Rattle.rules.specs.Di.{di_path, di_packet, at_di}
use Rattle.rules.specs.E6.{e6_packet}
use Rattle.rules.specs.D4.{d4_packet, d4_sid}
use Rattle.rules.specs.E4.{e4_packet}
use Rattle.rules.specs.Trip.{v4, v6, Stop, call}
use Rattle.rules.specs.Demand3.{AtEntry, AtRule, AtWaypoints, Room, policy_of, Matching6, Matching4}
use Rattle.std.specs.Prelude.{Some}
use Rattle.rules.proofs.Windows.{window-length, octets-window, octets-drop}
use Rattle.rules.proofs.Rows.{None, read}
use Rattle.rules.proofs.Entries.{at_di_lem, sent-entry}
use Rattle.rules.proofs.Longest.{matched_rule}
use Rattle.rules.proofs.NearGtp6D as Near6
use Rattle.rules.proofs.NearD4 as Near4
use Rattle.reach.specs.Reach.{Writable, Under}
use Rattle.pair.specs.Fit.{FitWaypoints, Use, Compatible6, Compatible4}

-- WAYPOINTS

pub use-waypoints : (ss : List Stop) (ts sids : List (List ℕ)) → Use ss ts → FitWaypoints ts sids → AtWaypoints ss sids
use-waypoints [] [] [] u w = tt
use-waypoints [] [] (sid ∷ sids) u w = w
use-waypoints [] (t ∷ ts) sids u w = absurd u
use-waypoints (s ∷ ss) [] sids u w = absurd u
use-waypoints (s ∷ ss) (t ∷ ts) [] u w = absurd w
use-waypoints (s ∷ ss) (t ∷ ts) (sid ∷ sids) u w =
    let (i, f) = w.0 in
    let q = u.0.1 in (
      (
        i,
        record {
          call = u.0.0;
          octets = rw q u.0.2;
          sound = rw q f.table_sound;
          matches = rw q f.matches;
          kind = rw q f.kind;
        },
      ),
      use-waypoints ss ts sids u.1 w.1,
    )

as_many : (ss : List Stop) (sids : List (List ℕ)) → AtWaypoints ss sids → length ss ≡ length sids
as_many [] [] a = refl
as_many [] (sid ∷ sids) a = absurd a
as_many (s ∷ ss) [] a = absurd a
as_many (s ∷ ss) (sid ∷ sids) a = ap suc (as_many ss sids a.1)

-- ARGS THAT A PACKET BRINGS

-- where the container is of a direction, they can be written in it
quiet : (direction : ℕ) (u : List ℕ) → Gtpu.pdu_type u ≡ direction → direction ≢ downlink → Gtpu.reflective u ≡ 0
quiet direction u h n = rw (h, ne_eqb direction downlink n) refl

-- row 13 does not apply
right-direction : (direction : ℕ) (u : List ℕ) → None (g_pdu_rows direction (datagram u)) → Gtpu.pdu_type u ≡ direction
unfolding g_pdu_rows datagram
right-direction direction u n = omega (read, n)

-- OVER IPV6

module _ (near : Stop) (ss : List Stop) (far : Stop) (ws : List (List ℕ)) (i j : ℕ) (c : Compatible6 near.table ws far.table i j)
    (on : Octets near.table) (of : Octets far.table) (vn : near.version ≡ v6) (us : Use ss ws) (vf : far.version ≡ v6)
    (p : List ℕ) (o : Octets p) (m : match_entry near.table (Ipv6.destination p) ≡ Some i)
    (type : Gtpu.message_type (datagram_in6 p) ≡ g_pdu) (x : List ℕ) (sent : call near p ≡ Sent x) where
  enters6 : AtEntry near (Ipv6.destination p) end_m_gtp6d_di i
  enters6 = record { call = vn; octets = on; sound = c.fits.near_sound; matches = m; kind = c.fits.enters }

  passes6 : AtWaypoints ss (Policy.waypoints (policy_of near i))
  passes6 = use-waypoints ss ws (Policy.waypoints (policy_of near i)) us c.passes

  no_row6 : None (g_pdu_rows (Entry.direction (entry_at near.table i)) (datagram (datagram_in6 p)))
  unfolding at_di
  no_row6 =
      let e = entry_at near.table i in
      let policy = policy_of near i in
      let d = carried6 p in
      let (front, k) = sent-entry near p (Ipv6.destination p) x end_m_gtp6d_di i enters6 refl sent in
      let here = sym (at_di_lem near.table e p c.fits.enters) ∙ k in
      (Near6.sent_passed e (di_path policy d) (di_packet e policy d) p x type front here).0.g_pdu

  writable6 : Writable (Entry.direction (entry_at near.table i)) (carried6 p).args
  unfolding carried6 carried_by
  writable6 =
      let f = (Near6.carried6_valid p o).args in
      record {
        qfi = f.flow;
        reflective = f.bit;
        not_downlink = quiet (Entry.direction (entry_at near.table i)) (datagram_in6 p)
            (right-direction (Entry.direction (entry_at near.table i)) (datagram_in6 p) no_row6);
        size = f.tunnel;
        octets = octets-window (datagram_in6 p) 12 4 (octets-drop p (header p).upperAt o);
      }

  pub matching6 : Room near ss far (length (di_packet (entry_at near.table i) (policy_of near i) (carried6 p)))
      (length (e6_packet (entry_at far.table j) (carried6 p)))
      → Matching6 near ss far p i j
  matching6 room = record {
    octets = o;
    g_pdu = type;
    sent = (x, sent);
    enters = enters6;
    passes = passes6;
    leaves = record {
      call = vf;
      octets = of;
      sound = c.fits.far_sound;
      matches = c.fits.matches (carried6 p).args writable6;
      kind = c.fits.leaves;
    };
    hopLimit = rw (as_many ss (Policy.waypoints (policy_of near i)) passes6) c.fits.hopLimit;
    direction = c.fits.direction;
    session = c.fits.session;
    start = c.fits.start;
    room = room;
  }

-- OVER IPV4

module _ (near : Stop) (ss : List Stop) (far : Stop) (ws : List (List ℕ)) (k j : ℕ) (c : Compatible4 near.table ws far.table k j)
    (on : Octets near.table) (of : Octets far.table) (vn : near.version ≡ v4) (us : Use ss ws) (vf : far.version ≡ v6)
    (p : List ℕ) (o : Octets p) (m : match_rule near.table (Ipv4.destination p) ≡ Some k)
    (type : Gtpu.message_type (datagram_in4 p) ≡ g_pdu) (x : List ℕ) (sent : call near p ≡ Sent x) where
  enters4 : AtRule near (Ipv4.destination p) k
  enters4 = record { call = vn; octets = on; sound = c.fits.near_sound; matches = m }

  passes4 : AtWaypoints ss (Rule.waypoints (rule_at near.table k))
  passes4 = use-waypoints ss ws (Rule.waypoints (rule_at near.table k)) us c.passes

  no_row4 : None (g_pdu_rows (Rule.direction (rule_at near.table k)) (datagram (datagram_in4 p)))
  no_row4 = (Near4.call_passed near p (Ipv4.destination p) k enters4 refl x type sent).g_pdu

  writable4 : Writable (Rule.direction (rule_at near.table k)) (carried4 p).args
  unfolding carried4 carried_by
  writable4 =
      let f = (Near4.carried4_valid p o).args in
      record {
        qfi = f.flow;
        reflective = f.bit;
        not_downlink = quiet (Rule.direction (rule_at near.table k)) (datagram_in4 p)
            (right-direction (Rule.direction (rule_at near.table k)) (datagram_in4 p) no_row4);
        size = f.tunnel;
        octets = octets-window (datagram_in4 p) 12 4 (octets-drop p 20 o);
      }

  under4 : Under (rule_at near.table k) (carried4 p).destination
  unfolding carried4 carried_by
  under4 = record {
    size = window-length p 16 4;
    octets = octets-window p 16 4 o;
    under = (matched_rule near.table (Ipv4.destination p) k m).hit;
  }

  leaves4 : match_entry far.table (d4_sid (rule_at near.table k) (carried4 p)) ≡ Some j
  unfolding d4_sid
  leaves4 = c.fits.matches (carried4 p).destination (carried4 p).args under4 writable4

  pub matching4 : Room near ss far (length (d4_packet (rule_at near.table k) (carried4 p)))
      (length (e4_packet (entry_at far.table j) (carried4 p)))
      → Matching4 near ss far p k j
  matching4 room = record {
    octets = o;
    g_pdu = type;
    sent = (x, sent);
    enters = enters4;
    passes = passes4;
    leaves = record { call = vf; octets = of; sound = c.fits.far_sound; matches = leaves4; kind = c.fits.leaves };
    hopLimit = rw (as_many ss (Rule.waypoints (rule_at near.table k)) passes4) c.fits.hopLimit;
    direction = c.fits.direction;
    session = c.fits.session;
    p = c.fits.p;
    q = c.fits.q;
    room = room;
  }
