-- The premises of demand 3 can be met: trips from Di to E6 and from D4 to E4, past no waypoint and past two, checked by computation.
use mathlib.Core.Path.{refl}
use mathlib.Core.List.{List, [], ◌∷◌}
use Prim.Native.Nat.{ℕ}
use lib.Dec.{lit<, lit≤}
use lib.ListN.{replicate}
use Rattle.rules.specs.Assigned.{end, end_m_gtp6d, end_m_gtp6d_di}
use Rattle.rules.specs.Trip.{Version, v4, v6, Stop}
use Rattle.rules.specs.Demand3.{AtEntry, Matching, over6, over4, MatchingD}
use Rattle.rules.proofs.Computing.{computing}
use Rattle.rules.proofs.Samples.{sid_of, table, packet6, packet4, bytes-octets}

abbrev pub stop_of : Version → (behaviour waypoints : ℕ) → Stop
stop_of version behaviour waypoints = record { version = version; table = table behaviour waypoints; buffer = replicate 300 255 }

abbrev pub inner : List ℕ
inner = replicate 100 7

abbrev pub near6 : (waypoints : ℕ) → Stop
near6 waypoints = stop_of v6 end_m_gtp6d_di waypoints

abbrev pub near4 : (waypoints : ℕ) → Stop
near4 waypoints = stop_of v4 end_m_gtp6d_di waypoints

-- a stop at which entry 2, a waypoint, matches
at_waypoint_lem : AtEntry (near6 2) (sid_of 2) end 2
unfolding computing
at_waypoint_lem = record { call = refl; octets = bytes-octets (table end_m_gtp6d_di 2) refl; sound = refl; matches = refl; kind = refl }

pub di-none : Matching (near6 0) [] (near6 0) (packet6 inner)
unfolding computing
di-none = over6 0 1 (record {
  octets = bytes-octets (packet6 inner) refl;
  g_pdu = refl;
  sent = (_, refl);
  enters = record { call = refl; octets = bytes-octets (table end_m_gtp6d_di 0) refl; sound = refl; matches = refl; kind = refl };
  passes = tt;
  leaves = record { call = refl; octets = bytes-octets (table end_m_gtp6d_di 0) refl; sound = refl; matches = refl; kind = refl };
  hopLimit = lit< tt;
  direction = refl;
  session = refl;
  start = refl;
  room = record { at_near = lit≤ tt; at_waypoints = tt; at_far = lit≤ tt };
})

pub di_two : Matching (near6 2) (near6 2 ∷ near6 2 ∷ []) (near6 2) (packet6 inner)
unfolding computing
di_two = over6 0 1 (record {
  octets = bytes-octets (packet6 inner) refl;
  g_pdu = refl;
  sent = (_, refl);
  enters = record { call = refl; octets = bytes-octets (table end_m_gtp6d_di 2) refl; sound = refl; matches = refl; kind = refl };
  passes = ((2, at_waypoint_lem), ((2, at_waypoint_lem), tt));
  leaves = record { call = refl; octets = bytes-octets (table end_m_gtp6d_di 2) refl; sound = refl; matches = refl; kind = refl };
  hopLimit = lit< tt;
  direction = refl;
  session = refl;
  start = refl;
  room = record { at_near = lit≤ tt; at_waypoints = (lit≤ tt, (lit≤ tt, tt)); at_far = lit≤ tt };
})

pub d4_none : Matching (near4 0) [] (near6 0) (packet4 inner)
unfolding computing
d4_none = over4 0 3 (record {
  octets = bytes-octets (packet4 inner) refl;
  g_pdu = refl;
  sent = (_, refl);
  enters = record { call = refl; octets = bytes-octets (table end_m_gtp6d_di 0) refl; sound = refl; matches = refl };
  passes = tt;
  leaves = record { call = refl; octets = bytes-octets (table end_m_gtp6d_di 0) refl; sound = refl; matches = refl; kind = refl };
  hopLimit = lit< tt;
  direction = refl;
  session = refl;
  p = refl;
  q = refl;
  room = record { at_near = lit≤ tt; at_waypoints = tt; at_far = lit≤ tt };
})

pub d4_two : Matching (near4 2) (near6 2 ∷ near6 2 ∷ []) (near6 2) (packet4 inner)
unfolding computing
d4_two = over4 0 3 (record {
  octets = bytes-octets (packet4 inner) refl;
  g_pdu = refl;
  sent = (_, refl);
  enters = record { call = refl; octets = bytes-octets (table end_m_gtp6d_di 2) refl; sound = refl; matches = refl };
  passes = ((2, at_waypoint_lem), ((2, at_waypoint_lem), tt));
  leaves = record { call = refl; octets = bytes-octets (table end_m_gtp6d_di 2) refl; sound = refl; matches = refl; kind = refl };
  hopLimit = lit< tt;
  direction = refl;
  session = refl;
  p = refl;
  q = refl;
  room = record { at_near = lit≤ tt; at_waypoints = (lit≤ tt, (lit≤ tt, tt)); at_far = lit≤ tt };
})

abbrev pub near_d : Stop
near_d = stop_of v6 end_m_gtp6d 2

pub d_two : MatchingD near_d (near6 2 ∷ near6 2 ∷ []) (packet6 inner) 0
unfolding computing
d_two = record {
  octets = bytes-octets (packet6 inner) refl;
  g_pdu = refl;
  sent = (_, refl);
  enters = record { call = refl; octets = bytes-octets (table end_m_gtp6d 2) refl; sound = refl; matches = refl; kind = refl };
  passes = ((2, at_waypoint_lem), ((2, at_waypoint_lem), tt));
  hopLimit = lit< tt;
  room = (lit≤ tt, (lit≤ tt, tt));
}
