-- The premises of a trip made of bursts can be met: two G-PDUs from Di past two waypoints to E6 in one burst, checked by computation.
use mathlib.Core.Path.{refl}
use mathlib.Core.List.{List, [], ◌∷◌, ◌++◌}
use Prim.Native.Nat.{ℕ}
use lib.Dec.{lit<, lit≤}
use lib.ListN.{length, replicate}
use Rattle.rules.specs.Assigned.{end, end_m_gtp6d_di}
use Rattle.rules.specs.Trip.{Stop, stops}
use Rattle.rules.specs.Demand3.{AtEntry, Matching, over6}
use Rattle.rules.proofs.Computing.{computing}
use Rattle.rules.proofs.Samples.{sid_of, table, packet6, bytes-octets}
use Rattle.rules.proofs.Premises.{near6}
use Rattle.burst.specs.Burst.{most, sum, cut, result, results, Fit}
use Rattle.burst.specs.BurstTrip.{sent_on, calls, RoomForAll, EachMatching}

-- a G-PDU with a short inner packet: two of them have room in a buffer of 300 octets
abbrev g_pdu : List ℕ
g_pdu = packet6 (replicate 10 7)

abbrev lengths : List ℕ
lengths = length g_pdu ∷ length g_pdu ∷ []

abbrev packets : List ℕ
packets = g_pdu ++ g_pdu

abbrev waypoints : List Stop
waypoints = near6 2 ∷ near6 2 ∷ []

at_waypoint_lem : AtEntry (near6 2) (sid_of 2) end 2
unfolding computing
at_waypoint_lem = record { call = refl; octets = bytes-octets (table end_m_gtp6d_di 2) refl; sound = refl; matches = refl; kind = refl }

matching : Matching (near6 2) waypoints (near6 2) g_pdu
unfolding computing
matching = over6 0 1 (record {
  octets = bytes-octets g_pdu refl;
  g_pdu = refl;
  sent = (_, refl);
  enters = record { call = refl; octets = bytes-octets (table end_m_gtp6d_di 2) refl; sound = refl; matches = refl; kind = refl };
  passes = ((2, at_waypoint_lem), ((2, at_waypoint_lem), tt));
  leaves = record { call = refl; octets = bytes-octets (table end_m_gtp6d_di 2) refl; sound = refl; matches = refl; kind = refl };
  hopLimit = lit< tt;
  direction = refl;
  session = refl;
  start = refl;
  room = record { at_near = lit≤ tt; at_waypoints = (lit≤ tt, (lit≤ tt, tt)); at_far = lit≤ tt };
})

pub two_fit : Fit lengths packets most
unfolding computing sum
two_fit = record { few = lit≤ tt; adds = refl; placed = lit≤ tt }

pub two_have_room : RoomForAll (stops (near6 2) waypoints (near6 2)) (cut lengths packets)
unfolding computing cut calls sent_on results result
two_have_room = (lit≤ tt, (lit≤ tt, (lit≤ tt, (lit≤ tt, tt))))

pub two_match : EachMatching (near6 2) waypoints (near6 2) (cut lengths packets)
unfolding cut computing
two_match = (matching, (matching, tt))
