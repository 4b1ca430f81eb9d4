-- SRv6 packets as D, Di and D4 write them.
use Rattle.std.specs.Prelude.{List, [], ◌∷◌, ◌++◌, ℕ, ◌+◌, ◌-◌, ◌*◌, length, get_or}
use Rattle.rules.specs.Assigned.{routing_header}
use Rattle.rules.specs.Ipv6.{ipv6}
use Rattle.rules.specs.Srh.{srh}

-- its payload: an SRH that holds a path of SIDs, then the inner packet
abbrev pub srv6_payload : (path : List (List ℕ)) (inner : List ℕ) → ℕ
srv6_payload path inner = 8 + 16 * length path + length inner

-- to the first SID of a path, with the whole path in the SRH: SL = LE = the number of SIDs less 1
abbrev pub srv6 : (traffic_class upper hop_limit : ℕ) (source : List ℕ) (path : List (List ℕ)) (inner : List ℕ) → List ℕ
srv6 traffic_class upper hop_limit source path inner =
    ipv6 traffic_class (srv6_payload path inner) routing_header hop_limit source (get_or path 0 []) (srh upper (length path - 1) path inner)

-- past waypoints to a SID; with no waypoints there is no SRH
abbrev pub past_waypoints : (traffic_class upper hop_limit : ℕ) (source : List ℕ) (waypoints : List (List ℕ)) (sid inner : List ℕ) → List ℕ
past_waypoints traffic_class upper hop_limit source [] sid inner = ipv6 traffic_class (length inner) upper hop_limit source sid inner
past_waypoints traffic_class upper hop_limit source (w ∷ ws) sid inner = srv6 traffic_class upper hop_limit source (w ∷ ws ++ sid ∷ [])
    inner

abbrev pub past_waypoints_payload : (waypoints : List (List ℕ)) (inner : List ℕ) → ℕ
past_waypoints_payload [] inner = length inner
past_waypoints_payload (w ∷ ws) inner = 8 + 16 * (length (w ∷ ws) + 1) + length inner
