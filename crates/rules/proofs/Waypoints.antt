-- A packet on its way: what a waypoint makes of it, and the calls at a list of waypoints, by induction over the way still to go.
use mathlib.Core.Path.{◌≡◌, sym, ap, ◌∙◌}
use mathlib.Core.List.{List, [], ◌∷◌, ◌++◌, append_assoc}
use Prim.Native.Nat.{ℕ, ◌+◌, ◌-◌, ◌*◌, ◌/◌, ◌%◌, ◌≤◌, ◌<◌}
use native.Mathlib.Omega.{arith}
use lib.ListN.{length, take, drop, get_or}
use lib.Seq.{take_at, drop-drop, take-append-add}
use borrow.Author.Tests.{lt-ltb}
use Rattle.rules.specs.Octets.{window, splice}
use Rattle.rules.specs.Assigned.{hop_by_hop, routing_header, fragment_header, destination_options, segment_routing}
use Rattle.rules.specs.Ipv6 as Ipv6
use Rattle.rules.specs.Ipv6.{ipv6}
use Rattle.rules.specs.Srh.{segments, srh}
use Rattle.rules.specs.Srv6.{srv6_payload}
use Rattle.rules.specs.Header.{header, malformed}
use Rattle.rules.specs.Waypoint.{with_routing, forwarded, waypoint_rows, step_rows}
use Rattle.rules.proofs.Windows.{drop_past, window-length, window-drop, window_front}
use Rattle.rules.proofs.Rows.{Clear, None, clear}
use Rattle.rules.proofs.Reading.{Addresses, length-segments, drop-segments, segments-append, ipv6-length, ipv6-drop, ipv6-octet}
use Rattle.rules.proofs.Reading.{ipv6-destination, ipv6-segment, ipv6-header}

-- WHAT A WAYPOINT CHANGES

take_past : (s r : List ℕ) (n i : ℕ) → length s ≡ n → take (n + i) (s ++ r) ≡ s ++ take i r
take_past s r n i h = rw (← h) (take-append-add s r i)

regroup : (s d a x b : List ℕ) → s ++ (d ++ a) ++ x ++ b ≡ s ++ (d ++ (a ++ x ++ b))
regroup s d a x b = simp append_assoc

module _ (class payload next hop : ℕ) (s d rest : List ℕ) (hs : length s ≡ 16) (hd : length d ≡ 16) where
  splice-destination : (x : List ℕ) → length x ≡ 16
      → splice (ipv6 class payload next hop s d rest) 24 x ≡ ipv6 class payload next hop s x rest
  unfolding splice
  splice-destination x hx = rw (hx, take_at s (d ++ rest) 16 hs, ipv6-drop class payload next hop s d rest hs hd 0, append_assoc s x rest)

  splice-rest : (x : ℕ) → splice (ipv6 class payload next hop s d rest) 43 (x ∷ []) ≡ ipv6 class payload next hop s d
      (splice rest 3 (x ∷ []))
  unfolding splice
  splice-rest x =
      let t : take 35 (s ++ (d ++ rest)) ≡ s ++ (d ++ take 3 rest) =
      take_past s (d ++ rest) 16 19 hs ∙ ap (λ (l : List ℕ). s ++ l) (take_past d rest 16 3 hd) in
      let u : drop 36 (s ++ (d ++ rest)) ≡ drop 4 rest = drop_past s (d ++ rest) 16 20 hs ∙ drop_past d rest 16 4 hd in
      rw (t, u)
      (ap (λ (l : List ℕ). (0x60 + class / 16) ∷ (class % 16 * 16) ∷ 0 ∷ 0 ∷ (payload / 256) ∷ (payload % 256) ∷ next ∷ hop ∷ l)
      (regroup s d (take 3 rest) (x ∷ []) (drop 4 rest)))

pub ipv6-forwarded : (class payload next hop : ℕ) (s d : List ℕ) (a b c left : ℕ) (rest : List ℕ) → length s ≡ 16 → length d ≡ 16
    → forwarded (ipv6 class payload next hop s d (a ∷ b ∷ c ∷ left ∷ rest))
    ≡ ipv6 class payload next (hop - 1) s (window (a ∷ b ∷ c ∷ left ∷ rest) (8 + 16 * (left - 1)) 16) (a ∷ b ∷ c ∷ (left - 1) ∷ rest)
unfolding forwarded with_routing splice
ipv6-forwarded class payload next hop s d a b c left rest hs hd =
    let r = a ∷ b ∷ c ∷ left ∷ rest in
    let w = window r (8 + 16 * (left - 1)) 16 in
    let hw = window-length r (8 + 16 * (left - 1)) 16 in
    rw (ipv6-octet class payload next hop s d r hs hd 3, ipv6-segment class payload next hop s d r hs hd (left - 1))
    (ap (λ (p : List ℕ). splice p 43 ((left - 1) ∷ [])) (splice-destination class payload next (hop - 1) s d r hs hd w hw)
    ∙ splice-rest class payload next (hop - 1) s w r hs hw (left - 1))

-- A PACKET ON ITS WAY

-- the SRH holds some segments, and the way still to go is a path, whose first is the destination
abbrev pub on_the_way : (class upper hop : ℕ) (source : List ℕ) (held path : List (List ℕ)) (inner : List ℕ) → List ℕ
on_the_way class upper hop source held path inner =
    ipv6 class (srv6_payload held inner) routing_header hop source (get_or path 0 []) (srh upper (length path - 1) held inner)

-- what holds of it
pub record Way (class upper hop : ℕ) (source : List ℕ) (held path : List (List ℕ)) (inner : List ℕ) : Type 0 where
  pub octet : class < 256
  pub not0 : upper ≡ hop_by_hop → ⊥
  pub not43 : upper ≡ routing_header → ⊥
  pub not44 : upper ≡ fragment_header → ⊥
  pub not60 : upper ≡ destination_options → ⊥
  pub from : length source ≡ 16
  pub to : Addresses path
  pub some : 0 < length path
  pub through : Addresses held
  pub ahead : length path ≤ length held + 1
  pub fits : srv6_payload held inner ≤ 65535

module _ (class upper hop : ℕ) (source : List ℕ) (held path : List (List ℕ)) (inner : List ℕ)
    (w : Way class upper hop source held path inner) where
  pub way_first : length (get_or path 0 []) ≡ 16
  way_first = first path w.to w.some
    where
      first : (path : List (List ℕ)) → Addresses path → 0 < length path → length (get_or path 0 []) ≡ 16
      first [] a h = absurd (omega arith)
      first (x ∷ path) a h = a.0

  pub way_length : length (on_the_way class upper hop source held path inner) ≡ 48 + 16 * length held + length inner
  way_length =
      ipv6-length class (srv6_payload held inner) routing_header hop source (get_or path 0 []) (srh upper (length path - 1) held inner)
      w.from way_first
      ∙ rw (length-segments held inner w.through) (omega arith)

  pub way_header : header (on_the_way class upper hop source held path inner) ≡ record {
    size = 48 + 16 * length held + length inner;
    version = 6;
    trafficClass = class;
    payloadLength = srv6_payload held inner;
    nextHeader = routing_header;
    hopLimit = hop;
    units = 2 * length held;
    routingType = segment_routing;
    segmentsLeft = length path - 1;
    lastEntry = length held - 1;
    upper = upper;
    upperAt = 48 + 8 * (2 * length held);
  }
  way_header =
      let e : 40 + length (srh upper (length path - 1) held inner) ≡ 48 + 16 * length held + length inner =
      rw (length-segments held inner w.through) (omega arith) in
      ipv6-header class (srv6_payload held inner) routing_header hop source (get_or path 0 []) (srh upper (length path - 1) held inner)
      w.from way_first w.octet
      ∙ (λ i. record {
        size = e i;
        version = 6;
        trafficClass = class;
        payloadLength = srv6_payload held inner;
        nextHeader = routing_header;
        hopLimit = hop;
        units = 2 * length held;
        routingType = segment_routing;
        segmentsLeft = length path - 1;
        lastEntry = length held - 1;
        upper = upper;
        upperAt = 48 + 8 * (2 * length held);
      })

  pub way_destination : Ipv6.destination (on_the_way class upper hop source held path inner) ≡ get_or path 0 []
  way_destination = ipv6-destination class (srv6_payload held inner) routing_header hop source (get_or path 0 [])
      (srh upper (length path - 1) held inner) w.from way_first

  pub way_wellformed : Clear (malformed (header (on_the_way class upper hop source held path inner)))
  way_wellformed = rw way_header (omega clear)

  -- what follows its headers
  pub way_inner : drop (header (on_the_way class upper hop source held path inner)).upperAt
      (on_the_way class upper hop source held path inner) ≡ inner
  way_inner =
      let s = srh upper (length path - 1) held inner in
      let e : 48 + 8 * (2 * length held) ≡ 40 + (8 + 16 * length held) = omega arith in
      rw (
        way_header,
        e,
        ipv6-drop class (srv6_payload held inner) routing_header hop source (get_or path 0 []) s w.from way_first (8 + 16 * length held),
        ← (drop-drop (16 * length held) 8 s),
      )
      (drop-segments held inner w.through)

  -- no row applies at a waypoint while a segment is left
  pub way_rows : 1 < length path → 1 < hop → None (waypoint_rows (header (on_the_way class upper hop source held path inner)))
  unfolding waypoint_rows step_rows
  way_rows hl hh = rw (way_header, lt-ltb 0 (length path - 1) (omega arith)) (omega clear)

-- the segment that has as many behind it as rest has
pub segment-behind : (pre : List (List ℕ)) (x : List ℕ) (rest : List (List ℕ)) (inner : List ℕ) → length x ≡ 16 → Addresses rest
    → window (segments (pre ++ x ∷ rest) inner) (16 * length rest) 16 ≡ x
segment-behind pre x rest inner hx hr =
    let s = segments (pre ++ x ∷ rest) inner in
    let e : 16 * length rest ≡ 16 * length rest + 0 = omega arith in
    let d : drop (16 * length rest) s ≡ x ++ segments pre inner =
    rw (segments-append pre (x ∷ rest) inner) (drop-segments rest (x ++ segments pre inner) hr) in
    ap (λ (k : ℕ). window s k 16) e ∙ sym (window-drop s (16 * length rest) 0 16) ∙ ap (λ (l : List ℕ). window l 0 16) d
    ∙ window_front x (segments pre inner) 16 hx

pub way_forwarded : (class upper hop : ℕ) (source d : List ℕ) (pre : List (List ℕ)) (x : List ℕ) (rest : List (List ℕ)) (inner : List ℕ)
    → length source ≡ 16 → length d ≡ 16 → length x ≡ 16 → Addresses rest
    → forwarded (on_the_way class upper hop source (pre ++ x ∷ rest) (d ∷ x ∷ rest) inner) ≡ on_the_way class upper (hop - 1) source
    (pre ++ x ∷ rest) (x ∷ rest) inner
way_forwarded class upper hop source d pre x rest inner hs hd hx hr =
    let held = pre ++ x ∷ rest in
    let left = length (d ∷ x ∷ rest) - 1 in
    let e : left - 1 ≡ length rest = omega arith in
    let f : length (x ∷ rest) - 1 ≡ length rest = omega arith in
    let r = upper ∷ (2 * length held) ∷ segment_routing ∷ left ∷ (length held - 1) ∷ 0 ∷ 0 ∷ 0 ∷ segments held inner in
    ipv6-forwarded class (srv6_payload held inner) routing_header hop source d upper (2 * length held) segment_routing left
    ((length held - 1) ∷ 0 ∷ 0 ∷ 0 ∷ segments held inner) hs hd
    ∙ rw (e, f, ← (window-drop r 8 (16 * length rest) 16), segment-behind pre x rest inner hx hr)
