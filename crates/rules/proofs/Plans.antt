-- Each behaviour is of the form of Plan.antt: what it sends is its head, then the arriving octets from its place on.
use mathlib.Core.Path.{◌≡◌, refl, sym, ap, ◌∙◌}
use mathlib.Core.Bool.{Bool, true, false, cond}
use mathlib.Core.List.{List, [], ◌∷◌, ◌++◌, append-nil, append_assoc}
use Prim.Native.Nat.{ℕ, zero, suc, ◌+◌, ◌-◌, ◌*◌, ◌/◌, ◌%◌, ◌≤◌}
use native.Mathlib.Nat.{add-zero}
use native.Mathlib.Omega.{arith}
use lib.Dec.{ltb}
use lib.ListN.{length, drop, take, get_or, length-append, length-drop, take-append-drop}
use lib.Seq.{drop-drop, drop-length, get_or-drop, take-append-le, drop-append-le}
use borrow.Author.Tests.{not-false, ltb-false, ne_eqb}
use Rattle.rules.specs.Octets.{octet, window, splice, put16}
use Rattle.rules.specs.Assigned.{udp_protocol, routing_header, segment_routing}
use Rattle.rules.specs.Table.{addresses_at}
use Rattle.rules.specs.Entry as Entry
use Rattle.rules.specs.Rule as Rule
use Rattle.rules.specs.Policy as Policy
use Rattle.rules.specs.Args.{Args, args_at}
use Rattle.rules.specs.Ipv6 as Ipv6
use Rattle.rules.specs.Ipv6.{ipv6}
use Rattle.rules.specs.Ipv4.{ipv4, ipv4_front}
use Rattle.rules.specs.Checksum.{checksum}
use Rattle.rules.specs.Srh as Srh
use Rattle.rules.specs.Srh.{segments, segment}
use Rattle.rules.specs.Gtpu as Gtpu
use Rattle.rules.specs.Gtpu.{datagram_before, datagram_octets}
use Rattle.rules.specs.Header.{header, has_srh, bad_srh}
use Rattle.rules.specs.Session.{inner_protocol}
use Rattle.rules.specs.Srv6.{srv6, past_waypoints}
use Rattle.rules.specs.Carried.{carried_by, carried6, carried4, datagram_in6, datagram_in4}
use Rattle.rules.specs.Answer.{given, verdict, Outcome, Sent, Refused, after, unless, outcome, Verdict}
use Rattle.rules.specs.Datagram.{datagram}
use Rattle.rules.specs.Echo.{is_echo, echo_reply6, echo_reply4}
use Rattle.rules.specs.Waypoint.{Routing, routing, step, with_routing, forwarded, underway, step_rows, waypoint_rows, at_waypoint}
use Rattle.rules.specs.Gtp6D.{gtp6d_packet, rows_gtp6d, rows_echo6, decide_g_pdu6, decide_echo6}
use Rattle.rules.specs.D.{last_with_args, d_path, d_packet, at_d}
use Rattle.rules.specs.Di.{di_path, di_packet, at_di}
use Rattle.rules.specs.E6.{e6_carried, e6_checksum, e6_packet, at_e6}
use Rattle.rules.specs.E4.{start_behind, e4_carried, e4_packet, at_e4}
use Rattle.rules.specs.D4.{d4_sid, d4_source, d4_packet, rows_d4, rows_echo4, decide_g_pdu4, decide_echo4, at_d4}
use Rattle.rules.specs.Plan.{Plan, sent_by, carry_out, e6_head, e4_head, path_front, path_head, tail_of}
use Rattle.rules.specs.Plan.{head_along, gtp6d_path, at_gtp6d, inner_at, d4_head}
use Rattle.rules.specs.Plan.{waypoint_plan, echo_plan6, g_pdu_plan6, gtp6d_plan, e6_plan, e4_plan, echo_plan4, g_pdu_plan4, d4_plan}
use Rattle.std.specs.Prelude.{Ok, Err}
use Rattle.rules.proofs.Windows.{window-length, window-take}
use Rattle.rules.proofs.Reading.{segments-append}
use Rattle.rules.proofs.Paths.{addresses_at-length}
use Rattle.rules.proofs.Rows.{Clear, pass_none}
use Rattle.rules.proofs.Conditions.{and_left}
use Rattle.rules.proofs.Splices.{splice-length}

-- HEADERS, AND WHAT FOLLOWS THEM

regroup : (s d r : List ℕ) → s ++ (d ++ []) ++ r ≡ s ++ (d ++ r)
regroup s d r = simp (append-nil, append_assoc)

pub ipv6_before : (class payload next hop : ℕ) (s d r : List ℕ) → ipv6 class payload next hop s d [] ++ r ≡ ipv6 class payload next hop s d
    r
ipv6_before class payload next hop s d r =
    let first = 0x60 + class / 16 in
    let second = class % 16 * 16 in
    ap (λ (l : List ℕ). first ∷ second ∷ 0 ∷ 0 ∷ (payload / 256) ∷ (payload % 256) ∷ next ∷ hop ∷ l) (regroup s d r)

pub ipv4_before : (tos total ttl : ℕ) (s d r : List ℕ) → ipv4 tos total ttl s d [] ++ r ≡ ipv4 tos total ttl s d r
ipv4_before tos total ttl s d r =
    let sum = checksum (ipv4_front tos total ttl (put16 0 (s ++ d))) in
    ap (λ (l : List ℕ). ipv4_front tos total ttl (put16 sum l)) (regroup s d r)

pub datagram-whole : (port direction k : ℕ) (x : Args) (inner : List ℕ)
    → datagram_before port direction k x (length inner) [] ++ inner ≡ datagram_octets port direction k x inner
datagram-whole port direction k x inner = rw append_assoc

-- E6 AND E4

module _ (e p : List ℕ) where
  e6-whole : sent_by (e6_head e (Ipv6.traffic_class p) (Ipv6.destination p) (segment p 0) (length (drop (header p).upperAt p))
      (e6_checksum e (segment p 0) (args_at (Ipv6.destination p) (Entry.start e)) (drop (header p).upperAt p)))
      (header p).upperAt p
      ≡ e6_packet e (e6_carried e p)
  unfolding e6_head e6_packet e6_carried
  e6-whole =
      let inner = drop (header p).upperAt p in
      let x = args_at (Ipv6.destination p) (Entry.start e) in
      let sum = e6_checksum e (segment p 0) x inner in
      let d = datagram_before (Entry.source_port e) (Entry.direction e) sum x (length inner) [] in
      let h = ipv6 (Ipv6.traffic_class p) (24 + length inner) udp_protocol (Entry.hop_limit e) (Entry.source e) (segment p 0) [] in
      append_assoc h d inner
      ∙ ap (λ (l : List ℕ). h ++ l) (datagram-whole (Entry.source_port e) (Entry.direction e) sum x inner)
      ∙ ipv6_before (Ipv6.traffic_class p) (24 + length inner) udp_protocol (Entry.hop_limit e) (Entry.source e) (segment p 0)
      (datagram_octets (Entry.source_port e) (Entry.direction e) sum x inner)

  pub e6-sent : sent_by (e6_plan e p).head (e6_plan e p).place p ≡ e6_packet e (e6_carried e p)
  unfolding e6_plan
  e6-sent =
      let head = e6_head e (Ipv6.traffic_class p) (Ipv6.destination p) (segment p 0) in
      let sum = e6_checksum e (segment p 0) (args_at (Ipv6.destination p) (Entry.start e)) (drop (header p).upperAt p) in
      ap (λ (n : ℕ). sent_by (head n sum) (header p).upperAt p) (sym (length-drop (header p).upperAt p)) ∙ e6-whole

  pub e6_carried_out : carry_out (e6_plan e p) p ≡ at_e6 e p
  unfolding at_e6 e6_plan
  e6_carried_out = ap (λ (x : List ℕ). unless (e6_plan e p).rows (Sent x)) e6-sent

  e4-whole : sent_by (e4_head e (Ipv6.traffic_class p) (Ipv6.destination p) (Ipv6.source p) (length (drop (header p).upperAt p)))
      (header p).upperAt p
      ≡ e4_packet e (e4_carried e p)
  unfolding e4_head e4_packet e4_carried
  e4-whole =
      let inner = drop (header p).upperAt p in
      let x = args_at (Ipv6.destination p) (start_behind (Entry.p e)) in
      let s = window (Ipv6.source p) (Entry.q e) 4 in
      let t = window (Ipv6.destination p) (Entry.p e) 4 in
      let d = datagram_before (Entry.source_port e) (Entry.direction e) 0 x (length inner) [] in
      let h = ipv4 (Ipv6.traffic_class p) (44 + length inner) (Entry.hop_limit e) s t [] in
      append_assoc h d inner
      ∙ ap (λ (l : List ℕ). h ++ l) (datagram-whole (Entry.source_port e) (Entry.direction e) 0 x inner)
      ∙ ipv4_before (Ipv6.traffic_class p) (44 + length inner) (Entry.hop_limit e) s t
      (datagram_octets (Entry.source_port e) (Entry.direction e) 0 x inner)

  pub e4-sent : sent_by (e4_plan e p).head (e4_plan e p).place p ≡ e4_packet e (e4_carried e p)
  unfolding e4_plan
  e4-sent =
      let head = e4_head e (Ipv6.traffic_class p) (Ipv6.destination p) (Ipv6.source p) in
      ap (λ (n : ℕ). sent_by (head n) (header p).upperAt p) (sym (length-drop (header p).upperAt p)) ∙ e4-whole

  pub e4_carried_out : carry_out (e4_plan e p) p ≡ at_e4 e p
  unfolding at_e4 e4_plan
  e4_carried_out = ap (λ (x : List ℕ). unless (e4_plan e p).rows (Sent x)) e4-sent

-- ALONG A PATH

-- a tail of one or two addresses
pub tail_cases : (P : ℕ → Type 0) → P 1 → P 2 → (t : ℕ) → 1 ≤ t → t ≤ 2 → P t
tail_cases P a b zero h k = absurd (omega arith)
tail_cases P a b (suc zero) h k = a
tail_cases P a b (suc (suc zero)) h k = b
tail_cases P a b (suc (suc (suc n))) h k = absurd (omega arith)

pub tail_length : (tail : ℕ) (sid end : List ℕ) → 1 ≤ tail → tail ≤ 2 → length (tail_of tail sid end) ≡ tail
unfolding tail_of
tail_length tail sid end h k = tail_cases (λ (t : ℕ). length (tail_of t sid end) ≡ t) refl refl tail h k

segments-rest : (path : List (List ℕ)) (rest : List ℕ) → segments path rest ≡ segments path [] ++ rest
segments-rest [] rest = refl
segments-rest (s ∷ path) rest =
    segments-rest path (s ++ rest)
    ∙ sym (append_assoc (segments path []) s rest)
    ∙ ap (λ (l : List ℕ). l ++ rest) (ap (λ (l : List ℕ). segments path [] ++ l) (sym (append-nil s)) ∙ sym (segments-rest path (s ++ [])))

module _ (class upper hops : ℕ) (source : List ℕ) where
  path_whole : (ws tail : List (List ℕ)) (inner : List ℕ)
      → path_head class upper hops source (get_or (ws ++ tail) 0 []) (length (ws ++ tail)) (length inner) tail ws ++ inner
      ≡ srv6 class upper hops source (ws ++ tail) inner
  unfolding path_head path_front
  path_whole ws tail inner =
      let path = ws ++ tail in
      let n = length path in
      let first = get_or path 0 [] in
      let payload = 8 + 16 * n + length inner in
      let f = upper ∷ (2 * n) ∷ segment_routing ∷ (n - 1) ∷ (n - 1) ∷ 0 ∷ 0 ∷ 0 ∷ [] in
      let h = ipv6 class payload routing_header hops source first f in
      let e : segments tail [] ++ segments ws [] ++ inner ≡ segments path inner =
      append_assoc (segments tail []) (segments ws []) inner
      ∙ ap (λ (l : List ℕ). segments tail [] ++ l) (sym (segments-rest ws inner))
      ∙ sym (segments-rest tail (segments ws inner))
      ∙ sym (segments-append ws tail inner) in
      let g : h ≡ ipv6 class payload routing_header hops source first [] ++ f = sym (ipv6_before class payload routing_header hops source
      first f) in
      append_assoc h (segments tail [] ++ segments ws []) inner
      ∙ (λ i. g i ++ e i)
      ∙ append_assoc (ipv6 class payload routing_header hops source first []) f (segments path inner)
      ∙ ipv6_before class payload routing_header hops source first (f ++ segments path inner)

  -- waypoints that stand in a record, a tail and the inner packet
  pub along_whole : (holder : List ℕ) (from w tail : ℕ) (sid end : List ℕ) (size : ℕ) (inner : List ℕ) → 1 ≤ tail → tail ≤ 2 → size ≡
      length inner
      → head_along class upper hops source holder from w tail sid end size ++ inner
      ≡ srv6 class upper hops source (addresses_at holder from w ++ tail_of tail sid end) inner
  unfolding head_along
  along_whole holder from w tail sid end size inner h k hs =
      let ws = addresses_at holder from w in
      let rest = tail_of tail sid end in
      let n : w + tail ≡ length (ws ++ rest) =
      sym (length-append ws rest ∙ (λ i. addresses_at-length holder from w i + tail_length tail sid end h k i)) in
      (λ i. path_head class upper hops source (get_or (ws ++ rest) 0 []) (n i) (hs i) rest ws ++ inner) ∙ path_whole ws rest inner

-- the next header depends on the first octet alone
first-octet : (session place : ℕ) (p inner : List ℕ) → drop place p ≡ inner
    → inner_protocol session (octet p place ∷ []) ≡ inner_protocol session inner
unfolding inner_protocol
first-octet session place p inner e =
    let o : octet p place ≡ octet inner 0 =
    ap (octet p) (sym (add-zero place)) ∙ sym (get_or-drop place p 0 0) ∙ ap (λ (l : List ℕ). octet l 0) e in
    ap (λ (k : ℕ). inner_protocol session (k ∷ [])) o

inner-size : (place : ℕ) (p inner : List ℕ) → drop place p ≡ inner → length p - place ≡ length inner
inner-size place p inner e = sym (length-drop place p) ∙ ap length e

-- a reply to an Echo Request: no arriving octet follows its head
pub all_head : (head p : List ℕ) → sent_by head (length p) p ≡ head
all_head head p = ap (λ (l : List ℕ). head ++ l) (drop-length p) ∙ append-nil head

-- D AND DI

pub inner_6 : (p : List ℕ) → drop (inner_at p (header p).upperAt) p ≡ (carried6 p).inner
unfolding carried6 carried_by
inner_6 p = sym (drop-drop (20 + 4 * Gtpu.extension_units (datagram_in6 p)) (header p).upperAt p)

module _ (tail : ℕ) (e policy p : List ℕ) (h : 1 ≤ tail) (k : tail ≤ 2) where
  pub g_pdu6_sent : sent_by (g_pdu_plan6 tail e policy p).head (g_pdu_plan6 tail e policy p).place p
      ≡ gtp6d_packet e (gtp6d_path tail policy
      (carried6 p)) (carried6 p)
  unfolding g_pdu_plan6 gtp6d_packet gtp6d_path
  g_pdu6_sent =
      let c = carried6 p in
      let place = inner_at p (header p).upperAt in
      let sid = last_with_args policy c.args in
      let u = first-octet (Entry.session e) place p c.inner (inner_6 p) in
      (λ i. head_along c.trafficClass (u i) (Entry.hop_limit e) (Entry.source e) policy 16 (Policy.sid_count policy - 1) tail sid
      c.destination (length p - place) ++ inner_6 p i)
      ∙ along_whole c.trafficClass (inner_protocol (Entry.session e) c.inner) (Entry.hop_limit e) (Entry.source e) policy 16
      (Policy.sid_count policy - 1) tail sid c.destination
      (length p - place) c.inner h k (inner-size place p c.inner (inner_6 p))

  pub gtp6d_carried_out : carry_out (gtp6d_plan tail e policy p) p ≡ at_gtp6d tail e policy p
  unfolding at_gtp6d gtp6d_plan echo_plan6 g_pdu_plan6
  gtp6d_carried_out = go (is_echo (datagram (datagram_in6 p)))
    where
      path : List (List ℕ)
      path = gtp6d_path tail policy (carried6 p)

      go : (echo : Bool) → carry_out (cond echo (echo_plan6 e p) (g_pdu_plan6 tail e policy p)) p
          ≡ outcome (cond echo (decide_echo6 e p) (decide_g_pdu6 e path (gtp6d_packet e path (carried6 p)) p))
      go true = ap (λ (x : List ℕ). unless (rows_echo6 e p) (Sent x)) (all_head (echo_reply6 e p) p)
      go false = ap (λ (x : List ℕ). unless (rows_gtp6d e path p) (Sent x)) g_pdu6_sent

  -- by the type of the message
  pub echo6_carried_out : is_echo (datagram (datagram_in6 p)) ≡ true → carry_out (echo_plan6 e p) p ≡ at_gtp6d tail e policy p
  unfolding gtp6d_plan
  echo6_carried_out t =
      let is : gtp6d_plan tail e policy p ≡ echo_plan6 e p = rw t in
      sym (ap (λ (plan : Plan). carry_out plan p) is) ∙ gtp6d_carried_out

  pub g_pdu6_carried_out : is_echo (datagram (datagram_in6 p)) ≡ false → carry_out (g_pdu_plan6 tail e policy p) p
      ≡ at_gtp6d tail e policy p
  unfolding gtp6d_plan
  g_pdu6_carried_out t =
      let is : gtp6d_plan tail e policy p ≡ g_pdu_plan6 tail e policy p = rw t in
      sym (ap (λ (plan : Plan). carry_out plan p) is) ∙ gtp6d_carried_out

pub d_tail : (e policy p : List ℕ) → at_gtp6d 1 e policy p ≡ at_d e policy p
unfolding at_gtp6d gtp6d_path tail_of at_d d_path d_packet
d_tail e policy p = refl

pub di_tail : (e policy p : List ℕ) → at_gtp6d 2 e policy p ≡ at_di e policy p
unfolding at_gtp6d gtp6d_path tail_of at_di di_path di_packet
di_tail e policy p = refl

pub d_carried_out : (e policy p : List ℕ) → carry_out (gtp6d_plan 1 e policy p) p ≡ at_d e policy p
d_carried_out e policy p = gtp6d_carried_out 1 e policy p (omega arith) (omega arith) ∙ d_tail e policy p

pub di_carried_out : (e policy p : List ℕ) → carry_out (gtp6d_plan 2 e policy p) p ≡ at_di e policy p
di_carried_out e policy p = gtp6d_carried_out 2 e policy p (omega arith) (omega arith) ∙ di_tail e policy p

-- D4

pub inner_4 : (p : List ℕ) → drop (inner_at p 20) p ≡ (carried4 p).inner
unfolding carried4 carried_by
inner_4 p = sym (drop-drop (20 + 4 * Gtpu.extension_units (datagram_in4 p)) 20 p)

-- past any waypoints: a head of this form and the inner packet
pub d4_whole : (r : List ℕ) (class upper : ℕ) (source sid : List ℕ) (size : ℕ) (inner : List ℕ) → size ≡ length inner
    → d4_head r class upper source sid size ++ inner ≡ past_waypoints class upper (Rule.hop_limit r) source (Rule.waypoints r) sid inner
unfolding d4_head addresses_at tail_of
d4_whole r class upper source sid size inner hs = go (Rule.waypoint_count r) refl
  where
    hops : ℕ
    hops = Rule.hop_limit r

    go : (w : ℕ) → Rule.waypoint_count r ≡ w → d4_head r class upper source sid size ++ inner ≡ past_waypoints class upper hops source
        (Rule.waypoints r) sid inner
    go zero e = rw e (ipv6_before class size upper hops source sid inner ∙ ap (λ (k : ℕ). ipv6 class k upper hops source sid inner) hs)
    go (suc w) e =
        rw (e, ne_eqb (suc w) 0 (λ (q : suc w ≡ 0). absurd (omega (arith, q))))
        (along_whole class upper hops source r 48 (suc w) 1 sid sid size inner (omega arith) (omega arith) hs)

module _ (r p : List ℕ) where
  pub g_pdu4_sent : sent_by (g_pdu_plan4 r p).head (g_pdu_plan4 r p).place p ≡ d4_packet r (carried4 p)
  unfolding g_pdu_plan4 d4_packet
  g_pdu4_sent =
      let c = carried4 p in
      let place = inner_at p 20 in
      let u = first-octet (Rule.session r) place p c.inner (inner_4 p) in
      (λ i. d4_head r c.trafficClass (u i) (d4_source r c) (d4_sid r c) (length p - place) ++ inner_4 p i)
      ∙ d4_whole r c.trafficClass (inner_protocol (Rule.session r) c.inner) (d4_source r c) (d4_sid r c) (length p - place) c.inner
      (inner-size place p c.inner (inner_4 p))

  pub d4_carried_out : carry_out (d4_plan r p) p ≡ at_d4 r p
  unfolding at_d4 d4_plan echo_plan4 g_pdu_plan4
  d4_carried_out = go (is_echo (datagram (datagram_in4 p)))
    where
      go : (echo : Bool) → carry_out (cond echo (echo_plan4 r p) (g_pdu_plan4 r p)) p
          ≡ outcome (cond echo (decide_echo4 r p) (decide_g_pdu4 r p))
      go true = ap (λ (x : List ℕ). unless (rows_echo4 p) (Sent x)) (all_head (echo_reply4 r p) p)
      go false = ap (λ (x : List ℕ). unless (rows_d4 r p) (Sent x)) g_pdu4_sent

  pub echo4_carried_out : is_echo (datagram (datagram_in4 p)) ≡ true → carry_out (echo_plan4 r p) p ≡ at_d4 r p
  unfolding d4_plan
  echo4_carried_out t =
      let is : d4_plan r p ≡ echo_plan4 r p = rw t in
      sym (ap (λ (plan : Plan). carry_out plan p) is) ∙ d4_carried_out

  pub g_pdu4_carried_out : is_echo (datagram (datagram_in4 p)) ≡ false → carry_out (g_pdu_plan4 r p) p ≡ at_d4 r p
  unfolding d4_plan
  g_pdu4_carried_out t =
      let is : d4_plan r p ≡ g_pdu_plan4 r p = rw t in
      sym (ap (λ (plan : Plan). carry_out plan p) is) ∙ d4_carried_out

-- THE WAYPOINT

splice-append : (a b : List ℕ) (i : ℕ) (x : List ℕ) → i + length x ≤ length a → splice (a ++ b) i x ≡ splice a i x ++ b
unfolding splice
splice-append a b i x h =
    (λ j. take-append-le i a b (omega arith) j ++ x ++ drop-append-le (i + length x) a b h j)
    ∙ sym (append_assoc (take i a ++ x) (drop (i + length x) a) b)

-- the front with another routing state, and what follows it
pub routed_front : (p : List ℕ) (s : Routing) → 48 ≤ length p → length s.destination ≡ 16 → sent_by (with_routing (window p 0 48) s) 48 p
    ≡ with_routing p s
unfolding with_routing
routed_front p s hp hd =
    let f = window p 0 48 in
    let r = drop 48 p in
    let hops = s.hopLimit ∷ [] in
    let left = s.segmentsLeft ∷ [] in
    let lf : length f ≡ 48 = window-length p 0 48 in
    let f₁ = splice f 7 hops in
    let l₁ : length f₁ ≡ length f = splice-length f 7 hops 1 refl (omega arith) in
    let f₂ = splice f₁ 24 s.destination in
    let l₂ : length f₂ ≡ length f₁ = splice-length f₁ 24 s.destination 16 hd (omega arith) in
    let w : f ++ r ≡ p = ap (λ (l : List ℕ). l ++ r) (window-take p 48 (omega arith)) ∙ take-append-drop 48 p in
    let e : f₂ ++ r ≡ splice (splice (f ++ r) 7 hops) 24 s.destination =
    sym (splice-append f₁ r 24 s.destination (omega arith)) ∙ ap (λ (l : List ℕ). splice l 24 s.destination) (sym (splice-append f r
    7 hops (omega arith))) in
    sym (splice-append f₂ r 43 left (omega arith))
    ∙ ap (λ (l : List ℕ). splice l 43 left) e
    ∙ ap (λ (l : List ℕ). splice (splice (splice l 7 hops) 24 s.destination) 43 left) w

-- a waypoint's rows pass only where there are 48 octets
pub passes_long : (p : List ℕ) → verdict (waypoint_rows (header p)) ≡ Ok tt → 48 ≤ length p
unfolding waypoint_rows step_rows header
passes_long p e =
    let h = header p in
    let n = pass_none (waypoint_rows h) e in
    let u : has_srh h ≡ true = and_left (has_srh h) (ltb 0 h.segmentsLeft) (not-false (underway h.segmentsLeft h) n.1.1.1.0.0) in
    let g : Clear (given (has_srh h) (bad_srh h)) = n.0.1.1.1 in
    let c = rw u at g in
    ltb-false (length p) 48 c.0

pub waypoint_carried_out : (p : List ℕ) → carry_out (waypoint_plan p) p ≡ at_waypoint p
unfolding at_waypoint waypoint_plan forwarded segment
waypoint_carried_out p = go (verdict (waypoint_rows (header p))) refl
  where
    next : Routing
    next = step (routing p) (Srh.segment p (Srh.segments_left p - 1))

    go : (v : Verdict) → verdict (waypoint_rows (header p)) ≡ v → carry_out (waypoint_plan p) p ≡ at_waypoint p
    go (Ok tt) e = ap (λ (x : List ℕ). unless (waypoint_rows (header p)) (Sent x)) (routed_front p next (passes_long p e) (window-length p
        (48 + 16 * (Srh.segments_left p - 1)) 16))
    go (Err r) e =
        let f : (o : Outcome) → unless (waypoint_rows (header p)) o ≡ Refused r = λ o. ap (λ (v : Verdict). after v o) e in
        f _ ∙ sym (f _)
