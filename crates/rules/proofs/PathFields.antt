-- The fields of what D and Di write: a path of SIDs in the SRH, the last of the policy's with Args.
use mathlib.Core.Path.{◌≡◌, refl, sym, ap, ◌∙◌}
use mathlib.Core.List.{List, [], ◌∷◌, ◌++◌}
use Prim.Native.Nat.{ℕ, zero, suc, ◌+◌, ◌-◌, ◌*◌, ◌/◌, ◌%◌, ◌≤◌, ◌<◌}
use native.Mathlib.Nat.{add-zero}
use native.Mathlib.Omega.{arith}
use lib.ListN.{length, take, drop, get_or, length-append, length-drop, get_or-append}
use lib.Seq.{split_at, drop-drop, get_or_at, get_or-append-add, length-take-le}
use Rattle.rules.specs.Octets.{octet, window, splice}
use Rattle.rules.specs.Assigned.{routing_header}
use Rattle.rules.specs.Table.{addresses_at}
use Rattle.rules.specs.Entry as Entry
use Rattle.rules.specs.Policy as Policy
use Rattle.rules.specs.Args.{Args, first_octet, args_octets, with_args}
use Rattle.rules.specs.Ipv6 as Ipv6
use Rattle.rules.specs.Ipv6.{ipv6}
use Rattle.rules.specs.Srh as Srh
use Rattle.rules.specs.Srh.{segments, srh}
use Rattle.rules.specs.Srv6.{srv6, srv6_payload}
use Rattle.rules.specs.Session.{inner_protocol}
use Rattle.rules.specs.Carried.{Carried}
use Rattle.rules.specs.Gtp6D.{gtp6d_packet}
use Rattle.rules.specs.D.{last_with_args, d_path, d_packet}
use Rattle.rules.specs.Di.{di_path, di_packet}
use Rattle.rules.specs.Written.{Ipv6Fields, SrhFields, SessionHeader, sid_of, WithArgs, WrittenD, WrittenDi}
use Rattle.rules.proofs.Windows.{window-length, window_same, window-drop}
use Rattle.rules.proofs.Reading.{Addresses, addresses-append, length-segments, drop-segments, ipv6-drop, ipv6-octet, ipv6-source}
use Rattle.rules.proofs.Reading.{ipv6-destination, ipv6-segment}
use Rattle.rules.proofs.Waypoints.{segment-behind}
use Rattle.rules.proofs.Sids.{Fits, with_args-length, with_args_back, with_args_before}
use Rattle.rules.proofs.FarE6.{Valid}
use Rattle.rules.proofs.Paths.{addresses_at-addresses, addresses_at-length}
use Rattle.rules.proofs.Splices.{splice_parts, splice-other}
use Rattle.rules.proofs.Fields.{ipv6_fields}

-- NEXT HEADER

pub session-header : (session : ℕ) (inner : List ℕ) → SessionHeader session (inner_protocol session inner) inner
unfolding inner_protocol
session-header session inner = record {
  ipv4 = λ h. rw h;
  ipv6 = λ h. rw h;
  ethernet = λ h. rw h;
  nibble4 = λ h k. rw (h, k);
  nibble6 = λ h k. rw (h, k);
}

-- A PATH

addresses_at_lem : (path : List (List ℕ)) (k : ℕ) → Addresses path → k < length path → length (get_or path k []) ≡ 16
addresses_at_lem [] k a h = absurd (omega arith)
addresses_at_lem (x ∷ path) zero a h = a.0
addresses_at_lem (x ∷ path) (suc k) a h = addresses_at_lem path k a.1 (omega arith)

addresses-drop : (n : ℕ) (path : List (List ℕ)) → Addresses path → Addresses (drop n path)
addresses-drop zero path a = a
addresses-drop (suc n) [] a = a
addresses-drop (suc n) (x ∷ path) a = addresses-drop n path a.1

-- place k of a path is held so many segments from the last
segments_at : (path : List (List ℕ)) (inner : List ℕ) (k : ℕ) → Addresses path → k < length path
    → window (segments path inner) (16 * (length path - 1 - k)) 16 ≡ get_or path k []
segments_at path inner k a h =
    let x = get_or path k [] in
    let rest = drop (suc k) path in
    let e : 16 * (length path - 1 - k) ≡ 16 * length rest = rw (length-drop (suc k) path) (omega arith) in
    (λ j. window (segments (split_at path k [] h j) inner) (e j) 16)
    ∙ segment-behind (take k path) x rest inner (addresses_at_lem path k a h) (addresses-drop (suc k) path a)

pub addresses_at_at : (s : List ℕ) (i n k : ℕ) → k < n → get_or (addresses_at s i n) k [] ≡ window s (i + 16 * k) 16
unfolding addresses_at
addresses_at_at s i zero k h = absurd (omega arith)
addresses_at_at s i (suc n) zero h = ap (λ (j : ℕ). window s j 16) (sym (add-zero i))
addresses_at_at s i (suc n) (suc k) h = addresses_at_at s (i + 16) n k (omega arith) ∙ ap (λ (j : ℕ). window s j 16) (further i k)
  where
    further : (i k : ℕ) → i + 16 + 16 * k ≡ i + 16 * suc k
    further i k = omega arith

-- addresses of a record, then a SID and others
module _ (s : List ℕ) (at n : ℕ) (x : List ℕ) (tail : List (List ℕ)) where
  pub path_length : length (addresses_at s at n ++ x ∷ tail) ≡ n + 1 + length tail
  path_length = rw (length-append (addresses_at s at n) (x ∷ tail), addresses_at-length s at n) (omega arith)

  pub path_addresses : length x ≡ 16 → Addresses tail → Addresses (addresses_at s at n ++ x ∷ tail)
  path_addresses hx ht = addresses-append (addresses_at s at n) (x ∷ tail) (addresses_at-addresses s at n) (hx, ht)

  pub path_at : (k : ℕ) → k < n → get_or (addresses_at s at n ++ x ∷ tail) k [] ≡ window s (at + 16 * k) 16
  path_at k h = get_or-append (addresses_at s at n) (x ∷ tail) [] k (rw (addresses_at-length s at n) h) ∙ addresses_at_at s at n k h

  pub path_sid : get_or (addresses_at s at n ++ x ∷ tail) n [] ≡ x
  path_sid = get_or_at (addresses_at s at n) x tail [] n (addresses_at-length s at n)

  pub path_tail : (j : ℕ) → get_or (addresses_at s at n ++ x ∷ tail) (n + suc j) [] ≡ get_or tail j []
  path_tail j =
      ap (λ (m : ℕ). get_or (addresses_at s at n ++ x ∷ tail) (m + suc j) []) (sym (addresses_at-length s at n))
      ∙ get_or-append-add (addresses_at s at n) (x ∷ tail) (suc j) []

-- AN SRV6 PACKET ALONG A PATH

-- of n segments, SL = LE = last
pub record Along (p : List ℕ) (class upper hop : ℕ) (from : List ℕ) (path : List (List ℕ)) (inner : List ℕ) (n last : ℕ) : Type 0 where
  pub ipv6 : Ipv6Fields p class (8 + 16 * n + length inner) hop
  pub nextHeader : Ipv6.next_header p ≡ routing_header
  pub source : Ipv6.source p ≡ from
  pub destination : Ipv6.destination p ≡ get_or path 0 []
  pub srh : SrhFields p last inner
  pub behind : Srh.next_header p ≡ upper
  pub segment : (k : ℕ) → k ≤ last → Srh.segment p (last - k) ≡ get_or path k []

pub along : (class upper hop : ℕ) (source : List ℕ) (path : List (List ℕ)) (inner : List ℕ) (n last : ℕ)
    → class < 256 → length source ≡ 16 → Addresses path → length path ≡ n → n ≡ last + 1
    → Along (srv6 class upper hop source path inner) class upper hop source path inner n last
along class upper hop source path inner n last hc hs hp hn hl =
    let first = get_or path 0 [] in
    let hf : length first ≡ 16 = addresses_at_lem path 0 hp (omega arith) in
    let r = srh upper (length path - 1) path inner in
    let m = srv6_payload path inner in
    let p = srv6 class upper hop source path inner in
    let o = ipv6-octet class m routing_header hop source first r hs hf in
    let e : 48 + 16 * (last + 1) ≡ 40 + (8 + 16 * length path) = omega arith in
    let l : length path - 1 ≡ last = omega arith in
    record {
      ipv6 = rw (← hn) (ipv6_fields class m routing_header hop source first r hs hf hc (rw (length-segments path inner hp) (omega arith)));
      nextHeader = refl;
      source = ipv6-source class m routing_header hop source first r hs hf;
      destination = ipv6-destination class m routing_header hop source first r hs hf;
      srh = record {
        units = o 1 ∙ omega arith;
        routingType = o 2;
        segmentsLeft = o 3 ∙ l;
        lastEntry = o 4 ∙ l;
        flags = o 5;
        tag = rw (o 6, o 7);
        behind =
            ap (λ (i : ℕ). drop i p) e ∙ ipv6-drop class m routing_header hop source first r hs hf (8 + 16 * length path)
            ∙ sym (drop-drop (16 * length path) 8 r) ∙ drop-segments path inner hp;
      };
      behind = o 0;
      segment = λ k h.
          let d : last - k ≡ length path - 1 - k = omega arith in
          ipv6-segment class m routing_header hop source first r hs hf (last - k)
          ∙ sym (window-drop r 8 (16 * (last - k)) 16)
          ∙ ap (λ (i : ℕ). window (segments path inner) (16 * i) 16) d
          ∙ segments_at path inner k hp (omega arith);
    }

-- ARGS IN A SID

module _ (sid : List ℕ) (start : ℕ) (x : Args) (hs : length sid ≡ 16) (hb : start ≤ 88) (f : Fits x) where
  with_args-splice : with_args sid start x ≡ splice sid (start / 8) (args_octets x)
  unfolding with_args
  with_args-splice =
      let e : take (start / 8) sid ++ (args_octets x ++ drop (start / 8 + length (args_octets x)) sid) ≡ with_args sid start x =
      rw f.tunnel in
      sym (splice_parts sid (start / 8) (args_octets x) ∙ e)

  pub with_args-other : (i : ℕ) → (start / 8 ≤ i → start / 8 + 5 ≤ i) → octet (with_args sid start x) i ≡ octet sid i
  with_args-other i h = rw with_args-splice (splice-other sid (start / 8) (args_octets x) 5 (ap suc f.tunnel) (omega arith) i h)

  pub with_args-unused : octet (with_args sid start x) (start / 8) % 2 ≡ 0
  unfolding with_args
  with_args-unused =
      rw (get_or_at (take (start / 8) sid) (first_octet x.qfi x.reflective) (x.teid ++ drop (start / 8 + 5) sid) 0 (start / 8)
      (length-take-le (start / 8) sid (omega arith)))
      (omega arith)

  pub with_args_fields : WithArgs (with_args sid start x) start x sid
  with_args_fields = record {
    carries = with_args_back sid start x hs hb f;
    unused = with_args-unused;
    before = with_args_before sid start x hs hb f 0 (start / 8) (omega arith);
    after = window_same (with_args sid start x) sid (start / 8 + 5) (start / 8 + 5) (11 - start / 8)
        (λ k l. with_args-other (start / 8 + 5 + k) (λ m. omega arith));
  }

-- D AND DI

-- along a policy's SIDs, the last of them with Args, and a tail
module _ (e y : List ℕ) (c : Carried) (v : Valid 16 c) (hn : 1 ≤ Policy.sid_count y) (hb : Policy.start y ≤ 88) where
  last_fields : WithArgs (last_with_args y c.args) (Policy.start y) c.args (Policy.last_sid y)
  last_fields = with_args_fields (Policy.last_sid y) (Policy.start y) c.args (window-length y (16 + 16 * (Policy.sid_count y - 1)) 16) hb
      v.args

  last_length : length (last_with_args y c.args) ≡ 16
  last_length = with_args-length (Policy.last_sid y) (Policy.start y) c.args (window-length y (16 + 16 * (Policy.sid_count y - 1)) 16) hb
      v.args

  module _ (tail : List (List ℕ)) (ht : Addresses tail) (n last : ℕ) (hl : n ≡ last + 1) (hm : n ≡ Policy.sid_count y + length tail) where
    packet : List ℕ
    packet = gtp6d_packet e (Policy.waypoints y ++ last_with_args y c.args ∷ tail) c

    policy_along : Along packet c.trafficClass (inner_protocol (Entry.session e) c.inner) (Entry.hop_limit e) (Entry.source e)
        (Policy.waypoints y ++ last_with_args y c.args ∷ tail) c.inner n last
    unfolding packet gtp6d_packet
    policy_along =
        let w = last_with_args y c.args in
        let m = Policy.sid_count y - 1 in
        along c.trafficClass (inner_protocol (Entry.session e) c.inner) (Entry.hop_limit e) (Entry.source e)
        (Policy.waypoints y ++ w ∷ tail) c.inner n last
        v.octet (window-length e 32 16) (path_addresses y 16 m w tail last_length ht) (path_length y 16 m w tail ∙ omega arith) hl

    policy-session : SessionHeader (Entry.session e) (Srh.next_header packet) c.inner
    policy-session = rw policy_along.behind (session-header (Entry.session e) c.inner)

    policy-first : 1 < Policy.sid_count y → Ipv6.destination packet ≡ sid_of y 0
    policy-first h = policy_along.destination ∙ path_at y 16 (Policy.sid_count y - 1) (last_with_args y c.args) tail 0 (omega arith)

    policy_only : Policy.sid_count y ≡ 1 → WithArgs (Ipv6.destination packet) (Policy.start y) c.args (Policy.last_sid y)
    policy_only h =
        let z : 0 ≡ Policy.sid_count y - 1 = omega arith in
        let d : Ipv6.destination packet ≡ last_with_args y c.args =
        policy_along.destination
        ∙ ap (λ (k : ℕ). get_or (Policy.waypoints y ++ last_with_args y c.args ∷ tail) k []) z
        ∙ path_sid y 16 (Policy.sid_count y - 1) (last_with_args y c.args) tail in
        rw d last_fields

    policy_sids : (k : ℕ) → k < Policy.sid_count y - 1 → Srh.segment packet (last - k) ≡ sid_of y k
    policy_sids k h = policy_along.segment k (omega arith) ∙ path_at y 16 (Policy.sid_count y - 1) (last_with_args y c.args) tail k h

    policy_last : WithArgs (Srh.segment packet (length tail)) (Policy.start y) c.args (Policy.last_sid y)
    policy_last =
        let m : length tail ≡ last - (Policy.sid_count y - 1) = omega arith in
        let d : Srh.segment packet (length tail) ≡ last_with_args y c.args =
        ap (Srh.segment packet) m ∙ policy_along.segment (Policy.sid_count y - 1) (omega arith)
        ∙ path_sid y 16 (Policy.sid_count y - 1) (last_with_args y c.args) tail in
        rw d last_fields

  pub d_written : WrittenD e y c (d_packet e y c)
  unfolding d_packet d_path packet
  d_written =
      let n = Policy.sid_count y in
      let hl : n ≡ n - 1 + 1 = omega arith in
      let hm : n ≡ n + 0 = omega arith in
      let a = policy_along [] tt n (n - 1) hl hm in
      record {
        ipv6 = a.ipv6;
        nextHeader = a.nextHeader;
        source = a.source;
        first = policy-first [] tt n (n - 1) hl hm;
        only = policy_only [] tt n (n - 1) hl hm;
        srh = a.srh;
        session = policy-session [] tt n (n - 1) hl hm;
        sids = policy_sids [] tt n (n - 1) hl hm;
        last_sid = policy_last [] tt n (n - 1) hl hm;
      }

  pub di_written : WrittenDi e y c (di_packet e y c)
  unfolding di_packet di_path packet
  di_written =
      let n = Policy.sid_count y in
      let tail = c.destination ∷ [] in
      let ht : Addresses tail = (v.to, tt) in
      let a = policy_along tail ht (n + 1) n refl refl in
      let z : 0 ≡ n - n = omega arith in
      let l : n ≡ n - 1 + 1 = omega arith in
      record {
        ipv6 = a.ipv6;
        nextHeader = a.nextHeader;
        source = a.source;
        first = policy-first tail ht (n + 1) n refl refl;
        only = policy_only tail ht (n + 1) n refl refl;
        srh = a.srh;
        session = policy-session tail ht (n + 1) n refl refl;
        sids = policy_sids tail ht (n + 1) n refl refl;
        last_sid = policy_last tail ht (n + 1) n refl refl;
        arriving =
            ap (Srh.segment (di_packet e y c)) z ∙ a.segment n (omega arith)
            ∙ ap (λ (k : ℕ). get_or (Policy.waypoints y ++ last_with_args y c.args ∷ tail) k []) l
            ∙ path_tail y 16 (n - 1) (last_with_args y c.args) tail 0;
      }
