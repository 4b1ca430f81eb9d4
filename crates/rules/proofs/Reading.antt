-- Reading back an IPv6 header and what follows it.
use mathlib.Core.Path.{◌≡◌, refl, sym, ap, ◌∙◌}
use mathlib.Core.Bool.{cond}
use mathlib.Core.List.{List, [], ◌∷◌, ◌++◌}
use Prim.Native.Nat.{ℕ, suc, ◌+◌, ◌*◌, ◌/◌, ◌%◌, ◌<◌}
use native.Mathlib.Omega.{arith}
use lib.Dec.{eqb}
use lib.ListN.{length, drop, get_or, length-append}
use lib.Seq.{drop_at, drop-drop, get_or-drop}
use Rattle.rules.specs.Octets.{octet, window}
use Rattle.rules.specs.Assigned.{routing_header}
use Rattle.rules.specs.Ipv6 as Ipv6
use Rattle.rules.specs.Ipv6.{ipv6}
use Rattle.rules.specs.Srh.{segment, segments}
use Rattle.rules.specs.Header.{header}
use Rattle.rules.proofs.Windows.{drop_past, window-drop, window-past, window_front}

-- each is an address
abbrev pub Addresses : List (List ℕ) → Type 0
Addresses [] = Unit {0}
Addresses (s ∷ ss) = (length s ≡ 16) × Addresses ss

pub addresses-append : (xs ys : List (List ℕ)) → Addresses xs → Addresses ys → Addresses (xs ++ ys)
addresses-append [] ys h k = k
addresses-append (x ∷ xs) ys h k = (h.0, addresses-append xs ys h.1 k)

pub length-segments : (path : List (List ℕ)) (rest : List ℕ) → Addresses path → length (segments path rest) ≡ 16 * length path + length rest
length-segments [] rest h = omega arith
length-segments (s ∷ path) rest h = rw (length-segments path (s ++ rest) h.1, length-append s rest) (omega (arith, h.0))

-- past the segments of a path lies what follows them
pub drop-segments : (path : List (List ℕ)) (rest : List ℕ) → Addresses path → drop (16 * length path) (segments path rest) ≡ rest
drop-segments [] rest h = refl
drop-segments (s ∷ path) rest h =
    let e : 16 * suc (length path) ≡ 16 * length path + 16 = omega arith in
    rw (e, ← (drop-drop 16 (16 * length path) (segments path (s ++ rest))), drop-segments path (s ++ rest) h.1)
    (drop_at s rest 16 h.0)

pub segments-append : (xs ys : List (List ℕ)) (rest : List ℕ) → segments (xs ++ ys) rest ≡ segments ys (segments xs rest)
segments-append [] ys rest = refl
segments-append (x ∷ xs) ys rest = segments-append xs ys (x ++ rest)

-- What follows an IPv6 header, and the header's own fields.
module _ (class payload next hop : ℕ) (s d rest : List ℕ) (hs : length s ≡ 16) (hd : length d ≡ 16) where
  pub ipv6-length : length (ipv6 class payload next hop s d rest) ≡ 40 + length rest
  ipv6-length = simp length-append (omega arith)

  pub ipv6-drop : (i : ℕ) → drop (40 + i) (ipv6 class payload next hop s d rest) ≡ drop i rest
  ipv6-drop i = sym (drop-drop i 40 (ipv6 class payload next hop s d rest))
      ∙ ap (drop i) (drop_past s (d ++ rest) 16 16 hs ∙ drop_past d rest 16 0 hd)

  pub ipv6-octet : (i : ℕ) → octet (ipv6 class payload next hop s d rest) (40 + i) ≡ octet rest i
  ipv6-octet i = sym (get_or-drop 40 (ipv6 class payload next hop s d rest) i 0) ∙ ap (λ (l : List ℕ). get_or l i 0) (ipv6-drop 0)

  pub ipv6-source : Ipv6.source (ipv6 class payload next hop s d rest) ≡ s
  unfolding window
  ipv6-source = window_front s (d ++ rest) 16 hs

  pub ipv6-destination : Ipv6.destination (ipv6 class payload next hop s d rest) ≡ d
  unfolding window
  ipv6-destination = window-past s (d ++ rest) 16 0 16 hs ∙ window_front d rest 16 hd

  pub ipv6-window : (i n : ℕ) → window (ipv6 class payload next hop s d rest) (40 + i) n ≡ window rest i n
  ipv6-window i n = sym (window-drop (ipv6 class payload next hop s d rest) 40 i n) ∙ ap (λ (l : List ℕ). window l i n) (ipv6-drop 0)

  pub ipv6-segment : (i : ℕ) → segment (ipv6 class payload next hop s d rest) i ≡ window rest (8 + 16 * i) 16
  unfolding segment
  ipv6-segment i =
      let e : 48 + 16 * i ≡ 40 + (8 + 16 * i) = omega arith in
      rw (e, ipv6-window (8 + 16 * i) 16)

  pub ipv6-traffic_class : class < 256 → Ipv6.traffic_class (ipv6 class payload next hop s d rest) ≡ class
  ipv6-traffic_class h = omega arith

  pub ipv6-header : class < 256 → header (ipv6 class payload next hop s d rest) ≡ record {
    size = 40 + length rest;
    version = 6;
    trafficClass = class;
    payloadLength = payload;
    nextHeader = next;
    hopLimit = hop;
    units = octet rest 1;
    routingType = octet rest 2;
    segmentsLeft = octet rest 3;
    lastEntry = octet rest 4;
    upper = cond (eqb next routing_header) (octet rest 0) next;
    upperAt = cond (eqb next routing_header) (48 + 8 * octet rest 1) 40;
  }
  unfolding header
  ipv6-header h =
      let v : (96 + class / 16) / 16 ≡ 6 = omega arith in
      let l : payload / 256 * 256 + payload % 256 ≡ payload = omega arith in
      λ i. record {
        size = ipv6-length i;
        version = v i;
        trafficClass = ipv6-traffic_class h i;
        payloadLength = l i;
        nextHeader = next;
        hopLimit = hop;
        units = ipv6-octet 1 i;
        routingType = ipv6-octet 2 i;
        segmentsLeft = ipv6-octet 3 i;
        lastEntry = ipv6-octet 4 i;
        upper = cond (eqb next routing_header) (ipv6-octet 0 i) next;
        upperAt = cond (eqb next routing_header) (48 + 8 * ipv6-octet 1 i) 40;
      }
