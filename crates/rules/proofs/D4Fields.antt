-- The fields of what D4 writes: the addresses that a rule builds, and a packet with an SRH or without.
use mathlib.Core.Path.{◌≡◌, refl, sym, ap, ◌∙◌}
use mathlib.Core.List.{List, [], ◌∷◌, ◌++◌}
use Prim.Native.Nat.{ℕ, zero, suc, ◌+◌, ◌-◌, ◌/◌, ◌%◌, ◌≤◌, ◌<◌}
use native.Mathlib.Omega.{arith}
use lib.ListN.{length, take, replicate}
use lib.Seq.{length-take-le}
use Rattle.rules.specs.Octets.{octet, window}
use Rattle.rules.specs.Rule as Rule
use Rattle.rules.specs.Args.{with_args}
use Rattle.rules.specs.Ipv6.{ipv6}
use Rattle.rules.specs.Srh as Srh
use Rattle.rules.specs.Srv6.{srv6, past_waypoints}
use Rattle.rules.specs.Session.{inner_protocol}
use Rattle.rules.specs.Carried.{Carried}
use Rattle.rules.specs.E4.{start_behind}
use Rattle.rules.specs.D4.{address_behind, d4_sid, d4_source, d4_packet}
use Rattle.rules.specs.Written.{SidBuilt, SourceBuilt, WrittenD4}
use Rattle.rules.proofs.Windows.{octet-past, window-length, window_front, window-take}
use Rattle.rules.proofs.Reading.{ipv6-drop, ipv6-source, ipv6-destination}
use Rattle.rules.proofs.Sids.{with_args_before}
use Rattle.rules.proofs.FarE6.{Valid}
use Rattle.rules.proofs.FarE4.{behind-length, sid_length, source-length, sid_address, sid_args, source-address}
use Rattle.rules.proofs.Paths.{addresses_at-length}
use Rattle.rules.proofs.Fields.{ipv6_fields}
use Rattle.rules.proofs.PathFields.{session-header, path_length, path_addresses, path_at, path_sid, Along, along, with_args-other}
use Rattle.rules.proofs.PathFields.{with_args-unused}

-- THE ADDRESSES

octet-zeros : (n i : ℕ) → octet (replicate n 0) i ≡ 0
octet-zeros zero i = refl
octet-zeros (suc n) zero = refl
octet-zeros (suc n) (suc i) = octet-zeros n i

-- n octets of a prefix, an IPv4 address, zeros
module _ (prefix : List ℕ) (n : ℕ) (address : List ℕ) (hp : length prefix ≡ 16) (hn : n ≤ 12) (ha : length address ≡ 4) where
  front_length : length (take n prefix) ≡ n
  front_length = length-take-le n prefix (omega arith)

  behind-prefix : window (address_behind prefix n address) 0 n ≡ window prefix 0 n
  behind-prefix = window_front (take n prefix) (address ++ replicate (12 - n) 0) n front_length ∙ sym (window-take prefix n (omega arith))

  behind-zeros : (i : ℕ) → n + 4 ≤ i → octet (address_behind prefix n address) i ≡ 0
  behind-zeros i h =
      let z : List ℕ = replicate (12 - n) 0 in
      let e : i ≡ n + (4 + (i - (n + 4))) = omega arith in
      ap (octet (take n prefix ++ (address ++ z))) e
      ∙ octet-past (take n prefix) (address ++ z) n (4 + (i - (n + 4))) front_length
      ∙ octet-past address z 4 (i - (n + 4)) ha
      ∙ octet-zeros (12 - n) (i - (n + 4))

-- the two addresses that a rule builds
module _ (r : List ℕ) (c : Carried) (v : Valid 4 c) (hs : length c.source ≡ 4) (hp : Rule.p r ≤ 7) (hq : Rule.q r ≤ 12) where
  source_built : SourceBuilt (d4_source r c) r c
  unfolding d4_source
  source_built = record {
    prefix = behind-prefix (Rule.source_prefix r) (Rule.q r) c.source (window-length r 32 16) hq hs;
    source = source-address r c v hs hp hq;
    padding = behind-zeros (Rule.source_prefix r) (Rule.q r) c.source (window-length r 32 16) hq hs;
  }

  sid_built : SidBuilt (d4_sid r c) r c
  unfolding d4_sid
  sid_built =
      let h : length (Rule.sid_prefix r) ≡ 16 = window-length r 16 16 in
      let h12 : Rule.p r ≤ 12 = omega arith in
      let base = address_behind (Rule.sid_prefix r) (Rule.p r) c.destination in
      let start = start_behind (Rule.p r) in
      let hb : start ≤ 88 = omega arith in
      let e : start / 8 ≡ Rule.p r + 4 = omega arith in
      let lb = behind-length (Rule.sid_prefix r) (Rule.p r) c.destination h h12 v.to in
      record {
        prefix = with_args_before base start c.args lb hb v.args 0 (Rule.p r) (omega arith)
            ∙ behind-prefix (Rule.sid_prefix r) (Rule.p r) c.destination h h12 v.to;
        destination = sid_address r c v hs hp hq;
        carries = sid_args r c v hs hp hq;
        unused = ap (λ (i : ℕ). octet (with_args base start c.args) i % 2) (sym e) ∙ with_args-unused base start c.args lb hb v.args;
        padding = λ i l. with_args-other base start c.args lb hb v.args i (λ m. omega arith)
            ∙ behind-zeros (Rule.sid_prefix r) (Rule.p r) c.destination h h12 v.to i (omega arith);
      }

-- WITH WAYPOINTS OR WITHOUT

past_some : (class upper hop : ℕ) (source : List ℕ) (ws : List (List ℕ)) (sid inner : List ℕ) → 0 < length ws
    → past_waypoints class upper hop source ws sid inner ≡ srv6 class upper hop source (ws ++ sid ∷ []) inner
past_some class upper hop source [] sid inner h = absurd (omega arith)
past_some class upper hop source (w ∷ ws) sid inner h = refl

past-none : (class upper hop : ℕ) (source : List ℕ) (ws : List (List ℕ)) (sid inner : List ℕ) → length ws ≡ 0
    → past_waypoints class upper hop source ws sid inner ≡ ipv6 class (length inner) upper hop source sid inner
past-none class upper hop source [] sid inner h = refl
past-none class upper hop source (w ∷ ws) sid inner h = absurd (omega arith)

pub d4_written : (r : List ℕ) (c : Carried) → Valid 4 c → length c.source ≡ 4 → Rule.p r ≤ 7 → Rule.q r ≤ 12
    → WrittenD4 r c (d4_packet r c)
unfolding d4_packet
d4_written r c v hs hp hq =
    let class = c.trafficClass in
    let upper = inner_protocol (Rule.session r) c.inner in
    let hop = Rule.hop_limit r in
    let from = d4_source r c in
    let sid = d4_sid r c in
    let n = Rule.waypoint_count r in
    let ws = Rule.waypoints r in
    let ln = addresses_at-length r 48 n in
    let lf = source-length r c v hs hp hq in
    let bf = source_built r c v hs hp hq in
    let lx = sid_length r c v hs hp hq in
    let bx = sid_built r c v hs hp hq in
    record {
      past = λ h.
          let a : Along (srv6 class upper hop from (ws ++ sid ∷ []) c.inner) class upper hop from (ws ++ sid ∷ []) c.inner (n + 1) n =
          along class upper hop from (ws ++ sid ∷ []) c.inner (n + 1) n v.octet lf (path_addresses r 48 n sid [] lx tt)
          (path_length r 48 n sid [] ∙ omega arith) refl in
          let z : 0 ≡ n - n = omega arith in
          let x : Srh.segment (srv6 class upper hop from (ws ++ sid ∷ []) c.inner) 0 ≡ sid =
          ap (Srh.segment (srv6 class upper hop from (ws ++ sid ∷ []) c.inner)) z ∙ a.segment n (omega arith)
          ∙ path_sid r 48 n sid [] in
          rw (past_some class upper hop from ws sid c.inner (rw ln h))
          (record {
            ipv6 = a.ipv6;
            nextHeader = a.nextHeader;
            source = rw a.source bf;
            first = a.destination ∙ path_at r 48 n sid [] 0 h;
            srh = a.srh;
            session = rw a.behind (session-header (Rule.session r) c.inner);
            waypoints = λ k l. a.segment k (omega arith) ∙ path_at r 48 n sid [] k l;
            sid = rw x bx;
          });
      plain = λ h.
          rw (past-none class upper hop from ws sid c.inner (ln ∙ h))
          (record {
            ipv6 = ipv6_fields class (length c.inner) upper hop from sid c.inner lf lx v.octet refl;
            session = session-header (Rule.session r) c.inner;
            source = rw (ipv6-source class (length c.inner) upper hop from sid c.inner lf lx) bf;
            sid = rw (ipv6-destination class (length c.inner) upper hop from sid c.inner lf lx) bx;
            behind = ipv6-drop class (length c.inner) upper hop from sid c.inner lf lx 0;
          });
    }
