-- The fields of what E6, E4 and a waypoint write.
use mathlib.Core.Path.{◌≡◌, refl, ap, ◌∙◌}
use mathlib.Core.Bool.{Bool, true, false, cond}
use mathlib.Core.List.{List, [], ◌∷◌, ◌++◌}
use Prim.Native.Nat.{ℕ, ◌+◌, ◌-◌, ◌*◌, ◌/◌, ◌%◌, ◌≤◌, ◌<◌}
use native.Mathlib.Omega.{arith}
use lib.Dec.{eqb}
use lib.ListN.{length, drop, length-append}
use Rattle.rules.specs.Octets.{octet, Octets, window, splice}
use Rattle.rules.specs.Assigned.{udp_protocol}
use Rattle.rules.specs.Entry as Entry
use Rattle.rules.specs.Args.{Args}
use Rattle.rules.specs.Ipv6 as Ipv6
use Rattle.rules.specs.Ipv6.{ipv6}
use Rattle.rules.specs.Ipv4.{ipv4}
use Rattle.rules.specs.Srh as Srh
use Rattle.rules.specs.Gtpu.{datagram_octets}
use Rattle.rules.specs.Carried.{Carried}
use Rattle.rules.specs.E6.{e6_packet, e6_payload, e6_checksum}
use Rattle.rules.specs.E4.{e4_packet, e4_total_length}
use Rattle.rules.specs.Waypoint.{with_routing, forwarded}
use Rattle.rules.specs.Written.{Ipv6Fields, Ipv4Fields, UdpFields, GtpuFields, WrittenE6, WrittenE4, WrittenWaypoint}
use Rattle.rules.proofs.Windows.{drop_past, window-length, window_same, window_front, window-past}
use Rattle.rules.proofs.Reading.{ipv6-length, ipv6-drop, ipv6-source, ipv6-destination}
use Rattle.rules.proofs.Sids.{Fits}
use Rattle.rules.proofs.FarE6.{Valid, datagram-length}
use Rattle.rules.proofs.E6Checksums.{AllOctets, e6_true}
use Rattle.rules.proofs.Messages.{message-octet, message-teid, message-pdu_type, message_following, message-inner}
use Rattle.rules.proofs.Checksums.{ipv4-sum}
use Rattle.rules.proofs.Splices.{splice-length, splice-window, splice-other}

-- AN IPV6 HEADER

pub ipv6_fields : (class payload next hop : ℕ) (s d rest : List ℕ) → length s ≡ 16 → length d ≡ 16 → class < 256 → length rest ≡ payload
    → Ipv6Fields (ipv6 class payload next hop s d rest) class payload hop
ipv6_fields class payload next hop s d rest hs hd hc hr = record {
  version = omega arith;
  trafficClass = omega arith;
  flow_label = omega arith;
  payloadLength = omega arith;
  hopLimit = refl;
  size = ipv6-length class payload next hop s d rest hs hd ∙ rw hr;
}

-- THE DATAGRAM OF E6 AND E4

-- QFI and the top bit of the second content octet; R does not reach them
flow_rest : (down : Bool) (q r : ℕ) → q < 64 → r < 2 → ((cond down (r * 64) 0 + q) % 64 ≡ q) × ((cond down (r * 64) 0 + q) / 128 ≡ 0)
flow_rest true q r hq hr = omega arith
flow_rest false q r hq hr = omega arith

module _ (port direction k : ℕ) (x : Args) (inner : List ℕ) (f : Fits x) where
  udp_fields : UdpFields (datagram_octets port direction k x inner) port (24 + length inner)
  udp_fields = record {
    source_port = omega arith;
    destinationPort = refl;
    udp_length = omega arith;
    size = datagram-length port direction k x inner f;
  }

  gtpu_fields : GtpuFields (datagram_octets port direction k x inner) direction x inner
  gtpu_fields =
      let o = message-octet port direction k x inner f in
      let (q, top) = flow_rest (eqb direction 0) x.qfi x.reflective f.flow f.bit in
      record {
        version = refl;
        protocol_type = refl;
        spare_bit = refl;
        extension_flag = refl;
        sequence_flag = refl;
        n_pdu_flag = refl;
        messageType = refl;
        messageLength = omega arith;
        teid = message-teid port direction k x inner f;
        sequence_number = rw (o 0, o 1);
        n_pdu_number = o 2;
        extensionType = o 3;
        extensionUnits = o 4;
        pduType = message-pdu_type port direction k x inner f;
        pdu_type_rest = rw (o 5) (omega arith);
        qfi = rw (o 6) q;
        in_downlink = λ h. rw (o 6, h) (omega (arith, f.flow, f.bit));
        in_uplink = λ h. rw (o 6, h) (omega (arith, f.flow));
        top_bit = rw (o 6) top;
        followingType = message_following port direction k x inner f;
        inner_octets = message-inner port direction k x inner f;
      }

-- E6

pub e6_written : (e : List ℕ) (c : Carried) → Valid 16 c → AllOctets c → Octets e → Entry.direction e < 2
    → 24 + length c.inner < 65536 → WrittenE6 e c (e6_packet e c)
unfolding e6_packet
e6_written e c v w oe hd hl =
    let class = c.trafficClass in
    let payload = e6_payload c.inner in
    let hop = Entry.hop_limit e in
    let port = Entry.source_port e in
    let direction = Entry.direction e in
    let k = e6_checksum e c.destination c.args c.inner in
    let u = datagram_octets port direction k c.args c.inner in
    let hs = window-length e 32 16 in
    let hu = datagram-length port direction k c.args c.inner v.args in
    let behind = ipv6-drop class payload udp_protocol hop (Entry.source e) c.destination u hs v.to 0 in
    let from = ipv6-source class payload udp_protocol hop (Entry.source e) c.destination u hs v.to in
    let to = ipv6-destination class payload udp_protocol hop (Entry.source e) c.destination u hs v.to in
    record {
      ipv6 = ipv6_fields class payload udp_protocol hop (Entry.source e) c.destination u hs v.to v.octet hu;
      nextHeader = refl;
      source = from;
      destination = to;
      udp = rw behind (udp_fields port direction k c.args c.inner v.args);
      checksum = rw (from, to, behind) (e6_true e c v w oe hd hl);
      gtpu = rw behind (gtpu_fields port direction k c.args c.inner v.args);
    }

-- E4

module _ (class total hop : ℕ) (s d rest : List ℕ) (hs : length s ≡ 4) (hd : length d ≡ 4) where
  pub ipv4-drop : drop 20 (ipv4 class total hop s d rest) ≡ rest
  ipv4-drop = drop_past s (d ++ rest) 4 4 hs ∙ drop_past d rest 4 0 hd

  pub ipv4_fields : class < 256 → total < 65536 → hop < 256 → Octets s → Octets d → 20 + length rest ≡ total
      → Ipv4Fields (ipv4 class total hop s d rest) class total hop s d
  unfolding window
  ipv4_fields hc ht hh os od hr = record {
    version = refl;
    headerLength = refl;
    tos = refl;
    totalLength = omega arith;
    identification = refl;
    reserved_bit = refl;
    dont_fragment = refl;
    moreFragments = refl;
    fragmentOffset = refl;
    ttl = refl;
    protocol = refl;
    headerSum = ipv4-sum class total hop s d rest hc ht hh hs hd os od;
    source = window_front s (d ++ rest) 4 hs;
    destination = window-past s (d ++ rest) 4 0 4 hs ∙ window_front d rest 4 hd;
    size = simp length-append (omega arith);
  }

pub e4_written : (e : List ℕ) (c : Carried) → Valid 4 c → length c.source ≡ 4 → Octets c.source → Octets c.destination
    → Entry.hop_limit e < 256 → 44 + length c.inner < 65536 → WrittenE4 e c (e4_packet e c)
unfolding e4_packet
e4_written e c v hs os od hh ht =
    let class = c.trafficClass in
    let total = e4_total_length c.inner in
    let hop = Entry.hop_limit e in
    let port = Entry.source_port e in
    let direction = Entry.direction e in
    let u = datagram_octets port direction 0 c.args c.inner in
    let hu = datagram-length port direction 0 c.args c.inner v.args in
    let behind = ipv4-drop class total hop c.source c.destination u hs v.to in
    record {
      ipv4 = ipv4_fields class total hop c.source c.destination u hs v.to v.octet ht hh os od (omega arith);
      udp = rw behind (udp_fields port direction 0 c.args c.inner v.args);
      checksum = rw behind refl;
      gtpu = rw behind (gtpu_fields port direction 0 c.args c.inner v.args);
    }

-- WAYPOINT

segment-length : (p : List ℕ) (i : ℕ) → length (Srh.segment p i) ≡ 16
unfolding Srh.segment
segment-length p i = window-length p (48 + 16 * i) 16

pub waypoint_written : (p : List ℕ) → 44 ≤ length p → WrittenWaypoint p (forwarded p)
unfolding forwarded with_routing window
waypoint_written p h =
    let hop = Ipv6.hop_limit p - 1 in
    let left = Srh.segments_left p - 1 in
    let d = Srh.segment p left in
    let a = splice p 7 (hop ∷ []) in
    let b = splice a 24 d in
    let q = splice b 43 (left ∷ []) in
    let ld = segment-length p left in
    let ha : 7 + 1 ≤ length p = omega arith in
    let la : length a ≡ length p = splice-length p 7 (hop ∷ []) 1 refl ha in
    let hb : 24 + 16 ≤ length a = omega arith in
    let lb : length b ≡ length a = splice-length a 24 d 16 ld hb in
    let hq : 43 + 1 ≤ length b = omega arith in
    let oa = splice-other p 7 (hop ∷ []) 1 refl ha in
    let ob = splice-other a 24 d 16 ld hb in
    let oq = splice-other b 43 (left ∷ []) 1 refl hq in
    record {
      size = splice-length b 43 (left ∷ []) 1 refl hq ∙ lb ∙ la;
      hopLimit = oq 7 (λ l. omega arith) ∙ ob 7 (λ l. omega arith)
          ∙ ap (λ (l : List ℕ). octet l 0) (splice-window p 7 (hop ∷ []) 1 refl ha);
      segmentsLeft = ap (λ (l : List ℕ). octet l 0) (splice-window b 43 (left ∷ []) 1 refl hq);
      destination = window_same q b 24 24 16 (λ k l. oq (24 + k) (λ m. omega arith)) ∙ splice-window a 24 d 16 ld hb;
      others = λ i n7 n24 n43. oq i (λ l. omega (arith, n43)) ∙ ob i n24 ∙ oa i (λ l. omega (arith, n7));
    }
