-- Reading back the UDP datagram with a G-PDU that E6 and E4 write.
use mathlib.Core.Path.{◌≡◌, refl, sym, ap, ◌∙◌}
use mathlib.Core.Bool.{Bool, true, false, cond}
use mathlib.Core.List.{List, ◌∷◌}
use Prim.Native.Nat.{ℕ, ◌+◌, ◌*◌, ◌/◌, ◌%◌, ◌<◌}
use native.Mathlib.Omega.{arith}
use lib.Dec.{eqb}
use lib.ListN.{length, drop, get_or}
use lib.Seq.{get_or-drop}
use Rattle.rules.specs.Octets.{octet, window}
use Rattle.rules.specs.Assigned.{downlink, pdu_session_container, gtpu_port, g_pdu}
use Rattle.rules.specs.Args.{Args}
use Rattle.rules.specs.Gtpu as Gtpu
use Rattle.rules.specs.Gtpu.{datagram_octets, flow_octet, gtpu_flags}
use Rattle.rules.specs.Datagram.{datagram}
use Rattle.rules.specs.Carried.{Carried, carried_by}
use Rattle.rules.proofs.Windows.{drop_past, window_front, window-length}
use Rattle.rules.proofs.Sids.{Fits}
use Rattle.rules.proofs.FarE6.{datagram-length}

-- QFI and R in the second content octet of a container; in uplink R is 0
flow_back : (down : Bool) (q r : ℕ) → q < 64 → r < 2 → cond down 0 r ≡ 0 → ((cond down (r * 64) 0 + q) % 64 ≡ q)
    × (cond down ((cond down (r * 64) 0 + q) / 64 % 2) 0 ≡ r)
flow_back true q r hq hr h = omega arith
flow_back false q r hq hr h = omega arith

module _ (port direction k : ℕ) (x : Args) (inner : List ℕ) (f : Fits x) where
  -- what follows the TEID
  pub message-octet : (i : ℕ) → octet (datagram_octets port direction k x inner) (16 + i)
      ≡ octet (0 ∷ 0 ∷ 0 ∷ pdu_session_container ∷ 1 ∷ (direction * 16) ∷ flow_octet direction x.qfi x.reflective ∷ 0 ∷ inner) i
  message-octet i =
      let u = datagram_octets port direction k x inner in
      sym (get_or-drop 16 u i 0) ∙ ap (λ (l : List ℕ). get_or l i 0) (drop_past x.teid _ 4 0 f.tunnel)

  pub message-teid : Gtpu.teid (datagram_octets port direction k x inner) ≡ x.teid
  unfolding window
  message-teid =
      window_front x.teid (0 ∷ 0 ∷ 0 ∷ pdu_session_container ∷ 1 ∷ (direction * 16) ∷ flow_octet direction x.qfi
      x.reflective ∷ 0 ∷ inner) 4 f.tunnel

  pub message-pdu_type : Gtpu.pdu_type (datagram_octets port direction k x inner) ≡ direction
  message-pdu_type = rw (message-octet 5) (omega arith)

  pub message_following : Gtpu.following_type (datagram_octets port direction k x inner) ≡ 0
  message_following = ap (λ (n : ℕ). octet (datagram_octets port direction k x inner) (19 + 4 * n)) (message-octet 4) ∙ message-octet 7

  pub message-inner : Gtpu.inner_of (datagram_octets port direction k x inner) ≡ inner
  message-inner = ap (λ (n : ℕ). drop (20 + 4 * n) (datagram_octets port direction k x inner)) (message-octet 4)
      ∙ drop_past x.teid _ 4 8 f.tunnel

  pub datagram_back : datagram (datagram_octets port direction k x inner) ≡ record {
    size = 24 + length inner;
    destinationPort = gtpu_port;
    length = 24 + length inner;
    flags = gtpu_flags;
    messageType = g_pdu;
    messageLength = 8 + length inner;
    teid = x.teid;
    extensionType = pdu_session_container;
    extensionUnits = 1;
    pduType = direction;
    followingType = 0;
  }
  unfolding datagram
  datagram_back =
      let a : (24 + length inner) / 256 * 256 + (24 + length inner) % 256 ≡ 24 + length inner = omega arith in
      let b : (8 + length inner) / 256 * 256 + (8 + length inner) % 256 ≡ 8 + length inner = omega arith in
      λ i. record {
        size = datagram-length port direction k x inner f i;
        destinationPort = gtpu_port;
        length = a i;
        flags = gtpu_flags;
        messageType = g_pdu;
        messageLength = b i;
        teid = message-teid i;
        extensionType = message-octet 3 i;
        extensionUnits = message-octet 4 i;
        pduType = message-pdu_type i;
        followingType = message_following i;
      }

  module _ (quiet : cond (eqb direction downlink) 0 x.reflective ≡ 0) where
    pub message-qfi : Gtpu.qfi (datagram_octets port direction k x inner) ≡ x.qfi
    message-qfi = ap (λ (n : ℕ). n % 64) (message-octet 6)
        ∙ (flow_back (eqb direction downlink) x.qfi x.reflective f.flow f.bit quiet).0

    pub message-reflective : Gtpu.reflective (datagram_octets port direction k x inner) ≡ x.reflective
    message-reflective =
        ap (λ (n : ℕ). cond (eqb n downlink) (Gtpu.reflective_bit (datagram_octets port direction k x inner)) 0) message-pdu_type
        ∙ ap (λ (n : ℕ). cond (eqb direction downlink) (n / 64 % 2) 0) (message-octet 6)
        ∙ (flow_back (eqb direction downlink) x.qfi x.reflective f.flow f.bit quiet).1

-- the values that were written are those read
pub carried_by_back : (port direction k : ℕ) (c : Carried) → Fits c.args → cond (eqb direction downlink) 0 c.args.reflective ≡ 0
    → carried_by c.trafficClass c.source c.destination (datagram_octets port direction k c.args c.inner) ≡ c
unfolding carried_by
carried_by_back port direction k c f quiet = λ i. record {
  trafficClass = c.trafficClass;
  source = c.source;
  destination = c.destination;
  args = record {
    qfi = message-qfi port direction k c.args c.inner f quiet i;
    reflective = message-reflective port direction k c.args c.inner f quiet i;
    teid = message-teid port direction k c.args c.inner f i;
  };
  inner = message-inner port direction k c.args c.inner f i;
}

-- VALUES THAT WERE READ

module _ (class : ℕ) (source destination u : List ℕ) where
  bit_of : (b : Bool) (n : ℕ) → cond b (n % 2) 0 < 2
  bit_of true n = omega arith
  bit_of false n = omega arith

  pub carried_by-fits : Fits (carried_by class source destination u).args
  unfolding carried_by
  carried_by-fits = record {
    flow = omega arith;
    bit = bit_of (eqb (Gtpu.pdu_type u) downlink) (octet u 22 / 64);
    tunnel = window-length u 12 4;
  }

  silent : (down : Bool) (n : ℕ) → cond down 0 (cond down n 0) ≡ 0
  silent true n = refl
  silent false n = refl

  -- in uplink R is 0
  pub carried_by_quiet : (direction : ℕ) → Gtpu.pdu_type u ≡ direction
      → cond (eqb direction downlink) 0 (carried_by class source destination u).args.reflective ≡ 0
  unfolding carried_by
  carried_by_quiet direction h = rw (← h) (silent (eqb (Gtpu.pdu_type u) downlink) (Gtpu.reflective_bit u))
