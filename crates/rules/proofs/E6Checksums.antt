-- The checksum that E6 writes: it is the true one, and D and Di pass it.
use mathlib.Core.Path.{◌≡◌}
use mathlib.Core.Bool.{Bool, true, false, cond}
use mathlib.Core.List.{List, [], ◌∷◌, ◌++◌}
use Prim.Native.Nat.{ℕ, ◌+◌, ◌*◌, ◌<◌}
use native.Mathlib.Omega.{arith}
use lib.Dec.{eqb}
use lib.ListN.{length, length-append}
use Rattle.rules.specs.Octets.{Octets, put16}
use Rattle.rules.specs.Assigned.{downlink, g_pdu, gtpu_port, pdu_session_container}
use Rattle.rules.specs.Entry as Entry
use Rattle.rules.specs.Ipv6 as Ipv6
use Rattle.rules.specs.Srh as Srh
use Rattle.rules.specs.Args.{Args, args_at}
use Rattle.rules.specs.Gtpu as Gtpu
use Rattle.rules.specs.Gtpu.{gtpu, gtpu_flags, flow_octet}
use Rattle.rules.specs.Sound.{direction_known}
use Rattle.rules.specs.UdpChecksum.{bad_checksum}
use Rattle.rules.specs.Carried.{Carried, carried_by, carried6, datagram_in6}
use Rattle.rules.specs.E6.{e6_carried, e6_datagram, e6_checksum}
use Rattle.rules.specs.Header.{header}
use Rattle.rules.specs.Written.{TrueChecksum}
use Rattle.rules.proofs.Windows.{window-length, octets-window, octets-drop}
use Rattle.rules.proofs.Conditions.{or_cases, holding}
use Rattle.rules.proofs.Checksums.{octets-append, octets-each}
use Rattle.rules.proofs.UdpChecksums.{sent_true, sent-passes}
use Rattle.rules.proofs.Sids.{Fits}
use Rattle.rules.proofs.FarE6.{Valid}

-- what was read of octets is octets
pub record AllOctets (c : Carried) : Type 0 where
  pub destination : Octets c.destination
  pub teid : Octets c.args.teid
  pub inner : Octets c.inner

pub carried6-octets : (p : List ℕ) → Octets p → AllOctets (carried6 p)
unfolding carried6 carried_by
carried6-octets p o =
    let u = octets-drop p (header p).upperAt o in
    record {
      destination = octets-window p 24 16 o;
      teid = octets-window (datagram_in6 p) 12 4 u;
      inner = octets-drop (datagram_in6 p) (20 + 4 * Gtpu.extension_units (datagram_in6 p)) u;
    }

pub e6_carried-octets : (e p : List ℕ) → Octets p → AllOctets (e6_carried e p)
unfolding e6_carried Srh.segment args_at
e6_carried-octets e p o = record {
  destination = octets-window p 48 16 o;
  teid = octets-window (Ipv6.destination p) _ 4 (octets-window p 24 16 o);
  inner = octets-drop p (header p).upperAt o;
}

-- a direction that a sound table has
pub direction_small : (direction : ℕ) → direction_known direction ≡ true → direction < 2
direction_small x h = or_cases (eqb x downlink) _ h (λ k. omega (holding, k)) (λ k. omega (holding, k))

flow_small : (down : Bool) (q r : ℕ) → q < 64 → r < 2 → cond down (r * 64) 0 + q < 256
flow_small true q r h k = omega arith
flow_small false q r h k = omega arith

gtpu-octets : (direction : ℕ) (x : Args) (size : ℕ) (inner : List ℕ) → direction < 2 → Fits x → Octets x.teid → 8 + size < 65536
    → Octets inner → Octets (gtpu direction x size inner)
gtpu-octets direction x size inner hd f ot hs oi =
    let flow = flow_small (eqb direction downlink) x.qfi x.reflective f.flow f.bit in
    let front : List ℕ = gtpu_flags ∷ g_pdu ∷ put16 (8 + size) [] in
    let back : List ℕ =
    0 ∷ 0 ∷ 0 ∷ pdu_session_container ∷ 1 ∷ (direction * 16) ∷ flow_octet direction x.qfi x.reflective ∷ 0 ∷ [] in
    octets-append front (x.teid ++ (back ++ inner)) (octets-each front (omega arith))
    (octets-append x.teid (back ++ inner) ot (octets-append back inner (octets-each back (omega arith)) oi))

module _ (e : List ℕ) (c : Carried) (v : Valid 16 c) (w : AllOctets c) (oe : Octets e) (hd : Entry.direction e < 2)
    (hl : 24 + length c.inner < 65536) where
  abbrev rest : List ℕ
  rest = gtpu (Entry.direction e) c.args (length c.inner) c.inner

  rest-length : 8 + length rest < 65536
  rest-length = simp length-append (omega (arith, v.args.tunnel))

  rest-octets : Octets rest
  rest-octets = gtpu-octets (Entry.direction e) c.args (length c.inner) c.inner hd v.args w.teid (omega arith) w.inner

  port_small : Entry.source_port e < 65536
  port_small = omega (arith, oe 10, oe 11)

  pub e6_true : TrueChecksum (Entry.source e) c.destination
      (e6_datagram e (e6_checksum e c.destination c.args c.inner) c.args c.inner)
  unfolding e6_checksum
  e6_true =
      sent_true (Entry.source e) c.destination (Entry.source_port e) gtpu_port (24 + length c.inner) rest (window-length e 32 16)
      v.to (octets-window e 32 16 oe) w.destination port_small (omega arith) hl rest-octets rest-length

  pub e6-passes : (allowed : Bool) → bad_checksum allowed (Entry.source e) c.destination
      (e6_datagram e (e6_checksum e c.destination c.args c.inner) c.args c.inner) ≡ false
  unfolding e6_checksum
  e6-passes allowed =
      sent-passes (Entry.source e) c.destination (Entry.source_port e) gtpu_port (24 + length c.inner) rest (window-length e 32 16)
      v.to (octets-window e 32 16 oe) w.destination port_small (omega arith) hl rest-octets rest-length allowed
