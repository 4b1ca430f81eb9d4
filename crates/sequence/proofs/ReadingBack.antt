-- What is found splits again into TEID and sequence number, and is never 0; of a packet of octets it is below bit 49.
use mathlib.Core.Path.{sym, subst}
use mathlib.Core.Logic.{◌≢◌}
use mathlib.Core.Bool.{Bool, true, false, cond, ◌&&◌}
use mathlib.Core.List.{List}
use Prim.Native.Nat.{ℕ, ◌^◌, ◌<◌}
use native.Mathlib.Omega.{arith}
use Rattle.rules.specs.Octets.{Octets, window, number}
use Rattle.rules.specs.Gtpu as Gtpu
use Rattle.rules.specs.Answer.{Row, verdict}
use Rattle.rules.specs.Header.{header}
use Rattle.rules.specs.Carried.{datagram_in6, datagram_in4}
use Rattle.rules.proofs.Windows.{octets-drop}
use Rattle.sequence.specs.Sequence.{g_pdu_rows6, g_pdu_rows4, passes, numbered, teid, found, found_in}
use Rattle.sequence.specs.Sequence.{sequence_unless, sequence6, sequence4}
use Rattle.sequence.specs.Numbered.{ReadBack}
use Rattle.sequence.proofs.Numbering.{passed_found, found_passed}

module _ (teid n : ℕ) where
  pub found_some : found teid n ≢ 0
  found_some e = omega arith

  pub found_back : teid < 2 ^ 32 → n < 2 ^ 16 → ReadBack (found teid n) teid n
  found_back t l = record { bit48 = omega arith; teid = omega arith; sequence_number = omega arith }

module _ (u : List ℕ) (o : Octets u) where
  pub teid-below : teid u < 2 ^ 32
  unfolding window number
  teid-below = omega (arith, o 12, o 13, o 14, o 15)

  pub number-below : Gtpu.sequence_number u < 2 ^ 16
  number-below = omega (arith, o 16, o 17)

-- OF A PACKET

module _ (rows : List Row) (u : List ℕ) (o : Octets u) where
  below : sequence_unless rows u < 2 ^ 49
  unfolding sequence_unless
  below = go (passes (verdict rows) && numbered u)
    where
      go : (b : Bool) → cond b (found_in u) 0 < 2 ^ 49
      go true = omega (arith, teid-below u o, number-below u o)
      go false = omega arith

  back : sequence_unless rows u ≢ 0 → ReadBack (sequence_unless rows u) (teid u) (Gtpu.sequence_number u)
  back h =
      let (n, s) = found_passed rows u h in
      subst (λ (r : ℕ). ReadBack r (teid u) (Gtpu.sequence_number u)) (sym (passed_found rows u n s))
      (found_back (teid u) (Gtpu.sequence_number u) (teid-below u o) (number-below u o))

module _ (p : List ℕ) (o : Octets p) where
  pub sequence6-below : sequence6 p < 2 ^ 49
  unfolding sequence6
  sequence6-below = below (g_pdu_rows6 p) (datagram_in6 p) (octets-drop p (header p).upperAt o)

  pub sequence4-below : sequence4 p < 2 ^ 49
  unfolding sequence4
  sequence4-below = below (g_pdu_rows4 p) (datagram_in4 p) (octets-drop p 20 o)

  pub sequence6_back : sequence6 p ≢ 0 → ReadBack (sequence6 p) (teid (datagram_in6 p)) (Gtpu.sequence_number (datagram_in6 p))
  unfolding sequence6
  sequence6_back = back (g_pdu_rows6 p) (datagram_in6 p) (octets-drop p (header p).upperAt o)

  pub sequence4_back : sequence4 p ≢ 0 → ReadBack (sequence4 p) (teid (datagram_in4 p)) (Gtpu.sequence_number (datagram_in4 p))
  unfolding sequence4
  sequence4_back = back (g_pdu_rows4 p) (datagram_in4 p) (octets-drop p 20 o)
