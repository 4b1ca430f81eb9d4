-- A number is found exactly where no row applies and S is set.
use Rattle.std.proofs.Common.{Ok, Err}
use mathlib.Core.Path.{◌≡◌, refl}
use mathlib.Core.Logic.{◌≢◌}
use mathlib.Core.Bool.{Bool, true, false, cond, ◌&&◌}
use mathlib.Core.List.{List}
use Prim.Native.Nat.{ℕ}
use native.Mathlib.Omega.{arith}
use borrow.Author.Tests.{eq-eqb, ne_eqb}
use Rattle.rules.specs.Gtpu as Gtpu
use Rattle.rules.specs.Answer.{Row, verdict, Verdict}
use Rattle.rules.specs.Carried.{datagram_in6, datagram_in4}
use Rattle.rules.proofs.Rows.{None, none_pass, pass_none}
use Rattle.sequence.specs.Sequence.{g_pdu_rows6, g_pdu_rows4, passes, numbered, found_in}
use Rattle.sequence.specs.Sequence.{sequence_unless, sequence6, sequence4, ByFlag}

module _ (rows : List Row) (u : List ℕ) where
  pub passed_found : None rows → numbered u ≡ true → sequence_unless rows u ≡ found_in u
  unfolding sequence_unless
  passed_found n s = rw (none_pass rows n, s)

  pub found_passed : sequence_unless rows u ≢ 0 → None rows × (numbered u ≡ true)
  unfolding sequence_unless
  found_passed h = let (v, s) = go (verdict rows) (numbered u) (found_in u) h in (pass_none rows v, s)
    where
      go : (v : Verdict) (b : Bool) (x : ℕ) → cond (passes v && b) x 0 ≢ 0 → (v ≡ Ok tt) × (b ≡ true)
      go (Ok tt) true x k = (refl, refl)
      go (Ok tt) false x k = absurd (k refl)
      go (Err r) b x k = absurd (k refl)

  -- without S nothing is found, whatever the rows
  unnumbered : Gtpu.sequence_flag u ≡ 0 → sequence_unless rows u ≡ 0
  unfolding sequence_unless
  unnumbered s = let q : numbered u ≡ false = omega (arith, ne_eqb, s) in rw q (go (passes (verdict rows)))
    where
      go : (b : Bool) → cond (b && false) (found_in u) 0 ≡ 0
      go true = refl
      go false = refl

  pub passed_flag : verdict rows ≡ Ok tt → ByFlag u (sequence_unless rows u)
  passed_flag v = record { set = λ s. passed_found (pass_none rows v) (omega (arith, eq-eqb, s)); clear = unnumbered }

module _ (p : List ℕ) where
  pub unnumbered_6 : Gtpu.sequence_flag (datagram_in6 p) ≡ 0 → sequence6 p ≡ 0
  unfolding sequence6
  unnumbered_6 = unnumbered (g_pdu_rows6 p) (datagram_in6 p)

  pub unnumbered_4 : Gtpu.sequence_flag (datagram_in4 p) ≡ 0 → sequence4 p ≡ 0
  unfolding sequence4
  unnumbered_4 = unnumbered (g_pdu_rows4 p) (datagram_in4 p)
