-- The signed reading of a difference mod 65,536, as 16 bits in two's complement hold it.
use Rattle.std.proofs.Common.{◌≡◌, ℕ, zero, suc, ◌-◌, ◌<◌, ◌≤◌, true, false, pos, sym, ⊎_elim, true≢false}
use Rattle.std.proofs.Common.{arith, w16, to_z, ltb-false, ltb-true, le-ltb, lt-ltb}
use lib.Signed.{lt_z}
use Rattle.loss.specs.Loss.{signed_of, New, Repeated, Late, arrival_of}
use Rattle.std.proofs.lemmas.Bool.{cases_lt}

new_cases : (d : ℕ) → 1 ≤ d → d < 32768 → arrival_of (signed_of d) ≡ New (d - 1)
unfolding signed_of arrival_of
new_cases zero p l = absurd (omega arith)
new_cases (suc k) p l = let e : suc k - 1 ≡ k = omega arith in rw (lt-ltb (suc k) 32768 l, e)

module _ (d : ℕ) (h : d < 65536) where
  -- the test `distance > 0` on its bits
  pub above : lt_z (pos 0) (to_z w16 d) ≡ true → (1 ≤ d) × (d < 32768)
  above e =
      ⊎_elim (λ l. (ltb-true 0 d (rw (lt-ltb d 32768 l) at e), l)) (λ g. absurd (true≢false (sym (rw (le-ltb d 32768 g) at e))))
      (cases_lt d 32768)

  pub not_above : lt_z (pos 0) (to_z w16 d) ≡ false → (d ≡ 0 → ⊥) → 32768 ≤ d
  not_above e z =
      ⊎_elim (λ l. let p = ltb-false 0 d (rw (lt-ltb d 32768 l) at e) in absurd (z (omega arith))) (λ g. g) (cases_lt d 32768)

  -- what arrives, by the difference
  pub new_at : 1 ≤ d → d < 32768 → arrival_of (signed_of d) ≡ New (d - 1)
  new_at p l = new_cases d p l

  pub repeated_at : d ≡ 0 → arrival_of (signed_of d) ≡ Repeated
  unfolding signed_of arrival_of
  repeated_at e = rw e

  pub late_at : 32768 ≤ d → arrival_of (signed_of d) ≡ Late
  unfolding signed_of arrival_of
  late_at g = rw (le-ltb d 32768 g)
