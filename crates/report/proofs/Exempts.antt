-- The exceptions: their tests hold exactly where Due.antt says that a packet is exempt.
use mathlib.Core.Path.{◌≡◌, refl, sym, ap, ◌∙◌}
use mathlib.Core.Bool.{true}
use mathlib.Core.List.{List}
use Prim.Native.Nat.{ℕ, zero, suc, ◌+◌, ◌-◌, ◌≤◌, ◌<◌}
use native.Mathlib.Nat.{zero-add}
use native.Mathlib.Omega.{arith}
use native.Mathlib.Decide.{ℕ_discrete}
use lib.Dec.{ltb, eqb}
use lib.ListN.{length}
use borrow.Author.Tests.{ltb-true, lt-ltb, eqb-true, eq-eqb}
use Rattle.rules.specs.Exactly.{Exactly}
use Rattle.rules.specs.Octets.{octet, window, number}
use Rattle.rules.specs.Ipv6 as Ipv6
use Rattle.rules.specs.Header.{header}
use Rattle.rules.specs.Answer.{any}
use Rattle.rules.specs.Refused.{upper, upper_at}
use Rattle.rules.proofs.Windows.{octet-window}
use Rattle.rules.proofs.Conditions.{and_left, and_right, ◌also◌}
use Rattle.rules.proofs.Exact.{Leads, leads-given, any-leads, any_at, any-from, any-under}
use Rattle.report.specs.Report.{is_unspecified, has_type, is_error_or_redirect, exceptions}
use Rattle.report.specs.Due.{Exempt}

-- a number is 0 exactly where its octets are
number-zero : (s : List ℕ) (i n : ℕ) → number s i n ≡ 0 → (k : ℕ) → k < n → octet s (i + k) ≡ 0
unfolding number
number-zero s i zero e k h = absurd (omega arith)
number-zero s i (suc n) e k h = go (ℕ_discrete k n) (λ l. number-zero s i n (omega (arith, e)) k l)
  where
    go : Dec (k ≡ n) → (k < n → octet s (i + k) ≡ 0) → octet s (i + k) ≡ 0
    go (yes q) before = ap (λ (j : ℕ). octet s (i + j)) q ∙ omega (arith, e)
    go (no q) before = before (omega (arith, h, q))

zero_number : (s : List ℕ) (i n : ℕ) → ((k : ℕ) → k < n → octet s (i + k) ≡ 0) → number s i n ≡ 0
unfolding number
zero_number s i zero h = refl
zero_number s i (suc n) h = omega (arith, zero_number s i n (λ k l. h k (omega (arith, l))), h n (omega arith))

module _ (p : List ℕ) where
  zeros : is_unspecified (Ipv6.source p) ≡ true → (i : ℕ) → 8 ≤ i → i < 24 → octet p i ≡ 0
  zeros h i l m =
      let k = i - 8 in
      let e : i ≡ 8 + k = omega arith in
      let z = number-zero (window p 8 16) 0 16 (eqb-true _ 0 h) k (omega arith) in
      ap (octet p) e ∙ sym (octet-window p 8 16 k (omega arith)) ∙ ap (octet (window p 8 16)) (sym (zero-add k)) ∙ z

  unspecified : ((i : ℕ) → 8 ≤ i → i < 24 → octet p i ≡ 0) → is_unspecified (Ipv6.source p) ≡ true
  unspecified h =
      eq-eqb _ 0
      (zero_number (window p 8 16) 0 16
      (λ k l. ap (octet (window p 8 16)) (zero-add k) ∙ octet-window p 8 16 k l ∙ h (8 + k) (omega arith) (omega (arith, l))))

  has_type_lem : upper p ≡ 58 → upper_at p < length p → has_type (header p) ≡ true
  unfolding header
  has_type_lem u l = rw (eq-eqb _ 58 u, lt-ltb _ _ l) refl

  type_there : has_type (header p) ≡ true → (upper p ≡ 58) × (upper_at p < length p)
  unfolding header
  type_there c =
      let is = eqb (upper p) 58 in
      let there = ltb (upper_at p) (length p) in
      (eqb-true (upper p) 58 (and_left is there c), ltb-true (upper_at p) (length p) (and_right is there c))

  pub exempt-exactly : Exactly (any (exceptions p)) (Exempt p)
  unfolding header window
  exempt-exactly = (any-leads (Exempt p) (exceptions p) leads, back)
    where
      leads : Leads (Exempt p) (exceptions p)
      leads =
          (λ h. Exempt.multicast_source (eqb-true _ _ h))
          also (λ h. Exempt.unspecified_source (zeros h))
          also (λ h. Exempt.multicast_destination (eqb-true _ _ h))
          also leads-given (Exempt p) (has_type (header p)) (is_error_or_redirect (octet p (header p).upperAt))
          (λ c.
          (λ h. Exempt.error_message (type_there c).0 (type_there c).1 (ltb-true _ _ h))
          also (λ h. Exempt.redirect (type_there c).0 (type_there c).1 (eqb-true _ _ h))
          also tt)

      back : Exempt p → any (exceptions p) ≡ true
      back (Exempt.multicast_source h) = any_at (exceptions p) 0 (eq-eqb _ _ h)
      back (Exempt.unspecified_source h) = any_at (exceptions p) 1 (unspecified h)
      back (Exempt.multicast_destination h) = any_at (exceptions p) 2 (eq-eqb _ _ h)
      back (Exempt.error_message u l h) =
          any-from (exceptions p) 3 (any-under (has_type (header p)) (is_error_or_redirect (octet p (header p).upperAt)) (has_type_lem u l)
          (any_at (is_error_or_redirect (octet p (header p).upperAt)) 0 (lt-ltb _ _ h)))
      back (Exempt.redirect u l h) =
          any-from (exceptions p) 3 (any-under (has_type (header p)) (is_error_or_redirect (octet p (header p).upperAt)) (has_type_lem u l)
          (any_at (is_error_or_redirect (octet p (header p).upperAt)) 1 (eq-eqb _ _ h)))
