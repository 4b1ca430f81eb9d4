-- The Internet checksum in a closed form, and the law of the IPv4 header that we write: its sum is FFFF.
use mathlib.Core.Path.{◌≡◌, refl, ap, ◌∙◌}
use mathlib.Core.List.{List, [], ◌∷◌, ◌++◌, append_assoc}
use Prim.Native.Nat.{ℕ, zero, suc, ◌+◌, ◌-◌, ◌*◌, ◌/◌, ◌%◌, ◌<◌}
use native.Mathlib.Omega.{arith}
use lib.ListN.{length, length-append}
use Rattle.rules.specs.Octets.{Octets, window, put16}
use Rattle.rules.specs.Checksum.{ones_add, ones_sum, checksum, word_sum}
use Rattle.rules.specs.Ipv4 as Ipv4
use Rattle.rules.specs.Ipv4.{ipv4_front, ipv4}
use Rattle.rules.proofs.Windows.{window_front}

-- the words of a first part of even length, and those of the rest
pub word_sum-append : (s t : List ℕ) → length s % 2 ≡ 0 → word_sum (s ++ t) ≡ word_sum s + word_sum t
unfolding word_sum
word_sum-append [] t h = omega arith
word_sum-append (a ∷ []) t h = absurd (omega arith)
word_sum-append (a ∷ b ∷ s) t h = omega (arith, word_sum-append s t (omega arith))

-- a number brought down to 16 bits, its carries added at the bottom: 0 from 0 alone, else 1 to FFFF
abbrev pub fold : ℕ → ℕ
fold n = n - (n - 1) / 65535 * 65535

pub ones_add-fold : (a n : ℕ) → a < 65536 → ones_add a (fold n) ≡ fold (a + n)
ones_add-fold a n h = omega arith

-- the carries may be added at the end
pub ones_sum-fold : (s : List ℕ) → Octets s → ones_sum s ≡ fold (word_sum s)
unfolding ones_sum word_sum
ones_sum-fold [] h = refl
ones_sum-fold (a ∷ []) h = omega (arith, h 0)
ones_sum-fold (a ∷ b ∷ rest) h =
    ap (λ (n : ℕ). ones_add (a * 256 + b) n) (ones_sum-fold rest (λ i. h (suc (suc i))))
    ∙ ones_add-fold (a * 256 + b) (word_sum rest) (omega (arith, h 0, h 1))

-- OCTETS IN ORDER

pub octets-append : (s r : List ℕ) → Octets s → Octets r → Octets (s ++ r)
octets-append [] r h k i = k i
octets-append (x ∷ s) r h k zero = h 0
octets-append (x ∷ s) r h k (suc i) = octets-append s r (λ i. h (suc i)) k i

-- one by one
abbrev pub Each : List ℕ → Type 0
Each [] = Unit {0}
Each (x ∷ s) = (x < 256) × Each s

pub octets-each : (s : List ℕ) → Each s → Octets s
octets-each [] h i = omega arith
octets-each (x ∷ s) h zero = h.0
octets-each (x ∷ s) h (suc i) = octets-each s h.1 i

-- THE IPV4 HEADER

module _ (tos total ttl : ℕ) (s d rest : List ℕ) (ht : tos < 256) (hn : total < 65536) (hl : ttl < 256)
    (ls : length s ≡ 4) (ld : length d ≡ 4) (os : Octets s) (od : Octets d) where
  -- with any checksum k
  front_sum : (k : ℕ) → k < 65536 → ones_sum (ipv4_front tos total ttl (put16 k (s ++ d)))
      ≡ fold (0x4500 + tos + total + 0x4000 + ttl * 256 + 17 + k + word_sum (s ++ d))
  unfolding word_sum
  front_sum k hk =
      let front = ipv4_front tos total ttl (put16 k []) in
      ones_sum-fold (front ++ (s ++ d)) (octets-append front (s ++ d) (octets-each front (omega arith)) (octets-append s d os od))
      ∙ omega arith

  -- ones' complement sum of the header, the checksum included
  pub ipv4-sum : Ipv4.header_sum (ipv4 tos total ttl s d rest) ≡ 0xffff
  ipv4-sum =
      let k = checksum (ipv4_front tos total ttl (put16 0 (s ++ d))) in
      let h = ipv4_front tos total ttl (put16 k (s ++ d)) in
      let l : length h ≡ 20 = simp length-append (omega arith) in
      let w : window (ipv4 tos total ttl s d rest) 0 20 ≡ h = rw (← (append_assoc s d rest)) (window_front h rest 20 l) in
      ap ones_sum w ∙ front_sum k (omega arith) ∙ omega (arith, front_sum 0 (omega arith))
