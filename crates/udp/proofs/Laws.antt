-- What a checksum is, from sums of the parts that were added.
use mathlib.Core.Path.{◌≡◌, refl, sym, ap, ◌∙◌}
use mathlib.Core.List.{List, ◌++◌}
use Prim.Native.Nat.{ℕ, ◌+◌, ◌-◌, ◌*◌, ◌%◌, ◌≤◌, ◌<◌}
use native.Mathlib.Omega.{arith}
use lib.Dec.{eqb}
use lib.ListN.{length, take, drop}
use lib.Seq.{get_or-drop}
use native.Mathlib.Decide.{ℕ_discrete}
use borrow.Author.Tests.{eq-eqb, ne_eqb}
use Rattle.rules.specs.Octets.{Octets, octet, window, read16}
use Rattle.rules.specs.Checksum.{word_sum}
use Rattle.rules.specs.UdpChecksum.{udp_checksum6, udp_sum6}
use Rattle.rules.proofs.Windows.{window-length}
use Rattle.rules.proofs.Checksums.{fold, word_sum-append}
use Rattle.rules.proofs.UdpChecksums.{total_sum, sum-fold, checksum-is}
use Rattle.octets.proofs.Windows.{window_part}

-- the complement of a total that is the sum of the words but for a multiple of 65,535
pub total-checksum : (s d u : List ℕ) (t : ℕ) → length s ≡ 16 → length d ≡ 16 → length u < 65536 → Octets s → Octets d → Octets u
    → t % 65535 ≡ total_sum s d u % 65535 → 65535 - t % 65535 ≡ udp_checksum6 s d u
total-checksum s d u t hs hd hu os od ou e = ap (λ (n : ℕ). 65535 - n) e ∙ sym (checksum-is s d u hs hd hu os od ou)

-- and the test that it is a multiple
pub total_right : (s d u : List ℕ) (t : ℕ) → length s ≡ 16 → length d ≡ 16 → length u < 65536 → Octets s → Octets d → Octets u
    → t % 65535 ≡ total_sum s d u % 65535 → eqb (t % 65535) 0 ≡ eqb (udp_sum6 s d u) 0xffff
total_right s d u t hs hd hu os od ou e = go (ℕ_discrete (t % 65535) 0)
  where
    sum : udp_sum6 s d u ≡ fold (total_sum s d u)
    sum = sum-fold s d u hs hd hu os od ou

    go : Dec (t % 65535 ≡ 0) → eqb (t % 65535) 0 ≡ eqb (udp_sum6 s d u) 0xffff
    go (yes z) = eq-eqb (t % 65535) 0 z ∙ sym (eq-eqb (udp_sum6 s d u) 0xffff (omega (arith, sum, z, e)))
    go (no n) = ne_eqb (t % 65535) 0 n ∙ sym (ne_eqb (udp_sum6 s d u) 0xffff (λ q. n (omega (arith, sum, e, q))))

-- the addresses of an IPv6 packet, which stand side by side
side_by_side : (p : List ℕ) → window p 8 32 ≡ window p 8 16 ++ window p 24 16
unfolding window
side_by_side p = refl

pub addresses-sum : (p : List ℕ) → 40 ≤ length p → word_sum (take 32 (drop 8 p)) ≡ word_sum (window p 8 16) + word_sum (window p 24 16)
addresses-sum p h =
    ap word_sum (sym (window_part p 8 32 h) ∙ side_by_side p)
    ∙ word_sum-append (window p 8 16) (window p 24 16) (omega (arith, window-length p 8 16))

-- the checksum of the datagram that begins at octet `at`
pub field_at : (p : List ℕ) (at : ℕ) → octet p (at + 6) * 256 + octet p (at + 6 + 1) ≡ read16 (drop at p) 6
field_at p at =
    let e : at + 6 + 1 ≡ at + 7 = omega arith in
    λ i. sym (get_or-drop at p 6 0) i * 256 + (ap (octet p) e ∙ sym (get_or-drop at p 7 0)) i
