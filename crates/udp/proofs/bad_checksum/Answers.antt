use mathlib.Core.Path.{◌≡◌, refl, ap, ◌∙◌}
use mathlib.Core.Bool.{not}
use mathlib.Core.List.{List}
use Prim.Native.Nat.{ℕ, ◌+◌, ◌-◌, ◌%◌}
use native.Mathlib.Omega.{arith}
use lib.ListN.{length, drop, take, length-drop}
use borrow.Author.Tests.{ne_eqb}
use Rattle.rules.specs.Octets.{Octets, window, read16}
use Rattle.rules.specs.Checksum.{word_sum}
use Rattle.rules.proofs.Windows.{window-length, octets-window, octets-drop}
use Rattle.rules.proofs.UdpChecksums.{total_sum}
use Rattle.copying.proofs.Laws.{tail_all}
use Rattle.sum.proofs.Parts.{both_mod}
use Rattle.udp.proofs.Laws.{total_right, addresses-sum, field_at}
use Rattle.udp.proofs.bad_checksum.Goals as goal

pub returns : goal.returns
returns c =
    let p : List ℕ = c.args.packet.now in
    let at : ℕ = c.args.at in
    let u : List ℕ = drop at p in
    let o : Octets p = λ i. (c.type_inv.packet i).fits in
    let lu : length u ≡ length p - at = length-drop at p in
    let n : read16 u 6 ≡ 0 → ⊥ = λ z. c.if-join16-eq0.false (c.join16.ensures.0 ∙ field_at p at ∙ z) in
    let x = c.unreduced-addresses in
    let y = c.unreduced in
    let ls = window-length p 8 16 in
    let ld = window-length p 24 16 in
    let a : x.result % 65535 ≡ (word_sum (window p 8 16) + word_sum (window p 24 16)) % 65535 =
    x.ensures.0 ∙ ap (λ (n : ℕ). n % 65535) (addresses-sum p (omega (arith, c.requires))) in
    let b : y.result % 65535 ≡ word_sum u % 65535 = y.ensures.0 ∙ ap (λ (l : List ℕ). word_sum l % 65535) (tail_all at p) in
    let m = both_mod x.result y.result (word_sum (window p 8 16) + word_sum (window p 24 16)) (word_sum u) a b in
    let e = both_mod (x.result + y.result) (length u + 17) (word_sum (window p 8 16) + word_sum (window p 24 16) + word_sum u)
    (length u + 17) m refl in
    let t : length (take (length p - at) (drop at p)) ≡ length u = ap length (tail_all at p) in
    let l : x.result + length (take (length p - at) (drop at p)) + 17 + y.result ≡ x.result + y.result + (length u + 17) =
    omega arith in
    let r : word_sum (window p 8 16) + word_sum (window p 24 16) + word_sum u + (length u + 17)
    ≡ total_sum (window p 8 16) (window p 24 16) u =
    omega arith in
    rw (ne_eqb _ 0 n)
    (ap not
    (total_right (window p 8 16) (window p 24 16) u _ ls ld (omega (arith, c.requires)) (octets-window p 8 16 o) (octets-window p 24 16 o)
    (octets-drop p at o) (ap (λ (n : ℕ). n % 65535) l ∙ e ∙ ap (λ (n : ℕ). n % 65535) r)))
