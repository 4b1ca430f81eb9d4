use mathlib.Core.Path.{◌≡◌, sym, ap, ◌∙◌}
use mathlib.Core.List.{List, ◌++◌}
use Prim.Native.Nat.{ℕ, ◌+◌, ◌-◌, ◌%◌}
use native.Mathlib.Omega.{arith}
use lib.ListN.{length, length-append}
use borrow.Kind.Array.{e_int, good_length}
use mir.Syntax.{w8}
use Rattle.rules.specs.Octets.{Octets}
use Rattle.rules.specs.Checksum.{word_sum}
use Rattle.rules.proofs.Checksums.{word_sum-append, octets-append}
use Rattle.rules.proofs.UdpChecksums.{sum_with}
use Rattle.sum.proofs.Parts.{array_octets, both_mod, parts_mod}
use Rattle.icmp.proofs.Laws.{checksum-is}
use Rattle.icmp.proofs.checksum.Goals as goal

pub returns : goal.returns
returns c =
    let g = c.well_formed in
    let a = c.args in
    let head : List ℕ = a.header in
    let rest : List ℕ = a.quoted.now in
    let m : List ℕ = head ++ rest in
    let lf = good_length (e_int w8) 16 a.from _ g.0 in
    let lt = good_length (e_int w8) 16 a.to _ g.1.0 in
    let lh = good_length (e_int w8) 8 head _ g.1.1.0 in
    let or : Octets rest = λ i. (c.type_inv.quoted i).fits in
    let om = octets-append head rest (array_octets 8 head _ g.1.1.0) or in
    let lm : length m ≡ length head + length rest = length-append head rest in
    let wm : word_sum m ≡ word_sum head + word_sum rest = word_sum-append head rest (omega arith) in
    let x = c.unreduced_address in
    let y = c.unreduced_address-2 in
    let h = c.unreduced in
    let z = c.unreduced-2 in
    let n : ℕ = 8 + length rest + 58 in
    let sum = word_sum a.from + word_sum a.to + word_sum rest + n in
    let k = parts_mod x.result y.result z.result (word_sum a.from) (word_sum a.to) (word_sum rest) n x.ensures.0
    y.ensures.0 z.ensures.0 in
    let e = both_mod (x.result + y.result + z.result + n) h.result sum (word_sum head) k h.ensures.0 in
    let p : x.result + y.result + (8 + length rest) + 58 + h.result + z.result
    ≡ x.result + y.result + z.result + n + h.result = omega arith in
    let q : sum + word_sum head ≡ sum_with a.from a.to 58 m = omega arith in
    c.complement.ensures
    ∙ ap (λ (t : ℕ). (65535 - t) % 65535) (ap (λ (t : ℕ). t % 65535) p ∙ e ∙ ap (λ (t : ℕ). t % 65535) q)
    ∙ sym (checksum-is a.from a.to m lf lt (omega (arith, c.requires)) (array_octets 16 a.from _ g.0)
    (array_octets 16 a.to _ g.1.0) om)
