use mathlib.Core.Path.{◌≡◌, ap, ◌∙◌}
use mathlib.Core.List.{List, ◌++◌}
use Prim.Native.Nat.{ℕ, ◌+◌, ◌%◌}
use native.Mathlib.Omega.{arith}
use lib.ListN.{length, length-append}
use borrow.Kind.Array.{e_int, good_length}
use mir.Syntax.{w8}
use Rattle.rules.specs.Octets.{Octets}
use Rattle.rules.specs.Checksum.{word_sum}
use Rattle.rules.proofs.Checksums.{word_sum-append, octets-append}
use Rattle.rules.proofs.UdpChecksums.{total_sum}
use Rattle.sum.proofs.Parts.{array_octets, both_mod, parts_mod}
use Rattle.udp.proofs.Laws.{total-checksum}
use Rattle.udp.proofs.checksum.Goals as goal

pub returns : goal.returns
returns c =
    let g = c.well_formed in
    let a = c.args in
    let rest : List ℕ = a.rest.now in
    let u : List ℕ = a.head ++ rest in
    let lf = good_length (e_int w8) 16 a.from _ g.0 in
    let lt = good_length (e_int w8) 16 a.to _ g.1.0 in
    let lh = good_length (e_int w8) 24 a.head _ g.1.1.0 in
    let or : Octets rest = λ i. (c.type_inv.rest i).fits in
    let ou = octets-append a.head rest (array_octets 24 a.head _ g.1.1.0) or in
    let lu : length u ≡ length a.head + length rest = length-append a.head rest in
    let wu : word_sum u ≡ word_sum a.head + word_sum rest = word_sum-append a.head rest (omega arith) in
    let x = c.unreduced_address in
    let y = c.unreduced_address-2 in
    let w = c.unreduced in
    let z = c.unreduced-2 in
    let n : ℕ = 24 + length rest + 17 in
    let h = both_mod w.result z.result (word_sum a.head) (word_sum rest) w.ensures.0 z.ensures.0 in
    let m = parts_mod x.result y.result (w.result + z.result) (word_sum a.from) (word_sum a.to) (word_sum a.head + word_sum rest) n
    x.ensures.0 y.ensures.0 h in
    let p : x.result + y.result + (24 + length rest) + 17 + w.result + z.result ≡ x.result + y.result + (w.result + z.result) + n =
    omega arith in
    let q : word_sum a.from + word_sum a.to + (word_sum a.head + word_sum rest) + n ≡ total_sum a.from a.to u = omega arith in
    c.complement.ensures
    ∙ total-checksum a.from a.to u _ lf lt (omega arith) (array_octets 16 a.from _ g.0) (array_octets 16 a.to _ g.1.0) ou
    (ap (λ (n : ℕ). n % 65535) p ∙ m ∙ ap (λ (n : ℕ). n % 65535) q)
