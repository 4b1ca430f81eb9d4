use Rattle.std.proofs.Common.{rules}
use mathlib.Core.Path.{◌≡◌, refl, sym, ap, ◌∙◌}
use mathlib.Core.List.{List}
use Prim.Native.Nat.{ℕ, ◌+◌, ◌-◌, ◌*◌, ◌/◌}
use native.Mathlib.Nat.{zero-add}
use native.Mathlib.Omega.{arith}
use lib.ListN.{length, drop}
use Rattle.rules.specs.Octets.{window}
use Rattle.rules.specs.Checksum.{word_sum}
use Rattle.rules.proofs.Checksums.{ones_sum-fold}
use Rattle.octets.proofs.Windows.{window-all}
use Rattle.sum.proofs.Laws.{drop_word, drop_all}
use Rattle.sum.proofs.Parts.{array_octets}
use Rattle.ip.proofs.header_sum.Goals as goal

pub loop-i-init : goal.loop-i-init
loop-i-init c = (omega arith, zero-add (word_sum c.args.front), omega arith)

pub loop-i-preserved : goal.loop-i-preserved
loop-i-preserved c =
    let l = c.loop-i in
    let f : List ℕ = c.args.front in
    let n : length f ≡ 20 = search rules in
    let w = drop_word f (2 * l.i) (2 * l.i + 1) (2 * (l.i + 1)) refl (omega arith) (omega arith) in
    (omega arith, omega arith, omega arith)

pub returns : goal.returns
returns c =
    let l = c.loop-i in
    let f : List ℕ = c.args.front in
    let n : length f ≡ 20 = search rules in
    let w : window f 0 20 ≡ f = window-all f 20 n in
    let k : 2 * l.i ≡ length f = omega arith in
    let d : word_sum (drop (2 * l.i) f) ≡ 0 = rw k (drop_all f) in
    let e : l.total ≡ word_sum f = omega arith in
    c.folded.ensures ∙ ap (λ (n : ℕ). n - (n - 1) / 65535 * 65535) e
    ∙ sym (rw w (ones_sum-fold f (array_octets 20 f _ c.well_formed.0)))
