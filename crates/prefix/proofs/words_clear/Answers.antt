use mathlib.Core.Path.{sym, ◌∙◌}
use Prim.Native.Nat.{◌-◌}
use native.Mathlib.Omega.{arith}
use Rattle.prefix.proofs.Prefixes.{dropped, past_first, second-set, second-clear}
use Rattle.prefix.proofs.words_clear.Goals as goal

pub returns-then-bits-gt-WORD_BITS : goal.returns-then-bits-gt-WORD_BITS
returns-then-bits-gt-WORD_BITS c =
    let a = c.args in
    rw (past_first a.high a.low a.bits (omega arith) (omega arith)) (dropped a.low (a.bits - 64) (128 - a.bits) (omega arith))

pub returns-then-low-ne0 : goal.returns-then-low-ne0
returns-then-low-ne0 c = let a = c.args in sym (second-set a.high a.low a.bits (omega arith) (omega arith) c.if-low-ne0.true)

pub returns : goal.returns
returns c =
    let a = c.args in
    dropped a.high a.bits (64 - a.bits) (omega arith)
    ∙ sym (second-clear a.high a.low a.bits (omega arith) (omega arith) c.if-low-ne0.false)
