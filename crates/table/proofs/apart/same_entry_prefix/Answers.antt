use mathlib.Core.Path.{refl}
use mathlib.Core.List.{List}
use Prim.Native.Nat.{ℕ}
use native.Mathlib.Omega.{arith}
use Rattle.rules.specs.Sound.{same_entry_prefix}
use Rattle.table.proofs.Order.{eqb_words}
use Rattle.table.proofs.apart.same_entry_prefix.Goals as goal

pub returns : goal.returns
unfolding same_entry_prefix
returns c =
    let p : List ℕ = c.prefix_of-p.result.now in
    let q : List ℕ = c.prefix_of-q.result.now in
    rw (
      ← c.entry_at-e.ensures.same,
      ← c.entry_at-f.ensures.same,
      ← c.prefix_of-p.ensures.same,
      ← c.prefix_of-q.ensures.same,
      eqb_words p q (omega arith) (omega arith),
      c.eight.ensures.value,
      c.eight-2.ensures.value,
      c.eight-3.ensures.value,
      c.eight-4.ensures.value,
    ) refl
