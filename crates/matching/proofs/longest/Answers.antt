use mathlib.Core.Path.{sym, ◌∙◌}
use Prim.Native.Nat.{ℕ, ◌<◌}
use native.Mathlib.Omega.{arith}
use Rattle.matching.proofs.Search.{longest-none, longest_miss, longest_hit, below_next}
use Rattle.matching.proofs.longest.Goals.{then-matches, else-matches}
use Rattle.matching.proofs.longest.Goals as goal

pub loop-i-init : goal.loop-i-init
loop-i-init g c = (tt, λ m h f k. longest-none _ _)

pub loop-i-preserved : goal.loop-i-preserved
loop-i-preserved g c =
    let i : ℕ = c.loop-i.i in
    let l : i < c.args.n = omega arith in
    elim c.if-matches.branch [
      | then-matches w ↦ (
        rw w.found-is w.longer-found.ensures.below,
        λ m h f k.
            w.found-is ∙ w.longer-found.ensures.longer f (λ j b q. k j b (omega arith))
            ∙ longest_hit m f i (c.loop-i.invariant.1 m h f k) (sym (h i _ l c.matches.ensures) ∙ w.if-matches.true),
      )
      | else-matches w ↦ (
        rw w.found-is (below_next _ i c.loop-i.invariant.0),
        λ m h f k.
            w.found-is ∙ longest_miss m f i (c.loop-i.invariant.1 m h f k) (sym (h i _ l c.matches.ensures) ∙ w.if-matches.false),
      )
    ]
