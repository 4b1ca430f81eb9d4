use mathlib.Core.Path.{◌≡◌, ◌∙◌}
use mathlib.Core.List.{List, ◌++◌}
use Prim.Native.Nat.{ℕ}
use lib.ListN.{length}
use Rattle.std.proofs.lemmas.Nat.{le_bytes_8}
use Rattle.std.proofs.Common.{rules}
use Rattle.rules.specs.Octets.{window}
use Rattle.octets.proofs.Windows.{window-all}
use Rattle.srh.proofs.Address.lent.Goals as goal

-- two halves of sixteen octets are these
halves : (a : List ℕ) → length a ≡ 16 → window a 0 8 ++ window a 8 8 ≡ a
unfolding window
halves a h = window-all a 16 h

pub returns : goal.returns
returns c =
    let x = le_bytes_8 c.array.result _ (search rules) (search rules) c.from_le_bytes.ensures in
    let y = le_bytes_8 c.array-2.result _ (search rules) (search rules) c.from_le_bytes-2.ensures in
    (λ i. x i ++ y i) ∙ (λ i. c.array.ensures i ++ c.array-2.ensures i) ∙ halves c.args.a.now c.requires
