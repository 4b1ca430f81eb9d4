use Rattle.std.proofs.Common.{rules}
use mathlib.Core.Path.{◌≡◌, ap, ◌∙◌}
use mathlib.Core.List.{List, ◌∷◌}
use Prim.Native.Nat.{ℕ, ◌%◌}
use native.Mathlib.Omega.{arith}
use lib.ListN.{length}
use Rattle.rules.specs.Octets.{window}
use Rattle.rules.specs.Args.{args_at}
use Rattle.args.specs.Value.{value}
use Rattle.args.proofs.Laws.{args_back}
use Rattle.octets.proofs.Windows.{window-all}
use Rattle.args.proofs.Args.new.Goals as goal

pub returns : goal.returns
unfolding value window
returns c =
    let a = c.args in
    let t : length a.teid ≡ 4 = search rules in
    ap (λ (s : List ℕ). args_at s 0) (λ i. c.first_octet.ensures i ∷ window-all a.teid 4 t i)
    ∙ args_back (record { qfi = a.qfi % 64; reflective = a.reflective % 2; teid = a.teid }) (omega arith) (omega arith) t
