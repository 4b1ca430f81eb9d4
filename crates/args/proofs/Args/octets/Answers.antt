use Rattle.std.proofs.Common.{rules}
use mathlib.Core.Path.{◌≡◌, ◌∙◌}
use mathlib.Core.List.{◌∷◌}
use native.Mathlib.Omega.{arith}
use lib.ListN.{length}
use Rattle.rules.specs.Octets.{window}
use Rattle.rules.specs.Args.{first_octet, args_at}
use Rattle.args.specs.Value.{value}
use Rattle.octets.proofs.Windows.{window-all}
use Rattle.args.proofs.Args.octets.Goals as goal

pub returns : goal.returns
unfolding value args_at window
returns c =
    let t = c.teid-teid in
    let l : length t.result ≡ 4 = search rules in
    let v = value c.args.self in
    let f : c.first_octet.result ≡ first_octet v.qfi v.reflective = omega arith in
    λ i. f i ∷ (window-all t.result 4 l ∙ t.ensures) i
