use Rattle.std.proofs.Common.{rules}
use mathlib.Core.Path.{◌≡◌, refl, ◌∙◌}
use lib.ListN.{length}
use Rattle.rules.specs.Args.{with_args}
use Rattle.rules.proofs.Splices.{splice_parts}
use Rattle.args.proofs.Args.in_sid.Goals as goal

pub returns : goal.returns
unfolding with_args
returns c =
    let l : length c.octets.result ≡ 5 = search rules in
    c.copy_to.ensures ∙ splice_parts _ _ _ ∙ rw (l, c.octets.ensures, c.octet_of.ensures) refl
