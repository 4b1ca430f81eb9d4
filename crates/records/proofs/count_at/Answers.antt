use Rattle.std.proofs.Common.{rules}
use mathlib.Core.Path.{◌∙◌}
use Rattle.numbers.proofs.Words.{number_two}
use Rattle.records.proofs.count_at.Goals as goal

pub returns : goal.returns
returns c = record { value = c.two.ensures.value ∙ number_two _ _; small = search rules }
