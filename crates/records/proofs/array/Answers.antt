use mathlib.Core.Path.{◌∙◌}
use Rattle.records.proofs.array.Goals as goal

pub returns : goal.returns
returns g c =
    let whole = rw c.unwrap.ensures at c.as_array.ensures.cases in
    record { same = whole.same ∙ c.part.ensures.same }
