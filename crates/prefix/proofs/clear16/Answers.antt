use Rattle.rules.specs.Prefix.{clear}
use Rattle.numbers.proofs.Words.{number_parts}
use Rattle.prefix.proofs.clear16.Goals as goal

pub returns : goal.returns
unfolding clear
returns c = rw (number_parts _ 0 8 8, ← c.eight.ensures.value, ← c.eight-2.ensures.value) c.words_clear.ensures
