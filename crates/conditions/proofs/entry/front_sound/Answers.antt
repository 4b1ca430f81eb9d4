use mathlib.Core.Path.{sym, ◌∙◌}
use mathlib.Core.List.{List}
use Prim.Native.Nat.{ℕ}
use native.Mathlib.Omega.{arith}
use borrow.Author.Tests.{le-leb}
use Rattle.rules.specs.Octets.{octet}
use Rattle.conditions.proofs.Surely.{clear-words}
use Rattle.conditions.proofs.entry.front_sound.Goals as goal

pub returns : goal.returns
returns c = λ q.
    let e : List ℕ = c.args.e.now in
    record {
      bits = le-leb (octet e 1) 128 (omega arith);
      clear =
          sym (clear-words e 16 (octet e 1) (rw (← c.from.ensures) c.words_clear.ensures)
          c.eight.ensures.value c.eight-2.ensures.value) ∙ q;
      hopLimit = le-leb 1 (octet e 2) (omega arith);
    }
