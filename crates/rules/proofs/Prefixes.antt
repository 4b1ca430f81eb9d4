-- Laws of prefixes: an address has the first bits of a prefix that it lies under, and a prefix with no other bits is these.
use mathlib.Core.Path.{◌≡◌}
use mathlib.Core.Bool.{true}
use mathlib.Core.List.{List}
use Prim.Native.Nat.{ℕ, ◌*◌, ◌-◌, ◌^◌}
use native.Mathlib.Omega.{arith}
use borrow.Author.Tests.{eqb-true}
use lib.Pow.{split}
use Rattle.rules.specs.Octets.{number}
use Rattle.rules.specs.Prefix.{first_bits, under, clear}

pub under-bits : (a p : List ℕ) (w b : ℕ) → under w a p b ≡ true → first_bits w a b ≡ first_bits w p b
unfolding under
under-bits a p w b h = eqb-true (first_bits w a b) (first_bits w p b) h

pub clear-bits : (p : List ℕ) (w b : ℕ) → clear w p b ≡ true → number p 0 w ≡ first_bits w p b * 2 ^ (8 * w - b)
unfolding clear first_bits
clear-bits p w b h = omega (arith, eqb-true, split (number p 0 w) (8 * w - b))

-- two prefixes of one length that an address lies under, with no bits past it, are the same
pub one_prefix : (a p q : List ℕ) (w b : ℕ) → under w a p b ≡ true → under w a q b ≡ true → clear w p b ≡ true → clear w q b ≡ true
    → number p 0 w ≡ number q 0 w
one_prefix a p q w b up uq cp cq = cc (under-bits a p w b up, under-bits a q w b uq, clear-bits p w b cp, clear-bits q w b cq)
