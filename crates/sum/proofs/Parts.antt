-- Parts of what is summed: octets by value, and sums that are known but for a multiple of 65,535.
use mathlib.Core.Path.{◌≡◌, refl}
use mathlib.Core.List.{List, [], ◌∷◌}
use Prim.Native.Nat.{ℕ, zero, suc, ◌+◌, ◌%◌}
use native.Mathlib.Omega.{arith}
use mir.Syntax.{w8}
use mir.Val.{Val}
use denote.Laws.{Is}
use denote.Shadow.{shadow}
use denote.Plain.{UInt}
use denote.Array.{Array, each}
use Rattle.rules.specs.Octets.{Octets}

-- an array by value holds octets
each-octets : (xs : List ℕ) (us : List Val) → shadow (each ℕ (UInt w8).own_val xs us) → Octets xs
each-octets [] us s i = omega arith
each-octets (x ∷ xs) [] s i = absurd s
each-octets (x ∷ xs) (u ∷ us) s zero = s.0.1
each-octets (x ∷ xs) (u ∷ us) s (suc i) = each-octets xs us s.1 i

pub array_octets : (n : ℕ) (xs : List ℕ) (vs : List Val) → Is (Array (UInt w8) n) xs vs → Octets xs
array_octets n xs vs p = each-octets xs p.0 p.1.1

-- sums that are known but for a multiple of 65,535
pub both_mod : (a b x y : ℕ) → a % 65535 ≡ x % 65535 → b % 65535 ≡ y % 65535 → (a + b) % 65535 ≡ (x + y) % 65535
both_mod a b x y e f = omega arith

pub parts_mod : (a b c x y z n : ℕ) → a % 65535 ≡ x % 65535 → b % 65535 ≡ y % 65535 → c % 65535 ≡ z % 65535
    → (a + b + c + n) % 65535 ≡ (x + y + z + n) % 65535
parts_mod a b c x y z n e f g = both_mod (a + b + c) n (x + y + z) n (both_mod (a + b) c (x + y) z (both_mod a b x y e f) g) refl
