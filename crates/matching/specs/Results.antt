-- What functions say of what they found.
use Rattle.std.specs.Prelude.{◌≡◌, Bool, ℕ, ◌≤◌, ◌<◌, Option, Some, None}
use Rattle.rules.specs.Match.{longer, longest}

-- what is found is below n
abbrev pub Below : Option ℕ → ℕ → Type 0
Below None n = Unit {0}
Below (Some i) n = i < n

-- the longer of what is found and i, which matches, where `bits i` is what a closure answers at i
abbrev pub Longer : (bits : ℕ → ℕ → Type 0) (found : Option ℕ) (i : ℕ) (r : Option ℕ) → Type 0
Longer bits found i r = (l : ℕ → ℕ) → ((j b : ℕ) → j ≤ i → bits j b → b ≡ l j) → r ≡ longer l found i

-- the longest of the numbers below n, where `matches i` and `bits i` are what two closures answer at i
abbrev pub Longest : (matches : ℕ → Bool → Type 0) (bits : ℕ → ℕ → Type 0) (n : ℕ) (r : Option ℕ) → Type 0
Longest matches bits n r =
    (m : ℕ → Bool) → ((i : ℕ) (b : Bool) → i < n → matches i b → b ≡ m i)
    → (l : ℕ → ℕ) → ((i b : ℕ) → i < n → bits i b → b ≡ l i)
    → r ≡ longest m l n
