-- What a function says of two tables.
use Rattle.std.specs.Prelude.{◌≡◌, true, List, ℕ, Option, MatchOption}
use Rattle.rules.specs.Sound.{sound}
use Rattle.pair.specs.Mismatch.{unless}

-- both tables are sound, or that is the first condition that fails, whatever is asked behind it
abbrev pub Unsound : (near far : List ℕ) → Option ℕ → Type 0
Unsound near far r =
    MatchOption r ((sound near ≡ true) × (sound far ≡ true))
    (λ n. (behind : ℕ) → n ≡ unless (sound near) 1 (unless (sound far) 2 behind))
