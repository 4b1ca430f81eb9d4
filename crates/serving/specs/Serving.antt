-- What the functions of a burst ask for, and what they leave behind.
use Rattle.std.specs.Prelude.{◌≡◌, List, ℕ, ◌/◌, ◌<◌, length}
use Rattle.rules.specs.Octets.{splice}
use Rattle.rules.specs.Answer.{Outcome, overlay, packed}
use Rattle.rules.specs.Trip.{Version}
use Rattle.copying.specs.Run.{Run}
use Rattle.burst.specs.Burst.{cut, result, outcomes, results, answers, burst, answered}

-- One packet: its outcome was answered in one number, from which the length can be read, and its result was put into the buffer from
-- octet `used` on.
pub record PacksAt (used : ℕ) (o : Outcome) (before : List ℕ) (answer : ℕ) (after : List ℕ) : Type 0 where
  pub tells : answer ≡ packed o
  pub holds : Run before used (answer / 0x10000000000) (result o) after
  pub small : answer / 0x10000000000 < 65700

-- All packets: the results, `size` octets, were put into the output, and the answers into their places.
pub record Served (v : Version) (lengths octets table output places : List ℕ) (size : ℕ) (output' places' : List ℕ) : Type 0 where
  pub holds : Run output 0 size (results (outcomes v table (cut lengths octets) (length output))) output'
  pub tells : places' ≡ splice places 0 (answers (outcomes v table (cut lengths octets) (length output)))
  pub small : size < 16777216

-- The burst as a whole: what it answers, and what the output and the places for answers hold afterwards.
abbrev pub Whole : Version → (lengths octets table output places : List ℕ) (answer : ℕ) (output' places' : List ℕ) → Type 0
Whole v ls octets t output places answer output' places' =
    (answer ≡ packed (burst v ls octets t (length output) (length places)))
    × (output' ≡ overlay (burst v ls octets t (length output) (length places)) output)
    × (places' ≡ answered v ls octets t (length output) places)
