-- A test, and what it says.
use Rattle.std.specs.Prelude.{◌≡◌, Bool, true}

-- the test holds exactly where the statement does
abbrev pub Exactly : Bool → Type 0 → Type 0
Exactly test statement = (test ≡ true → statement) × (statement → test ≡ true)
