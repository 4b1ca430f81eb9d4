-- Laws of the first condition that a record breaks, as code puts it together.
use mathlib.Core.Path.{◌≡◌, refl, ◌∙◌}
use mathlib.Core.Bool.{Bool, cond}
use Prim.Native.Nat.{ℕ}
use Rattle.rules.specs.Sound.{where_used}

-- what a function that puts one condition before others says, with what is known of the condition and of the others
pub behind : (n : ℕ) {b condition : Bool} {r s others : ℕ} → b ≡ condition → r ≡ cond b s n → s ≡ others → r ≡ cond condition others n
behind n p e q = e ∙ (λ i. cond (p i) (q i) n)

-- a condition that is tested as it stands, and one that is tested where a field is used
pub itself : (condition : Bool) → condition ≡ condition
itself condition = refl

pub where_used_lem : (used : Bool) {b condition : Bool} → b ≡ condition → where_used used b ≡ where_used used condition
where_used_lem used e = λ i. where_used used (e i)
