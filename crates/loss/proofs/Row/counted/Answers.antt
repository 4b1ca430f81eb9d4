use Rattle.std.proofs.Common.{◌≡◌, ℕ, ◌+◌, ◌-◌, ◌%◌, ◌<◌, Bool, true, false, ℤ, pos, sym, ap, ◌∙◌, w16, to_z, of_z, arith}
use Rattle.std.proofs.lemmas.Int.{of_z-to_z}
use lib.Signed.{lt_z}
use Rattle.loss.specs.Loss.{signed_of, New, Repeated, Late, distance, arrival_of, counted}
use Rattle.loss.proofs.Distances.{above, not_above, new_at, repeated_at, late_at}
use Rattle.loss.proofs.Row.counted.Goals as goal

-- what the wrapping subtraction gives
abbrev difference : (number highest : ℕ) → ℕ
difference number highest = (number + (65536 - highest)) % 65536

-- it is the difference of the definition, and the bits of its signed reading
module _ (number highest : ℕ) (z : ℤ) (fits : highest < 65536) (s : z ≡ to_z w16 (difference number highest)) where
  abbrev d : ℕ
  d = difference number highest

  small : d < 65536
  small = omega arith

  arrives : arrival_of (distance number highest) ≡ arrival_of (signed_of d)
  unfolding distance
  arrives = let e : (number + 65536 - highest) % 65536 ≡ d = omega arith in ap (λ (k : ℕ). arrival_of (signed_of k)) e

  bits : of_z w16 z ≡ d
  bits = ap (of_z w16) s ∙ of_z-to_z w16 d small

  test : (b : Bool) → lt_z (pos 0) (to_z w16 (of_z w16 z)) ≡ b → lt_z (pos 0) (to_z w16 d) ≡ b
  test b h = rw bits at h

  repeats : of_z w16 z ≡ 0 → arrival_of (distance number highest) ≡ Repeated
  repeats h = arrives ∙ repeated_at d small (sym bits ∙ h)

  is_new : lt_z (pos 0) (to_z w16 (of_z w16 z)) ≡ true → arrival_of (distance number highest) ≡ New (d - 1)
  is_new h = let p = above d small (test true h) in arrives ∙ new_at d small p.0 p.1

  is_late : lt_z (pos 0) (to_z w16 (of_z w16 z)) ≡ false → (of_z w16 z ≡ 0 → ⊥) → arrival_of (distance number highest) ≡ Late
  is_late h other = arrives ∙ late_at d small (not_above d small (test false h) (λ e. other (bits ∙ e)))

pub returns-then-distance-eq0 : goal.returns-then-distance-eq0
unfolding counted
returns-then-distance-eq0 c =
    let r = c.cast_signed-distance in
    rw (repeats c.args.number c.args.self.highest r.result (omega arith) r.ensures c.if-distance-eq0.true) cc

pub returns-then-distance-gt0 : goal.returns-then-distance-gt0
unfolding counted
returns-then-distance-gt0 c =
    let r = c.cast_signed-distance in
    rw (is_new c.args.number c.args.self.highest r.result (omega arith) r.ensures c.if-distance-gt0.true) cc

pub returns : goal.returns
unfolding counted
returns c =
    let r = c.cast_signed-distance in
    rw (is_late c.args.number c.args.self.highest r.result (omega arith) r.ensures c.if-distance-gt0.false c.if-distance-eq0.false) cc
