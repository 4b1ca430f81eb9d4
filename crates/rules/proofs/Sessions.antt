-- The next header that a session writes is one that the far side takes, and no header of the chain.
use mathlib.Core.Path.{◌≡◌, refl}
use mathlib.Core.Bool.{Bool, true, false, cond, ◌||◌, false≢true}
use mathlib.Core.List.{List}
use Prim.Native.Nat.{ℕ, ◌/◌}
use native.Mathlib.Omega.{arith}
use lib.Dec.{eqb}
use borrow.Author.Tests.{eqb-true}
use Rattle.rules.specs.Octets.{octet}
use Rattle.rules.specs.Assigned.{hop_by_hop, routing_header, fragment_header, destination_options, ipv4_session, ipv6_session}
use Rattle.rules.specs.Assigned.{ipv4v6_session}
use Rattle.rules.specs.Assigned.{ethernet_session, ipv4_protocol, ipv6_protocol}
use Rattle.rules.specs.Sound.{session_known}
use Rattle.rules.specs.Session.{inner_protocol, accepts}

pub record Carries (session upper : ℕ) : Type 0 where
  pub not0 : upper ≡ hop_by_hop → ⊥
  pub not43 : upper ≡ routing_header → ⊥
  pub not44 : upper ≡ fragment_header → ⊥
  pub not60 : upper ≡ destination_options → ⊥
  pub taken : accepts session upper ≡ true

-- a session type that is known is one of four
module _ (P : ℕ → Type 0) (s : ℕ) (p1 : P ipv4_session) (p2 : P ipv6_session) (p3 : P ipv4v6_session) (p5 : P ethernet_session) where
  fourth : (b : Bool) → eqb s ethernet_session ≡ b → b ≡ true → P s
  fourth true e h = rw (eqb-true s ethernet_session e) p5
  fourth false e h = absurd (false≢true h)

  third : (b : Bool) → eqb s ipv4v6_session ≡ b → b || eqb s ethernet_session ≡ true → P s
  third true e h = rw (eqb-true s ipv4v6_session e) p3
  third false e h = fourth (eqb s ethernet_session) refl h

  second : (b : Bool) → eqb s ipv6_session ≡ b → b || (eqb s ipv4v6_session || eqb s ethernet_session) ≡ true → P s
  second true e h = rw (eqb-true s ipv6_session e) p2
  second false e h = third (eqb s ipv4v6_session) refl h

  first : (b : Bool) → eqb s ipv4_session ≡ b → b || (eqb s ipv6_session || (eqb s ipv4v6_session || eqb s ethernet_session)) ≡ true → P s
  first true e h = rw (eqb-true s ipv4_session e) p1
  first false e h = second (eqb s ipv6_session) refl h

  pub session_cases : session_known s ≡ true → P s
  session_cases h = first (eqb s ipv4_session) refl h

carries_either : (b : Bool) → Carries ipv4v6_session (cond b ipv4_protocol ipv6_protocol)
unfolding accepts
carries_either true = record { not0 = omega arith; not43 = omega arith; not44 = omega arith; not60 = omega arith; taken = refl }
carries_either false = record { not0 = omega arith; not43 = omega arith; not44 = omega arith; not60 = omega arith; taken = refl }

pub carries : (session : ℕ) (inner : List ℕ) → session_known session ≡ true → Carries session (inner_protocol session inner)
unfolding inner_protocol accepts
carries session inner h =
    session_cases (λ s. Carries s (inner_protocol s inner)) session
    (record { not0 = omega arith; not43 = omega arith; not44 = omega arith; not60 = omega arith; taken = refl })
    (record { not0 = omega arith; not43 = omega arith; not44 = omega arith; not60 = omega arith; taken = refl })
    (carries_either (eqb (octet inner 0 / 16) 4))
    (record { not0 = omega arith; not43 = omega arith; not44 = omega arith; not60 = omega arith; taken = refl })
    h
