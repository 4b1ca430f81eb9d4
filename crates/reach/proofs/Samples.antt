-- What some Args and some destination lead to, and what none does, as it computes: 2001:db8:b:1:: with Args from bit 64 on, and the SIDs
-- of rules with the prefix 2001:db8:c::/48.
use mathlib.Core.Path.{◌≡◌, refl}
use mathlib.Core.Bool.{true, false}
use mathlib.Core.List.{List, [], ◌∷◌}
use Prim.Native.Nat.{ℕ}
use Rattle.rules.specs.Octets.{splice}
use Rattle.rules.specs.Assigned.{downlink, uplink}
use Rattle.rules.proofs.Computing.{computing}
use Rattle.rules.proofs.Samples.{sid_of, network, rule}
use Rattle.reach.specs.Reach.{reaches6, reaches4}

-- 2001:db8:b:1::, with an octet where Args begin
abbrev first : ℕ → List ℕ
first octet = splice (sid_of 1) 8 (octet ∷ [])

flow_5 : reaches6 downlink (sid_of 1) 64 (first 0x14) 72 ≡ true
unfolding computing reaches6
flow_5 = refl

flow_5_reflective : reaches6 downlink (sid_of 1) 64 (first 0x16) 72 ≡ true
unfolding computing reaches6
flow_5_reflective = refl

-- R is 0 in uplink
not_in_uplink : reaches6 uplink (sid_of 1) 64 (first 0x16) 72 ≡ false
unfolding computing reaches6
not_in_uplink = refl

-- U is sent 0
not_unused : reaches6 downlink (sid_of 1) 64 (first 0x15) 72 ≡ false
unfolding computing reaches6
not_unused = refl

not_before_args : reaches6 downlink (sid_of 2) 64 (first 0x14) 72 ≡ false
unfolding computing reaches6
not_before_args = refl

-- the SID's own octets stand behind Args
not_behind_args : reaches6 downlink (splice (sid_of 1) 15 (1 ∷ [])) 64 (first 0x14) 128 ≡ false
unfolding computing reaches6
not_behind_args = refl

-- a rule for 10.128.0.0/16, and a prefix with an octet where the destination begins
abbrev ten : List ℕ
ten = splice (splice (rule []) 0 (16 ∷ [])) 8 (10 ∷ 128 ∷ [])

abbrev destination : ℕ → List ℕ
destination octet = splice (network 0xc) 6 (octet ∷ [])

-- 10.0.0.0/8 holds it
wider : reaches4 ten (destination 10) 56 ≡ true
unfolding computing reaches4
wider = refl

-- 10.0.0.0/9 does not, nor 11.0.0.0/8
not_beside : reaches4 ten (destination 10) 57 ≡ false
unfolding computing reaches4
not_beside = refl

not_eleven : reaches4 ten (destination 11) 56 ≡ false
unfolding computing reaches4
not_eleven = refl
