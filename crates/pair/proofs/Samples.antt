-- Each number once, of tables that compute: Di, E6, waypoint and E4, a rule, and a policy past two waypoints, with an octet changed. And
-- what the test sees: longer entries that some Args or destinations lead to, and those that none do.
use mathlib.Core.Path.{◌≡◌, refl}
use mathlib.Core.List.{List, [], ◌∷◌, ◌++◌}
use Prim.Native.Nat.{ℕ, ◌+◌, ◌*◌}
use Rattle.rules.specs.Octets.{splice}
use Rattle.rules.specs.Assigned.{end, end_m_gtp6d_di, end_m_gtp6e, end_m_gtp4e}
use Rattle.rules.specs.Fault.{told}
use Rattle.rules.proofs.Computing.{computing}
use Rattle.rules.proofs.Samples.{header, entry, table, sid_of, network, zeros}
use Rattle.reach.specs.Reach.{reaches6, reaches4, reach6, reach4}
use Rattle.pair.specs.Mismatch.{mismatch6, mismatch4, mismatch_waypoint}
use Rattle.pair.specs.Says.{naming}

-- ONE OCTET CHANGED

-- near and far at once
abbrev both : List ℕ
both = table end_m_gtp6d_di 2

-- with a field of entry i, or of the rule, changed
abbrev with_entry : (i field value : ℕ) → List ℕ
with_entry i field value = splice both (16 + 64 * i + field) (value ∷ [])

abbrev with_rule : (field value : ℕ) → List ℕ
with_rule field value = splice both (272 + field) (value ∷ [])

pub fits6 : mismatch6 both both 0 ≡ 0
unfolding computing told reaches6 reach6 mismatch6
fits6 = refl

pub fits4 : mismatch4 both both 0 ≡ 0
unfolding computing told reaches4 reach4 mismatch4
fits4 = refl

pub fits-waypoint : mismatch_waypoint both (sid_of 2) ≡ 0
unfolding computing told mismatch_waypoint
fits-waypoint = refl

pub number1 : mismatch6 [] both 0 ≡ 1
unfolding computing told reaches6 reach6 mismatch6
number1 = refl

pub number2 : mismatch6 both [] 0 ≡ 2
unfolding computing told reaches6 reach6 mismatch6
number2 = refl

pub number3 : mismatch6 both both 4 ≡ 3
unfolding computing told reaches6 reach6 mismatch6
number3 = refl

pub number4 : mismatch6 both both 1 ≡ 4
unfolding computing told reaches6 reach6 mismatch6
number4 = refl

pub number5 : mismatch6 both (header 0 0 0 []) 0 ≡ 5
unfolding computing told reaches6 reach6 mismatch6
number5 = refl

pub number6 : mismatch6 both (with_entry 1 0 end) 0 ≡ naming 6 1
unfolding computing told reaches6 reach6 mismatch6
number6 = refl

-- uplink
pub number7 : mismatch6 both (with_entry 1 3 1) 0 ≡ naming 7 1
unfolding computing told reaches6 reach6 mismatch6
number7 = refl

-- IPv4 sessions
pub number8 : mismatch6 both (with_entry 1 4 1) 0 ≡ naming 8 1
unfolding computing told reaches6 reach6 mismatch6
number8 = refl

-- Args at octet 9 against 8
pub number9 : mismatch6 both (with_entry 1 6 72) 0 ≡ naming 9 1
unfolding computing told reaches6 reach6 mismatch6
number9 = refl

pub number10 : mismatch4 both (with_entry 3 7 7) 0 ≡ naming 10 3
unfolding computing told reaches4 reach4 mismatch4
number10 = refl

pub number11 : mismatch4 both (with_entry 3 8 9) 0 ≡ naming 11 3
unfolding computing told reaches4 reach4 mismatch4
number11 = refl

-- a hop limit of 2 past two waypoints; 3 is enough
pub number12 : mismatch6 (with_entry 0 2 2) both 0 ≡ naming 12 1
unfolding computing told reaches6 reach6 mismatch6
number12 = refl

pub enough : mismatch6 (with_entry 0 2 3) both 0 ≡ 0
unfolding computing told reaches6 reach6 mismatch6
enough = refl

pub number12_rule : mismatch4 (with_rule 1 2) both 0 ≡ naming 12 3
unfolding computing told reaches4 reach4 mismatch4
number12_rule = refl

pub enough_rule : mismatch4 (with_rule 1 3) both 0 ≡ 0
unfolding computing told reaches4 reach4 mismatch4
enough_rule = refl

pub number13 : mismatch_waypoint [] (sid_of 2) ≡ 13
unfolding computing told mismatch_waypoint
number13 = refl

pub number14 : mismatch_waypoint both [] ≡ 14
unfolding computing told mismatch_waypoint
number14 = refl

pub number15 : mismatch_waypoint both (sid_of 3) ≡ 15
unfolding computing told mismatch_waypoint
number15 = refl

pub number16 : mismatch_waypoint both (sid_of 1) ≡ naming 16 1
unfolding computing told mismatch_waypoint
number16 = refl

-- LONGER ENTRIES

-- 2001:db8:b:1:, then an octet
abbrev args_from : (first : ℕ) → List ℕ
args_from first = 0x20 ∷ 0x01 ∷ 0x0d ∷ 0xb8 ∷ 0 ∷ 0x0b ∷ 0 ∷ 1 ∷ first ∷ zeros 7

-- E6 for 2001:db8:b:1::/64, in a direction, and a waypoint entry for the first octet of Args
abbrev longer6 : (direction first : ℕ) → List ℕ
longer6 direction first = header 2 0 0 (splice (entry end_m_gtp6e 64 (sid_of 1)) 3 (direction ∷ []) ++ entry end 72 (args_from first))

-- flow 5 with R goes there
pub some_args : mismatch6 both (longer6 0 0x16) 0 ≡ naming 6 1
unfolding computing told reaches6 reach6 mismatch6
some_args = refl

-- U is sent 0
pub unused-bit : mismatch6 both (longer6 0 0x15) 0 ≡ 0
unfolding computing told reaches6 reach6 mismatch6
unused-bit = refl

-- in uplink flow 5 goes there, and with R none does
pub uplink_args : mismatch6 (with_entry 0 3 1) (longer6 1 0x14) 0 ≡ naming 6 1
unfolding computing told reaches6 reach6 mismatch6
uplink_args = refl

pub no_r_in_uplink : mismatch6 (with_entry 0 3 1) (longer6 1 0x16) 0 ≡ 0
unfolding computing told reaches6 reach6 mismatch6
no_r_in_uplink = refl

-- E4 for 2001:db8:c::/48, and a waypoint entry for the first octet of the destination; a rule for 10.0.0.0/8
abbrev longer4 : (first : ℕ) → List ℕ
longer4 first = header 2 0 0 (entry end_m_gtp4e 48 (network 0xc) ++ entry end 56 (splice (network 0xc) 6 (first ∷ [])))

abbrev ten : List ℕ
ten = splice (with_rule 0 8) 280 (10 ∷ [])

pub some_destination : mismatch4 ten (longer4 10) 0 ≡ naming 6 1
unfolding computing told reaches4 reach4 mismatch4
some_destination = refl

pub other-destination : mismatch4 ten (longer4 11) 0 ≡ 0
unfolding computing told reaches4 reach4 mismatch4
other-destination = refl

-- but a rule for any destination goes there
pub any-destination : mismatch4 both (longer4 11) 0 ≡ naming 6 1
unfolding computing told reaches4 reach4 mismatch4
any-destination = refl
