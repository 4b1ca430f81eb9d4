-- Which entries of a table the SIDs of a near record can come under, told without a packet: a policy's last SID with any Args that can be
-- written there, and the SID that a rule builds, also for any destination under the rule's prefix.
use Rattle.std.specs.Prelude.{◌≡◌, ◌≢◌, Bool, true, cond, ◌&&◌, List, ℕ, ◌-◌, ◌*◌, ◌<◌, eqb, length, Option}
use Rattle.rules.specs.Octets.{Octets, window}
use Rattle.rules.specs.Prefix.{under}
use Rattle.rules.specs.Assigned.{downlink}
use Rattle.rules.specs.Table.{entries, entry_at}
use Rattle.rules.specs.Entry as Entry
use Rattle.rules.specs.Rule as Rule
use Rattle.rules.specs.Match.{longest, entry_bits}
use Rattle.rules.specs.Args.{Args, args_at, with_args}
use Rattle.rules.specs.E4.{start_behind}
use Rattle.rules.specs.D4.{address_behind}

-- WHAT A PACKET MAY BRING

-- Args that can be written in a direction: in uplink R is 0
pub record Writable (direction : ℕ) (x : Args) : Type 0 where
  pub qfi : x.qfi < 64
  pub reflective : x.reflective < 2
  pub not_downlink : direction ≢ downlink → x.reflective ≡ 0
  pub size : length x.teid ≡ 4
  pub octets : Octets x.teid

-- an IPv4 destination under a rule's prefix
pub record Under (r destination : List ℕ) : Type 0 where
  pub size : length destination ≡ 4
  pub octets : Octets destination
  pub under : under 4 destination (Rule.prefix r) (Rule.prefix_length r) ≡ true

-- the SID that a rule builds
abbrev pub rule_sid : (r destination : List ℕ) → Args → List ℕ
rule_sid r destination x = with_args (address_behind (Rule.sid_prefix r) (Rule.p r) destination) (start_behind (Rule.p r)) x

-- ONE ENTRY

-- Args as they are written in a direction
abbrev pub in_direction : (direction : ℕ) → Args → Args
in_direction direction x = record { qfi = x.qfi; reflective = cond (eqb direction downlink) x.reflective 0; teid = x.teid }

-- a prefix's own Args: those that stand in it from a bit on
abbrev pub own_args : (direction : ℕ) (prefix : List ℕ) (start : ℕ) → Args
own_args direction prefix start = in_direction direction (args_at prefix start)

-- A SID comes under a prefix of b bits with some Args where it does with the prefix's own.
unfoldable pub reaches6 : (direction : ℕ) (sid : List ℕ) (start : ℕ) (prefix : List ℕ) (b : ℕ) → Bool
reaches6 direction sid start prefix b = under 16 (with_args sid start (own_args direction prefix start)) prefix b

-- the smaller of two numbers
abbrev pub smaller : ℕ → ℕ → ℕ
smaller x y = x - (x - y)

-- the destination that stands in a prefix where a rule writes it
abbrev pub own_destination : (r prefix : List ℕ) → List ℕ
own_destination r prefix = window prefix (Rule.p r) 4

-- A rule's SID comes under a prefix of b bits with some destination and some Args where it does with the prefix's own, and where the
-- own destination lies under the rule's prefix as far as both prefixes go.
unfoldable pub reaches4 : (r prefix : List ℕ) (b : ℕ) → Bool
reaches4 r prefix b =
    let d = own_destination r prefix in
    let x = own_args (Rule.direction r) prefix (start_behind (Rule.p r)) in
    under 16 (rule_sid r d x) prefix b && under 4 d (Rule.prefix r) (smaller (Rule.prefix_length r) (b - 8 * Rule.p r))

-- THE LONGEST ENTRY

abbrev pub entry_reached6 : (t : List ℕ) (direction : ℕ) (sid : List ℕ) (start : ℕ) → ℕ → Bool
entry_reached6 t direction sid start k = reaches6 direction sid start (Entry.prefix (entry_at t k)) (entry_bits t k)

unfoldable pub reach6 : (t : List ℕ) (direction : ℕ) (sid : List ℕ) (start : ℕ) → Option ℕ
reach6 t direction sid start = longest (entry_reached6 t direction sid start) (entry_bits t) (entries t)

abbrev pub entry_reached4 : (t r : List ℕ) → ℕ → Bool
entry_reached4 t r k = reaches4 r (Entry.prefix (entry_at t k)) (entry_bits t k)

unfoldable pub reach4 : (t r : List ℕ) → Option ℕ
reach4 t r = longest (entry_reached4 t r) (entry_bits t) (entries t)
