-- Sound tables, said a second time: the sentences of docs/RULES.md, Sound tables, and the table's layout, through the readers of the
-- records and in plain numbers. No condition of Sound.antt is named here.
use Rattle.std.specs.Prelude.{◌≡◌, ◌≢◌, List, ℕ, ◌+◌, ◌-◌, ◌*◌, ◌/◌, ◌%◌, ◌^◌, ◌≤◌, ◌<◌, length}
use Rattle.rules.specs.Octets.{octet}
use Rattle.rules.specs.Table.{format, entries, rules, policies, entry_at, rule_at, policy_at}
use Rattle.rules.specs.Entry as Entry
use Rattle.rules.specs.Rule as Rule
use Rattle.rules.specs.Policy as Policy

-- VALUES OF FIELDS

-- the kinds of entry
pub data Kind (behaviour : ℕ) : Type 0 where
  waypoint : behaviour ≡ 1 → Kind behaviour
  d : behaviour ≡ 69 → Kind behaviour
  di : behaviour ≡ 70 → Kind behaviour
  e6 : behaviour ≡ 71 → Kind behaviour
  e4 : behaviour ≡ 72 → Kind behaviour

pub data Direction (direction : ℕ) : Type 0 where
  downlink : direction ≡ 0 → Direction direction
  uplink : direction ≡ 1 → Direction direction

pub data SessionType (session : ℕ) : Type 0 where
  ipv4 : session ≡ 1 → SessionType session
  ipv6 : session ≡ 2 → SessionType session
  ipv4v6 : session ≡ 3 → SessionType session
  ethernet : session ≡ 5 → SessionType session

-- hop limits and TTLs are 1 to 255
pub record Hops (hop_limit : ℕ) : Type 0 where
  pub least : 1 ≤ hop_limit
  pub most : hop_limit ≤ 255

-- Args begin at octet a, a from 0 to 11; the field holds 8a
pub record ArgsStart (start : ℕ) : Type 0 where
  pub a : ℕ
  pub most : a ≤ 11
  pub held : start ≡ 8 * a

-- a mark is 0 or 1
pub data Mark (mark : ℕ) : Type 0 where
  unset : mark ≡ 0 → Mark mark
  set : mark ≡ 1 → Mark mark

-- bit b of an address, the first being bit 0
abbrev pub bit : (address : List ℕ) (b : ℕ) → ℕ
bit address b = octet address (b / 8) / 2 ^ (7 - b % 8) % 2

-- the bits of a prefix past its length, up to the width of the address, are 0
abbrev pub NoBitsPast : (length : ℕ) (prefix : List ℕ) (width : ℕ) → Type 0
NoBitsPast length prefix width = (b : ℕ) → length ≤ b → b < width → bit prefix b ≡ 0

-- RECORDS

-- an entry e of a table with so many policies; what a kind does not use may be anything
pub record RightEntry (count : ℕ) (e : List ℕ) : Type 0 where
  pub kind : Kind (Entry.behaviour e)
  pub prefix_length : Entry.prefix_length e ≤ 128
  pub prefix : NoBitsPast (Entry.prefix_length e) (Entry.prefix e) 128
  pub hopLimit : Hops (Entry.hop_limit e)
  -- all but the waypoint
  pub direction : Entry.behaviour e ≢ 1 → Direction (Entry.direction e)
  pub session : Entry.behaviour e ≢ 1 → SessionType (Entry.session e)
  -- D and Di: every policy named exists
  pub policy_of_d : Entry.behaviour e ≡ 69 → Entry.policy e < count
  pub policy_of_di : Entry.behaviour e ≡ 70 → Entry.policy e < count
  -- E6: its prefix has at most 8a bits
  pub start_of_e6 : Entry.behaviour e ≡ 71 → ArgsStart (Entry.start e)
  pub prefix_of_e6 : Entry.behaviour e ≡ 71 → Entry.prefix_length e ≤ Entry.start e
  -- E4: its prefix has at most 8p bits
  pub p_of_e4 : Entry.behaviour e ≡ 72 → Entry.p e ≤ 7
  pub q_of_e4 : Entry.behaviour e ≡ 72 → Entry.q e ≤ 12
  pub prefix_of_e4 : Entry.behaviour e ≡ 72 → Entry.prefix_length e ≤ 8 * Entry.p e
  -- D and Di: whether a UDP checksum of zero is allowed; the octet of the others is reserved
  pub zero_checksum_of_d : Entry.behaviour e ≡ 69 → Mark (Entry.zero_checksum e)
  pub zero_checksum_of_di : Entry.behaviour e ≡ 70 → Mark (Entry.zero_checksum e)
  pub reserved : Entry.behaviour e ≢ 69 → Entry.behaviour e ≢ 70 → Entry.zero_checksum e ≡ 0

pub record RightRule (r : List ℕ) : Type 0 where
  pub prefix_length : Rule.prefix_length r ≤ 32
  pub prefix : NoBitsPast (Rule.prefix_length r) (Rule.prefix r) 32
  pub hopLimit : Hops (Rule.hop_limit r)
  pub direction : Direction (Rule.direction r)
  pub session : SessionType (Rule.session r)
  pub p : Rule.p r ≤ 7
  pub q : Rule.q r ≤ 12
  pub sid_prefix : NoBitsPast (8 * Rule.p r) (Rule.sid_prefix r) 128
  pub source_prefix : NoBitsPast (8 * Rule.q r) (Rule.source_prefix r) 128
  pub waypoints : Rule.waypoint_count r ≤ 7
  pub reserved : Rule.reserved r ≡ 0

pub record RightPolicy (policy : List ℕ) : Type 0 where
  pub least_sids : 1 ≤ Policy.sid_count policy
  pub most_sids : Policy.sid_count policy ≤ 8
  pub start : ArgsStart (Policy.start policy)
  pub reserved : Policy.reserved policy ≡ 0

-- THE TABLE

pub record SoundTable (t : List ℕ) : Type 0 where
  pub layout : format t ≡ 1
  pub entry_count : entries t ≤ 64
  pub rule_count : rules t ≤ 16
  pub policy_count : policies t ≤ 16
  pub size : length t ≡ 16 + 64 * entries t + 160 * rules t + 288 * policies t
  pub entry : (i : ℕ) → i < entries t → RightEntry (policies t) (entry_at t i)
  pub rule : (k : ℕ) → k < rules t → RightRule (rule_at t k)
  pub policy : (j : ℕ) → j < policies t → RightPolicy (policy_at t j)
  -- no prefix with its length occurs twice among entries or among rules
  pub entries_apart : (i j : ℕ) → i < j → j < entries t
      → Entry.prefix_length (entry_at t i) ≡ Entry.prefix_length (entry_at t j) → Entry.prefix (entry_at t i) ≢ Entry.prefix (entry_at t j)
  pub rules_apart : (i j : ℕ) → i < j → j < rules t
      → Rule.prefix_length (rule_at t i) ≡ Rule.prefix_length (rule_at t j) → Rule.prefix (rule_at t i) ≢ Rule.prefix (rule_at t j)
