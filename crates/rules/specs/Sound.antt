-- Sound tables (house): one named condition for each sentence, tested where the behaviour uses the field.
use Rattle.std.specs.Prelude.{Bool, true, not, ◌&&◌, ◌||◌, List, [], ◌∷◌, ℕ, zero, suc, ◌*◌, ◌%◌, eqb, leb, ltb, length}
use Rattle.rules.specs.Octets.{number}
use Rattle.rules.specs.Prefix.{clear}
use Rattle.rules.specs.Assigned.{end, end_m_gtp6d, end_m_gtp6d_di, end_m_gtp6e, end_m_gtp4e, ipv4_session, ipv6_session, ipv4v6_session}
use Rattle.rules.specs.Assigned.{ethernet_session, downlink, uplink}
use Rattle.rules.specs.Table.{format, entries, rules, policies, table_size, entry_at, rule_at, policy_at}
use Rattle.rules.specs.Entry as Entry
use Rattle.rules.specs.Rule as Rule
use Rattle.rules.specs.Policy as Policy

-- all of some conditions hold
abbrev pub every : List Bool → Bool
every [] = true
every (b ∷ bs) = b && every bs

-- a condition holds of each number below n
unfoldable pub all : (ℕ → Bool) → ℕ → Bool
all holds zero = true
all holds (suc n) = all holds n && holds n

-- a condition that is tested where a field is used
abbrev pub where_used : (used condition : Bool) → Bool
where_used used condition = not used || condition

-- THE TABLE'S OWN HEADER

abbrev pub format_known : List ℕ → Bool
format_known t = eqb (format t) 1

-- at most 64 SID entries, 16 IPv4 rules, 16 policies; the limit of entries is an argument
abbrev pub entry_limit : ℕ
entry_limit = 64

abbrev pub entries_within : (limit : ℕ) → List ℕ → Bool
entries_within limit t = leb (entries t) limit

abbrev pub rules_within : List ℕ → Bool
rules_within t = leb (rules t) 16

abbrev pub policies_within : List ℕ → Bool
policies_within t = leb (policies t) 16

-- the octets are those of the records
abbrev pub size_agrees : List ℕ → Bool
size_agrees t = eqb (length t) (table_size t)

abbrev pub header_conditions : (limit : ℕ) → List ℕ → List Bool
header_conditions limit t = format_known t ∷ entries_within limit t ∷ rules_within t ∷ policies_within t ∷ size_agrees t ∷ []

unfoldable pub header_sound : (limit : ℕ) → List ℕ → Bool
header_sound limit t = every (header_conditions limit t)

-- FIELDS OF ENTRIES, RULES AND POLICIES

-- prefix lengths are 0 to 128, in rules 0 to 32
abbrev pub prefix_length_within : (most bits : ℕ) → Bool
prefix_length_within most bits = leb bits most

-- hop limits and TTLs are 1 to 255, the most that an octet holds
abbrev pub hop_limit_within : ℕ → Bool
hop_limit_within h = leb 1 h

-- a direction not named here makes a table unsound
abbrev pub direction_known : ℕ → Bool
direction_known d = eqb d downlink || eqb d uplink

-- nor may a session type be another
abbrev pub session_known : ℕ → Bool
session_known s = eqb s ipv4_session || (eqb s ipv6_session || (eqb s ipv4v6_session || eqb s ethernet_session))

-- Args begin at octet a, a from 0 to 11; the start is held in bits
abbrev pub start_within : ℕ → Bool
start_within start = eqb (start % 8) 0 && leb start 88

-- p is at most 7 and q at most 12
abbrev pub p_within : ℕ → Bool
p_within p = leb p 7

abbrev pub q_within : ℕ → Bool
q_within q = leb q 12

-- a reserved octet is 0
abbrev pub reserved_clear : ℕ → Bool
reserved_clear x = eqb x 0

-- a mark is 0 or 1
abbrev pub mark_known : ℕ → Bool
mark_known x = leb x 1

-- AN ENTRY

-- which behaviours use a field
abbrev pub uses_session : List ℕ → Bool
uses_session e = not (eqb (Entry.behaviour e) end)

abbrev pub uses_policy : List ℕ → Bool
uses_policy e = eqb (Entry.behaviour e) end_m_gtp6d || eqb (Entry.behaviour e) end_m_gtp6d_di

abbrev pub uses_start : List ℕ → Bool
uses_start e = eqb (Entry.behaviour e) end_m_gtp6e

abbrev pub uses_places : List ℕ → Bool
uses_places e = eqb (Entry.behaviour e) end_m_gtp4e

-- a kind not named here makes a table unsound
abbrev pub behaviour_known : List ℕ → Bool
behaviour_known e =
    eqb (Entry.behaviour e) end
    || (eqb (Entry.behaviour e) end_m_gtp6d
    || (eqb (Entry.behaviour e) end_m_gtp6d_di || (eqb (Entry.behaviour e) end_m_gtp6e || eqb (Entry.behaviour e) end_m_gtp4e)))

-- bits past a prefix's length are 0
abbrev pub prefix_clear : List ℕ → Bool
prefix_clear e = clear 16 (Entry.prefix e) (Entry.prefix_length e)

-- every policy named exists
abbrev pub policy_exists : (policies : ℕ) → List ℕ → Bool
policy_exists policies e = where_used (uses_policy e) (ltb (Entry.policy e) policies)

-- an E6 prefix has at most 8a bits
abbrev pub prefix_before_args : List ℕ → Bool
prefix_before_args e = leb (Entry.prefix_length e) (Entry.start e)

-- an E4 prefix has at most 8p bits
abbrev pub prefix_before_address : List ℕ → Bool
prefix_before_address e = leb (Entry.prefix_length e) (8 * Entry.p e)

-- the last: what is a mark at D and Di is a reserved octet at the others
abbrev pub entry_conditions : (policies : ℕ) → List ℕ → List Bool
entry_conditions policies e =
    behaviour_known e
    ∷ prefix_length_within 128 (Entry.prefix_length e)
    ∷ prefix_clear e
    ∷ hop_limit_within (Entry.hop_limit e)
    ∷ where_used (uses_session e) (direction_known (Entry.direction e))
    ∷ where_used (uses_session e) (session_known (Entry.session e))
    ∷ policy_exists policies e
    ∷ where_used (uses_start e) (start_within (Entry.start e))
    ∷ where_used (uses_start e) (prefix_before_args e)
    ∷ where_used (uses_places e) (p_within (Entry.p e))
    ∷ where_used (uses_places e) (q_within (Entry.q e))
    ∷ where_used (uses_places e) (prefix_before_address e)
    ∷ (uses_policy e || reserved_clear (Entry.zero_checksum e))
    ∷ []

-- that a UDP checksum of zero is allowed is a mark of D and Di
abbrev pub entry_marks : List ℕ → List Bool
entry_marks e = where_used (uses_policy e) (mark_known (Entry.zero_checksum e)) ∷ []

unfoldable pub entry_sound : (policies : ℕ) → List ℕ → Bool
entry_sound policies e = every (entry_conditions policies e) && every (entry_marks e)

-- A RULE

abbrev pub rule_prefix_clear : List ℕ → Bool
rule_prefix_clear r = clear 4 (Rule.prefix r) (Rule.prefix_length r)

-- bits past 8p and 8q of its two IPv6 prefixes are 0
abbrev pub sid_prefix_clear : List ℕ → Bool
sid_prefix_clear r = clear 16 (Rule.sid_prefix r) (8 * Rule.p r)

abbrev pub source_prefix_clear : List ℕ → Bool
source_prefix_clear r = clear 16 (Rule.source_prefix r) (8 * Rule.q r)

-- a rule has 0 to 7 waypoints
abbrev pub waypoints_within : List ℕ → Bool
waypoints_within r = leb (Rule.waypoint_count r) 7

abbrev pub rule_conditions : List ℕ → List Bool
rule_conditions r =
    prefix_length_within 32 (Rule.prefix_length r)
    ∷ rule_prefix_clear r
    ∷ hop_limit_within (Rule.hop_limit r)
    ∷ direction_known (Rule.direction r)
    ∷ session_known (Rule.session r)
    ∷ p_within (Rule.p r)
    ∷ q_within (Rule.q r)
    ∷ sid_prefix_clear r
    ∷ source_prefix_clear r
    ∷ waypoints_within r
    ∷ reserved_clear (Rule.reserved r)
    ∷ []

unfoldable pub rule_sound : List ℕ → Bool
rule_sound r = every (rule_conditions r)

-- A POLICY

-- a policy has 1 to 8 SIDs
abbrev pub sids_within : List ℕ → Bool
sids_within policy = leb 1 (Policy.sid_count policy) && leb (Policy.sid_count policy) 8

abbrev pub policy_conditions : List ℕ → List Bool
policy_conditions policy = sids_within policy ∷ start_within (Policy.start policy) ∷ reserved_clear (Policy.reserved policy) ∷ []

unfoldable pub policy_sound : List ℕ → Bool
policy_sound policy = every (policy_conditions policy)

-- NO PREFIX WITH ITS LENGTH OCCURS TWICE

unfoldable pub same_entry_prefix : (t : List ℕ) (i j : ℕ) → Bool
same_entry_prefix t i j =
    eqb (Entry.prefix_length (entry_at t i)) (Entry.prefix_length (entry_at t j))
    && eqb (number (Entry.prefix (entry_at t i)) 0 16) (number (Entry.prefix (entry_at t j)) 0 16)

unfoldable pub same_rule_prefix : (t : List ℕ) (i j : ℕ) → Bool
same_rule_prefix t i j =
    eqb (Rule.prefix_length (rule_at t i)) (Rule.prefix_length (rule_at t j))
    && eqb (number (Rule.prefix (rule_at t i)) 0 4) (number (Rule.prefix (rule_at t j)) 0 4)

-- no number before j is the same as j
abbrev pub fresh : (same : ℕ → ℕ → Bool) → ℕ → Bool
fresh same j = all (λ i. not (same i j)) j

-- no two of the numbers below n are the same
unfoldable pub distinct : (same : ℕ → ℕ → Bool) → ℕ → Bool
distinct same n = all (λ j. fresh same j) n

-- THE TABLE

unfoldable pub sound_within : (limit : ℕ) → List ℕ → Bool
sound_within limit t =
    header_sound limit t
    && (all (λ i. entry_sound (policies t) (entry_at t i)) (entries t)
    && (distinct (same_entry_prefix t) (entries t)
    && (all (λ k. rule_sound (rule_at t k)) (rules t)
    && (distinct (same_rule_prefix t) (rules t) && all (λ j. policy_sound (policy_at t j)) (policies t)))))

abbrev pub sound : List ℕ → Bool
sound t = sound_within entry_limit t
