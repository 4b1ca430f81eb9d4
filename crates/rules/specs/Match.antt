-- Longest match among the entries, and among the rules, of a table.
use Rattle.std.specs.Prelude.{Bool, cond, List, ℕ, zero, suc, ltb, Option, Some, None}
use Rattle.rules.specs.Prefix.{under}
use Rattle.rules.specs.Table.{entries, rules, entry_at, rule_at}
use Rattle.rules.specs.Entry as Entry
use Rattle.rules.specs.Rule as Rule

-- what is found so far, and i, which matches: i where it is longer
abbrev pub longer : (bits : ℕ → ℕ) → Option ℕ → ℕ → Option ℕ
longer bits None i = Some i
longer bits (Some j) i = cond (ltb (bits j) (bits i)) (Some i) (Some j)

-- among the numbers below n that match, the one with the most bits
unfoldable pub longest : (matches : ℕ → Bool) (bits : ℕ → ℕ) (n : ℕ) → Option ℕ
longest matches bits zero = None
longest matches bits (suc i) = cond (matches i) (longer bits (longest matches bits i) i) (longest matches bits i)

-- entry i matches an IPv6 address, and the bits of its prefix
abbrev pub entry_matches : (t address : List ℕ) → ℕ → Bool
entry_matches t address i = under 16 address (Entry.prefix (entry_at t i)) (Entry.prefix_length (entry_at t i))

abbrev pub entry_bits : (t : List ℕ) → ℕ → ℕ
entry_bits t i = Entry.prefix_length (entry_at t i)

-- rule k matches an IPv4 address, and the bits of its prefix
abbrev pub rule_matches : (t address : List ℕ) → ℕ → Bool
rule_matches t address k = under 4 address (Rule.prefix (rule_at t k)) (Rule.prefix_length (rule_at t k))

abbrev pub rule_bits : (t : List ℕ) → ℕ → ℕ
rule_bits t k = Rule.prefix_length (rule_at t k)

-- the entry, and the rule, with the longest prefix that an address lies under
unfoldable pub match_entry : (t address : List ℕ) → Option ℕ
match_entry t address = longest (entry_matches t address) (entry_bits t) (entries t)

unfoldable pub match_rule : (t address : List ℕ) → Option ℕ
match_rule t address = longest (rule_matches t address) (rule_bits t) (rules t)
