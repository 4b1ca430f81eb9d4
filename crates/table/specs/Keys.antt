-- The order of entries, and of rules: by the prefix, then by its length.
use Rattle.std.specs.Prelude.{List, ℕ, ◌+◌, ◌*◌}
use Rattle.rules.specs.Octets.{number}
use Rattle.rules.specs.Table.{entry_at, rule_at}
use Rattle.rules.specs.Entry.{prefix, prefix_length}
use Rattle.rules.specs.Rule as Rule

-- the prefix of an entry with its length, as one number
abbrev pub key_of : (e : List ℕ) → ℕ
key_of e = number (prefix e) 0 16 * 256 + prefix_length e

abbrev pub entry_key : (t : List ℕ) (i : ℕ) → ℕ
entry_key t i = key_of (entry_at t i)

abbrev pub rule_key_of : (r : List ℕ) → ℕ
rule_key_of r = number (Rule.prefix r) 0 4 * 256 + Rule.prefix_length r

abbrev pub rule_key : (t : List ℕ) (k : ℕ) → ℕ
rule_key t k = rule_key_of (rule_at t k)
