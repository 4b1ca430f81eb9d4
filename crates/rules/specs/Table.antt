-- A table as octets: a header of 16 octets, then entries of 64, rules of 160 and policies of 288. A record is a part of these octets.
use Rattle.std.specs.Prelude.{List, [], ◌∷◌, ℕ, zero, suc, ◌+◌, ◌*◌}
use Rattle.rules.specs.Octets.{octet, window, read16}

-- the header's fields
abbrev pub format : List ℕ → ℕ
format t = octet t 0

abbrev pub entries : List ℕ → ℕ
entries t = read16 t 2

abbrev pub rules : List ℕ → ℕ
rules t = read16 t 4

abbrev pub policies : List ℕ → ℕ
policies t = read16 t 6

abbrev pub header_size : ℕ
header_size = 16

abbrev pub entry_size : ℕ
entry_size = 64

abbrev pub rule_size : ℕ
rule_size = 160

abbrev pub policy_size : ℕ
policy_size = 288

-- where the rules and the policies begin, and where the table ends
abbrev pub rules_at : List ℕ → ℕ
rules_at t = header_size + entry_size * entries t

abbrev pub policies_at : List ℕ → ℕ
policies_at t = rules_at t + rule_size * rules t

abbrev pub table_size : List ℕ → ℕ
table_size t = policies_at t + policy_size * policies t

-- the records
unfoldable pub entry_at : (t : List ℕ) (i : ℕ) → List ℕ
entry_at t i = window t (header_size + entry_size * i) entry_size

unfoldable pub rule_at : (t : List ℕ) (k : ℕ) → List ℕ
rule_at t k = window t (rules_at t + rule_size * k) rule_size

unfoldable pub policy_at : (t : List ℕ) (j : ℕ) → List ℕ
policy_at t j = window t (policies_at t + policy_size * j) policy_size

-- n addresses from octet i of a record on
unfoldable pub addresses_at : (s : List ℕ) (i n : ℕ) → List (List ℕ)
addresses_at s i zero = []
addresses_at s i (suc n) = window s i 16 ∷ addresses_at s (i + 16) n
