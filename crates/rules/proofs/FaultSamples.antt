-- Faults of sample tables, checked by computation: the condition, then 256 times the kind of record, then 65,536 times its index.
use mathlib.Core.List.{[], ◌∷◌, ◌++◌}
use Prim.Native.Nat.{◌+◌, ◌*◌}
use lib.Dec.{T, eqb}
use Rattle.rules.specs.Octets.{window, number, splice}
use Rattle.rules.specs.Prefix.{clear}
use Rattle.rules.specs.Assigned.{end, end_m_gtp6d, end_m_gtp6d_di, end_m_gtp6e, end_m_gtp4e}
use Rattle.rules.specs.Table.{entry_at, rule_at, policy_at}
use Rattle.rules.specs.Sound.{every, all, same_entry_prefix, same_rule_prefix}
use Rattle.rules.specs.Fault.{told, or_else, first_fault, entry_broken, rule_broken, policy_broken, fault_within, fault}
use Rattle.rules.proofs.Samples.{zeros, network, sid_of, header, entry, rule, policy, table}

pub faults : T (every
    -- tables without a fault
    (eqb (fault (header 0 0 0 [])) 0
    ∷ eqb (fault (table end_m_gtp6d_di 2)) 0
    -- the header: no octets, format 2, 17 rules, an octet too many
    ∷ eqb (fault []) (1 + 256 * 1)
    ∷ eqb (fault (2 ∷ zeros 15)) (1 + 256 * 1)
    ∷ eqb (fault (header 0 17 0 [])) (3 + 256 * 1)
    ∷ eqb (fault (header 0 0 0 (0 ∷ []))) (5 + 256 * 1)
    -- entries: a policy that is missing, an E6 prefix of more than 8a bits, a prefix that an earlier entry has
    ∷ eqb (fault (header 1 0 0 (entry end_m_gtp6d 48 (network 0xa)))) (7 + 256 * 2)
    ∷ eqb (fault (header 2 0 0 (entry end 48 (network 0xa) ++ entry end_m_gtp6e 65 (sid_of 1)))) (9 + 256 * 2 + 65536 * 1)
    ∷ eqb (fault (header 2 0 0 (entry end 48 (network 0xa) ++ entry end_m_gtp6e 48 (network 0xa)))) (14 + 256 * 2 + 65536 * 1)
    -- octet 9 is a mark of D and Di, 0 or 1
    ∷ eqb (fault (splice (table end_m_gtp6d 0) 25 (1 ∷ []))) 0
    ∷ eqb (fault (splice (table end_m_gtp6d_di 0) 25 (1 ∷ []))) 0
    ∷ eqb (fault (splice (table end_m_gtp6d 0) 25 (2 ∷ []))) (15 + 256 * 2)
    ∷ eqb (fault (splice (table end_m_gtp6d_di 0) 25 (2 ∷ []))) (15 + 256 * 2)
    -- and reserved at the others; octet 12 is not examined
    ∷ eqb (fault (splice (header 1 0 0 (entry end 48 (network 0xa))) 25 (1 ∷ []))) (13 + 256 * 2)
    ∷ eqb (fault (splice (header 1 0 0 (entry end_m_gtp6e 48 (network 0xa))) 25 (1 ∷ []))) (13 + 256 * 2)
    ∷ eqb (fault (splice (header 1 0 0 (entry end_m_gtp4e 48 (network 0xa))) 25 (1 ∷ []))) (13 + 256 * 2)
    ∷ eqb (fault (splice (header 1 0 0 (entry end 48 (network 0xa))) 28 (1 ∷ []))) 0
    -- rules: one for any destination twice
    ∷ eqb (fault (header 0 2 0 (rule [] ++ rule []))) (12 + 256 * 3 + 65536 * 1)
    -- policies: no SID
    ∷ eqb (fault (header 0 0 2 (policy (sid_of 1 ∷ []) ++ policy []))) (1 + 256 * 4 + 65536 * 1)
    -- the first of two: of conditions, of records, of kinds of record, and prefixes behind all entries
    ∷ eqb (fault (header 1 0 0 (entry 2 129 (network 0xa)))) (1 + 256 * 2)
    ∷ eqb (fault (header 2 0 0 (entry end_m_gtp6d 48 (network 0xa) ++ entry 2 48 (network 0xb)))) (7 + 256 * 2)
    ∷ eqb (fault (header 0 2 1 (rule [] ++ (rule [] ++ policy [])))) (12 + 256 * 3 + 65536 * 1)
    ∷ eqb (fault (header 3 0 0 (entry end 48 (network 0xa) ++ (entry end 48 (network 0xa) ++ entry 2 48 (network 0xb)))))
    (1 + 256 * 2 + 65536 * 2)
    ∷ []))
unfolding window number splice clear entry_at rule_at policy_at all same_entry_prefix same_rule_prefix told or_else first_fault
    entry_broken rule_broken policy_broken fault_within
faults = tt
