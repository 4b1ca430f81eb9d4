-- That a table is sound, from what code tested of it.
use mathlib.Core.Path.{◌≡◌, refl}
use mathlib.Core.Bool.{true}
use mathlib.Core.List.{List}
use Prim.Native.Nat.{ℕ, ◌+◌, ◌*◌, ◌≤◌}
use native.Mathlib.Omega.{arith}
use borrow.Author.Tests.{eq-eqb, le-leb}
use lib.ListN.{length}
use Rattle.rules.specs.Octets.{octet}
use Rattle.rules.specs.Table.{entries, rules, policies, table_size, entry_at, rule_at, policy_at}
use Rattle.rules.specs.Sound.{all, distinct, same_entry_prefix, same_rule_prefix, entry_limit, header_conditions, header_sound}
use Rattle.rules.specs.Sound.{sound_within, sound, entry_sound, rule_sound, policy_sound}
use Rattle.rules.proofs.Conditions.{holds-every, ◌also◌}

-- A table whose header names n entries, m rules and q policies
module _ (t : List ℕ) (n m q : ℕ) (format : octet t 0 ≡ 1) (en : n ≡ entries t) (ln : n ≤ 64) (em : m ≡ rules t) (lm : m ≤ 16)
    (eq : q ≡ policies t) (lq : q ≤ 16) where
  sound-header : length t ≡ 16 + 64 * n + 160 * m + 288 * q → header_sound entry_limit t ≡ true
  unfolding header_sound
  sound-header l =
      holds-every (header_conditions entry_limit t)
      (eq-eqb (octet t 0) 1 format also le-leb (entries t) 64 (omega arith) also le-leb (rules t) 16 (omega arith)
      also le-leb (policies t) 16 (omega arith) also eq-eqb (length t) (table_size t) (omega arith) also tt)

  pub sound-table : length t ≡ 16 + 64 * n + 160 * m + 288 * q
      → all (λ i. entry_sound q (entry_at t i)) n ≡ true → distinct (same_entry_prefix t) n ≡ true
      → all (λ k. rule_sound (rule_at t k)) m ≡ true → distinct (same_rule_prefix t) m ≡ true
      → all (λ j. policy_sound (policy_at t j)) q ≡ true → sound t ≡ true
  unfolding sound_within
  sound-table l a b c d e =
      let a' : all (λ i. entry_sound (policies t) (entry_at t i)) (entries t) ≡ true = rw (← en, ← eq) a in
      let b' : distinct (same_entry_prefix t) (entries t) ≡ true = rw (← en) b in
      let c' : all (λ k. rule_sound (rule_at t k)) (rules t) ≡ true = rw (← em) c in
      let d' : distinct (same_rule_prefix t) (rules t) ≡ true = rw (← em) d in
      let e' : all (λ j. policy_sound (policy_at t j)) (policies t) ≡ true = rw (← eq) e in
      rw (sound-header l, a', b', c', d', e') refl
