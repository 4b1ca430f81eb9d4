-- What a sound table says of its length: each record below its count, and each record that is found, lies in it.
use mathlib.Core.Path.{◌≡◌}
use mathlib.Core.Bool.{true}
use mathlib.Core.List.{List}
use Prim.Native.Nat.{ℕ, ◌+◌, ◌*◌, ◌≤◌, ◌<◌}
use native.Mathlib.Omega.{arith}
use borrow.Author.Tests.{eqb-true}
use lib.ListN.{length}
use Rattle.rules.specs.Table.{entries, rules, policies, rules_at, policies_at, table_size}
use Rattle.rules.specs.Match.{match_entry, match_rule}
use Rattle.rules.specs.Sound.{entry_limit, header_sound, sound}
use Rattle.std.specs.Prelude.{Some}
use Rattle.rules.proofs.Conditions.{conjunct, sound_parts}
use Rattle.rules.proofs.Longest.{matched_entry, matched_rule}

pub header-size : (limit : ℕ) (t : List ℕ) → header_sound limit t ≡ true → length t ≡ table_size t
unfolding header_sound
header-size limit t h = eqb-true _ _ (search conjunct depth 20)

module _ (t : List ℕ) (s : sound t ≡ true) where
  pub sound-size : length t ≡ table_size t
  sound-size = header-size entry_limit t (sound_parts entry_limit t s).header

  -- what `find_entry` and `find_rule` require
  pub entries_within_lem : rules_at t ≤ length t
  entries_within_lem = omega (arith, sound-size)

  pub rules_within_lem : policies_at t ≤ length t
  rules_within_lem = omega (arith, sound-size)

  -- what `entry_at`, `rule_at` and `policy_at` require, of any number below a count
  pub entry_within : (i : ℕ) → i < entries t → 16 + 64 * (i + 1) ≤ length t
  entry_within i l = omega (arith, sound-size)

  pub rule_within : (k : ℕ) → k < rules t → rules_at t + 160 * (k + 1) ≤ length t
  rule_within k l = omega (arith, sound-size)

  pub policy_within : (j : ℕ) → j < policies t → policies_at t + 288 * (j + 1) ≤ length t
  policy_within j l = omega (arith, sound-size)

  -- and of what is found
  pub found-entry_within : (a : List ℕ) (i : ℕ) → match_entry t a ≡ Some i → 16 + 64 * (i + 1) ≤ length t
  found-entry_within a i m = entry_within i (matched_entry t a i m).below

  pub found-rule_within : (a : List ℕ) (k : ℕ) → match_rule t a ≡ Some k → rules_at t + 160 * (k + 1) ≤ length t
  found-rule_within a k m = rule_within k (matched_rule t a k m).below
