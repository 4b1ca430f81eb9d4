-- What the functions of this crate are proved by: what a mismatch is where one condition after the other has held, and what a sound table
-- says of its records.
use mathlib.Core.Path.{◌≡◌, refl, sym, ap, ◌∙◌}
use mathlib.Core.Logic.{◌≢◌}
use mathlib.Core.Bool.{true, false}
use mathlib.Core.List.{List}
use Prim.Native.Nat.{ℕ, ◌+◌, ◌*◌, ◌≤◌, ◌<◌}
use native.Mathlib.Nat.{zero-add}
use lib.ListN.{length}
use lib.Seq.{ext_get_or}
use borrow.Author.Tests.{lt-ltb, le-ltb, eq-eqb, ne_eqb, leb-true}
use Rattle.rules.specs.Octets.{octet, window}
use Rattle.rules.specs.Assigned.{end_m_gtp6d_di}
use Rattle.rules.specs.Table.{entries, rules, policies_at, entry_at, rule_at}
use Rattle.rules.specs.Entry as Entry
use Rattle.rules.specs.Policy as Policy
use Rattle.rules.specs.Sound.{header_sound, sound, entry_limit}
use Rattle.rules.specs.Match.{match_entry}
use Rattle.std.specs.Prelude.{Option}
use Rattle.rules.proofs.Windows.{window-length, octet-window}
use Rattle.rules.proofs.Conditions.{conjunct, sound_parts}
use Rattle.table.proofs.Bounds.{policy_within}
use Rattle.pair.specs.Fit.{policy_in}
use Rattle.pair.specs.Mismatch.{at_far6, at_far4, mismatch6, mismatch4, at_matched, mismatch_waypoint}
use Rattle.pair.proofs.Fitting.{di_named, di-policy}

-- SOUND TABLES

pub few_entries : (t : List ℕ) → sound t ≡ true → entries t ≤ 64
unfolding header_sound
few_entries t s = let h = (sound_parts entry_limit t s).header in leb-true (entries t) 64 (search conjunct depth 20)

module _ (t : List ℕ) (i : ℕ) (s : sound t ≡ true) (l : i < entries t) (b : Entry.behaviour (entry_at t i) ≡ end_m_gtp6d_di) where
  pub di-policy_within : policies_at t + 288 * (Entry.policy (entry_at t i) + 1) ≤ length t
  di-policy_within = policy_within t s (Entry.policy (entry_at t i)) (di_named t i s l b)

  pub di-start : Policy.start (policy_in t i) ≤ 88
  di-start = (di-policy t i s l b).start

-- MISMATCHES

module _ (near far : List ℕ) (i : ℕ) where
  pub no_entry6_lem : sound near ≡ true → sound far ≡ true → entries near ≤ i → 3 ≡ mismatch6 near far i
  unfolding mismatch6
  no_entry6_lem h g l = rw (h, g, le-ltb i (entries near) l) refl

  pub not_di6_lem : sound near ≡ true → sound far ≡ true → i < entries near → Entry.behaviour (entry_at near i) ≢ end_m_gtp6d_di
      → 4 ≡ mismatch6 near far i
  unfolding mismatch6
  not_di6_lem h g l n = rw (h, g, lt-ltb i (entries near) l, ne_eqb (Entry.behaviour (entry_at near i)) end_m_gtp6d_di n) refl

  pub at_far6_lem : sound near ≡ true → sound far ≡ true → i < entries near → Entry.behaviour (entry_at near i) ≡ end_m_gtp6d_di
      → (e policy : List ℕ) → e ≡ entry_at near i → policy ≡ policy_in near i
      → at_far6 e policy far ≡ mismatch6 near far i
  unfolding mismatch6
  at_far6_lem h g l b e policy he hy =
      rw (h, g, lt-ltb i (entries near) l, eq-eqb (Entry.behaviour (entry_at near i)) end_m_gtp6d_di b, he, hy) refl

  pub no_rule4 : sound near ≡ true → sound far ≡ true → rules near ≤ i → 3 ≡ mismatch4 near far i
  unfolding mismatch4
  no_rule4 h g l = rw (h, g, le-ltb i (rules near) l) refl

  pub at_far4_lem : sound near ≡ true → sound far ≡ true → i < rules near → (r : List ℕ) → r ≡ rule_at near i
      → at_far4 r far ≡ mismatch4 near far i
  unfolding mismatch4
  at_far4_lem h g l r hr = rw (h, g, lt-ltb i (rules near) l, hr) refl

module _ (t sid : List ℕ) where
  pub unsound : sound t ≡ false → 13 ≡ mismatch_waypoint t sid
  unfolding mismatch_waypoint
  unsound h = rw h refl

  pub no_sid : sound t ≡ true → length sid ≢ 16 → 14 ≡ mismatch_waypoint t sid
  unfolding mismatch_waypoint
  no_sid h n = rw (h, ne_eqb (length sid) 16 n) refl

  pub at_waypoint_lem : sound t ≡ true → length sid ≡ 16 → (f : Option ℕ) → match_entry t sid ≡ f → at_matched t f ≡ mismatch_waypoint t sid
  unfolding mismatch_waypoint
  at_waypoint_lem h l f m = rw (h, eq-eqb (length sid) 16 l, m) refl

-- a SID lent as sixteen octets, and what is found for them
pub matched : (t sid w : List ℕ) {f g : Option ℕ} → length sid ≡ 16 → w ≡ window sid 0 16 → f ≡ match_entry t w
    → f ≡ g → match_entry t sid ≡ g
matched t sid w l e m q = ap (match_entry t) (sym (e ∙ whole)) ∙ sym m ∙ q
  where
    whole : window sid 0 16 ≡ sid
    whole =
        ext_get_or 0 (window sid 0 16) sid (window-length sid 0 16 ∙ sym l)
        (λ k h. octet-window sid 0 16 k (rw (window-length sid 0 16) at h) ∙ ap (octet sid) (zero-add k))
