-- The longest entry that is reached, and the longest match: it is the longest match with some Args and destination, and with all where
-- it ends before them. Where none is reached, none matches.
use mathlib.Core.Path.{◌≡◌, refl, sym, ◌∙◌}
use mathlib.Core.Bool.{Bool, true}
use mathlib.Core.List.{List}
use Prim.Native.Nat.{ℕ, ◌*◌, ◌%◌, ◌≤◌, ◌<◌}
use lib.ListN.{length}
use Rattle.rules.specs.Octets.{Octets}
use Rattle.rules.specs.Table.{entries, entry_at}
use Rattle.rules.specs.Entry as Entry
use Rattle.rules.specs.Rule as Rule
use Rattle.rules.specs.Sound.{sound, entry_limit}
use Rattle.rules.specs.Match.{longest, entry_bits, entry_matches, match_entry}
use Rattle.rules.specs.Args.{Args, with_args}
use Rattle.rules.specs.E4.{start_behind}
use Rattle.std.specs.Prelude.{Option, Some, None}
use Rattle.rules.proofs.Windows.{octets-window}
use Rattle.rules.proofs.Longest.{Best, longest-best, longest_at, longest-below, the_longest-entry}
use Rattle.reach.specs.Reach.{Writable, Under, rule_sid, own_args, reaches6, entry_reached6, entry_reached4, reach6, reach4}
use Rattle.reach.proofs.Own.{own_writable, some_reaches, reaches_every}
use Rattle.reach.proofs.Own4.{rule_args_writable, some_reaches4, reaches_every4}
use Rattle.reach.proofs.Blending.{blended_destination, blended-under, reaches_blended}

-- an address under an entry only where that entry is reached
module _ (t a : List ℕ) (s : sound t ≡ true) (reached : ℕ → Bool) (up : (k : ℕ) → entry_matches t a k ≡ true → reached k ≡ true) where
  -- the longest that is reached, if the address is under it
  reached_match : (j : ℕ) → longest reached (entry_bits t) (entries t) ≡ Some j → (reached j ≡ true → entry_matches t a j ≡ true)
      → match_entry t a ≡ Some j
  reached_match j e down =
      let b = longest_at reached (entry_bits t) (entries t) j e in
      the_longest-entry entry_limit t a s (Some j) (record { below = b.below; hit = down b.hit; most = λ k l m. b.most k l (up k m) })

  none_match : longest reached (entry_bits t) (entries t) ≡ None → match_entry t a ≡ None
  none_match e =
      let b : Best reached (entry_bits t) (entries t) None = rw e at (longest-best reached (entry_bits t) (entries t)) in
      the_longest-entry entry_limit t a s None (λ k l m. b k l (up k m))

pub prefix-octets : (t : List ℕ) → Octets t → (k : ℕ) → Octets (Entry.prefix (entry_at t k))
unfolding entry_at
prefix-octets t o k = octets-window (entry_at t k) 16 16 (octets-window t _ 64 o)

-- A POLICY'S LAST SID

pub reach6-below : (t : List ℕ) (direction : ℕ) (sid : List ℕ) (start j : ℕ) → reach6 t direction sid start ≡ Some j → j < entries t
unfolding reach6
reach6-below t direction sid start j e = longest-below (entry_reached6 t direction sid start) (entry_bits t) (entries t) j e

module _ (t : List ℕ) (direction : ℕ) (sid : List ℕ) (start : ℕ) (o : Octets t) (s : sound t ≡ true)
    (os : Octets sid) (hs : length sid ≡ 16) (hb : start ≤ 88) where
  -- with all Args
  pub reach_matches6 : start % 8 ≡ 0 → (j : ℕ) → reach6 t direction sid start ≡ Some j → entry_bits t j ≤ start
      → (x : Args) → Writable direction x → match_entry t (with_args sid start x) ≡ Some j
  unfolding reach6
  reach_matches6 h0 j e l x w =
      reached_match t (with_args sid start x) s (entry_reached6 t direction sid start)
      (λ k m. some_reaches direction sid start x hs hb os w (Entry.prefix (entry_at t k)) (prefix-octets t o k) (entry_bits t k) m) j e
      (λ h. reaches_every direction sid start x hs hb os w (Entry.prefix (entry_at t j)) (prefix-octets t o j) (entry_bits t j) h0 l h)

  -- with some: the entry's own
  pub reach_matches_own6 : (j : ℕ) → reach6 t direction sid start ≡ Some j
      → match_entry t (with_args sid start (own_args direction (Entry.prefix (entry_at t j)) start)) ≡ Some j
  unfolding reach6 reaches6
  reach_matches_own6 j e =
      let x = own_args direction (Entry.prefix (entry_at t j)) start in
      let w = own_writable direction (Entry.prefix (entry_at t j)) start (prefix-octets t o j) in
      reached_match t (with_args sid start x) s (entry_reached6 t direction sid start)
      (λ k m. some_reaches direction sid start x hs hb os w (Entry.prefix (entry_at t k)) (prefix-octets t o k) (entry_bits t k) m) j e
      (λ h. h)

  pub reach_none6 : reach6 t direction sid start ≡ None → (x : Args) → Writable direction x
      → match_entry t (with_args sid start x) ≡ None
  unfolding reach6
  reach_none6 e x w =
      none_match t (with_args sid start x) s (entry_reached6 t direction sid start)
      (λ k m. some_reaches direction sid start x hs hb os w (Entry.prefix (entry_at t k)) (prefix-octets t o k) (entry_bits t k) m) e

  -- so what is the longest match with all Args is the longest that is reached
  pub matches_reach6 : (j : ℕ) → ((x : Args) → Writable direction x → match_entry t (with_args sid start x) ≡ Some j)
      → reach6 t direction sid start ≡ Some j
  matches_reach6 j m = pick (reach6 t direction sid start) refl
    where
      own : (i : ℕ) → match_entry t (with_args sid start (own_args direction (Entry.prefix (entry_at t i)) start)) ≡ Some j
      own i =
          m (own_args direction (Entry.prefix (entry_at t i)) start)
          (own_writable direction (Entry.prefix (entry_at t i)) start (prefix-octets t o i))

      pick : (f : Option ℕ) → reach6 t direction sid start ≡ f → f ≡ Some j
      pick None e =
          let x = own_args direction (Entry.prefix (entry_at t j)) start in
          sym (reach_none6 e x (own_writable direction (Entry.prefix (entry_at t j)) start (prefix-octets t o j))) ∙ own j
      pick (Some i) e = sym (reach_matches_own6 i e) ∙ own i

-- A RULE'S SID

pub reach4-below : (t r : List ℕ) (j : ℕ) → reach4 t r ≡ Some j → j < entries t
unfolding reach4
reach4-below t r j e = longest-below (entry_reached4 t r) (entry_bits t) (entries t) j e

-- the Args that stand in entry k's prefix where the rule writes them
abbrev pub rule_args : (t r : List ℕ) (k : ℕ) → Args
rule_args t r k = own_args (Rule.direction r) (Entry.prefix (entry_at t k)) (start_behind (Rule.p r))

-- and the destination that stands there, behind the bits of the rule's prefix
abbrev pub rule_destination : (t r : List ℕ) (k : ℕ) → List ℕ
rule_destination t r k = blended_destination r (Entry.prefix (entry_at t k))

module _ (t r : List ℕ) (o : Octets t) (s : sound t ≡ true) (or : Octets r) (hp : Rule.p r ≤ 7) where
  up : (d : List ℕ) (x : Args) → Under r d → Writable (Rule.direction r) x → (k : ℕ) → entry_matches t (rule_sid r d x) k ≡ true
      → entry_reached4 t r k ≡ true
  up d x u w k m = some_reaches4 r or hp (Entry.prefix (entry_at t k)) (prefix-octets t o k) d u x w (entry_bits t k) m

  pub args_writable : (k : ℕ) → Writable (Rule.direction r) (rule_args t r k)
  args_writable k = rule_args_writable r or hp (Entry.prefix (entry_at t k)) (prefix-octets t o k)

  pub destination-under : (k : ℕ) → Under r (rule_destination t r k)
  destination-under k = blended-under r or hp (Entry.prefix (entry_at t k)) (prefix-octets t o k)

  pub reach_matches4 : (j : ℕ) → reach4 t r ≡ Some j → entry_bits t j ≤ 8 * Rule.p r
      → (d : List ℕ) (x : Args) → Under r d → Writable (Rule.direction r) x → match_entry t (rule_sid r d x) ≡ Some j
  unfolding reach4
  reach_matches4 j e l d x u w =
      reached_match t (rule_sid r d x) s (entry_reached4 t r) (up d x u w) j e
      (λ h. reaches_every4 r or hp (Entry.prefix (entry_at t j)) (prefix-octets t o j) d u x w (entry_bits t j) l h)

  pub reach_matches_own4 : (j : ℕ) → reach4 t r ≡ Some j → match_entry t (rule_sid r (rule_destination t r j) (rule_args t r j)) ≡ Some j
  unfolding reach4
  reach_matches_own4 j e =
      reached_match t (rule_sid r (rule_destination t r j) (rule_args t r j)) s (entry_reached4 t r)
      (up (rule_destination t r j) (rule_args t r j) (destination-under j) (args_writable j)) j e
      (λ h. reaches_blended r or hp (Entry.prefix (entry_at t j)) (prefix-octets t o j) (entry_bits t j) h)

  pub reach_none4 : reach4 t r ≡ None → (d : List ℕ) (x : Args) → Under r d → Writable (Rule.direction r) x
      → match_entry t (rule_sid r d x) ≡ None
  unfolding reach4
  reach_none4 e d x u w = none_match t (rule_sid r d x) s (entry_reached4 t r) (up d x u w) e

  pub matches_reach4 : (j : ℕ) → ((d : List ℕ) (x : Args) → Under r d → Writable (Rule.direction r) x → match_entry t (rule_sid r d x)
      ≡ Some j)
      → reach4 t r ≡ Some j
  matches_reach4 j m = pick (reach4 t r) refl
    where
      pick : (f : Option ℕ) → reach4 t r ≡ f → f ≡ Some j
      pick None e =
          sym (reach_none4 e (rule_destination t r j) (rule_args t r j) (destination-under j) (args_writable j))
          ∙ m (rule_destination t r j) (rule_args t r j) (destination-under j) (args_writable j)
      pick (Some i) e = sym (reach_matches_own4 i e) ∙ m (rule_destination t r i) (rule_args t r i) (destination-under i) (args_writable i)
