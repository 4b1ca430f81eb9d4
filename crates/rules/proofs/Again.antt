-- A second trip through the same tables: what held of the stops holds of them with other buffers.
use mathlib.Core.Path.{◌≡◌, refl, sym, ap, ◌∙◌, subst}
use mathlib.Core.List.{List, [], ◌∷◌}
use Prim.Native.Nat.{ℕ, suc}
use lib.ListN.{length}
use Rattle.rules.specs.Octets.{Octets}
use Rattle.rules.specs.Table.{entry_at}
use Rattle.rules.specs.Entry as Entry
use Rattle.rules.specs.Sound.{sound}
use Rattle.rules.specs.Match.{match_entry, match_rule}
use Rattle.rules.specs.Trip.{Stop}
use Rattle.rules.specs.Demand3.{AtEntry, AtRule, AtWaypoints, Same, EachSame}

module _ (s s' : Stop) (h : Same s s') where
  pub same-entry : (d : List ℕ) (b i : ℕ) → AtEntry s d b i → AtEntry s' d b i
  same-entry d b i a = record {
    call = h.call ∙ a.call;
    octets = subst (λ (t : List ℕ). Octets t) (sym h.table) a.octets;
    sound = ap (λ (t : List ℕ). sound t) h.table ∙ a.sound;
    matches = ap (λ (t : List ℕ). match_entry t d) h.table ∙ a.matches;
    kind = ap (λ (t : List ℕ). Entry.behaviour (entry_at t i)) h.table ∙ a.kind;
  }

  pub same-rule : (d : List ℕ) (k : ℕ) → AtRule s d k → AtRule s' d k
  same-rule d k a = record {
    call = h.call ∙ a.call;
    octets = subst (λ (t : List ℕ). Octets t) (sym h.table) a.octets;
    sound = ap (λ (t : List ℕ). sound t) h.table ∙ a.sound;
    matches = ap (λ (t : List ℕ). match_rule t d) h.table ∙ a.matches;
  }

pub same-waypoints : (ss ss' : List Stop) (ds : List (List ℕ)) → EachSame ss ss' → AtWaypoints ss ds → AtWaypoints ss' ds
same-waypoints [] [] ds h a = a
same-waypoints (s ∷ ss) (s' ∷ ss') [] h a = absurd a
same-waypoints (s ∷ ss) (s' ∷ ss') (d ∷ ds) h a =
    ((a.0.0, same-entry s s' h.0 d _ a.0.0 a.0.1), same-waypoints ss ss' ds h.1 a.1)
same-waypoints [] (s' ∷ ss') ds h a = absurd h
same-waypoints (s ∷ ss) [] ds h a = absurd h

pub same_length : (ss ss' : List Stop) → EachSame ss ss' → length ss' ≡ length ss
same_length [] [] h = refl
same_length (s ∷ ss) (s' ∷ ss') h = ap suc (same_length ss ss' h.1)
same_length [] (s' ∷ ss') h = absurd h
same_length (s ∷ ss) [] h = absurd h
