-- A mismatch is 0 exactly when the tables fit.
use mathlib.Core.Path.{◌≡◌, refl, sym, ◌∙◌}
use mathlib.Core.Bool.{Bool, true, false}
use mathlib.Core.List.{List}
use Prim.Native.Nat.{ℕ, suc, ◌+◌, ◌*◌, ◌-◌, ◌≤◌, ◌<◌}
use native.Mathlib.Omega.{arith}
use lib.Dec.{eqb, ltb}
use lib.ListN.{length}
use borrow.Author.Tests.{eqb-true, eq-eqb, ltb-true, lt-ltb}
use Rattle.rules.specs.Octets.{Octets}
use Rattle.rules.specs.Assigned.{end, end_m_gtp6d_di, end_m_gtp6e, end_m_gtp4e}
use Rattle.rules.specs.Table.{entries, rules, policies, entry_at, rule_at, policy_at}
use Rattle.rules.specs.Entry as Entry
use Rattle.rules.specs.Rule as Rule
use Rattle.rules.specs.Policy as Policy
use Rattle.rules.specs.Sound.{sound, entry_limit}
use Rattle.rules.specs.Fault.{told, entry_record}
use Rattle.rules.specs.Match.{match_entry}
use Rattle.std.specs.Prelude.{Option, Some, None}
use Rattle.rules.proofs.Windows.{window-length, octets-window}
use Rattle.rules.proofs.Conditions.{sound_parts}
use Rattle.rules.proofs.Faults.{none_told}
use Rattle.rules.proofs.Tables.{sound-e6, sound-e4, sound-rule, sound_named, sound-policy}
use Rattle.rules.specs.SoundRecord.{SoundE6, SoundE4, SoundPolicy}
use Rattle.rules.proofs.Paths.{addresses_at-length}
use Rattle.reach.specs.Reach.{reach6, reach4}
use Rattle.reach.proofs.Reached.{reach6-below, reach4-below, reach_matches6, reach_matches4, matches_reach6, matches_reach4}
use Rattle.pair.specs.Fit.{policy_in, Fits6, Fits4, FitsWaypoint}
use Rattle.pair.specs.Mismatch.{unless, between6, between4, at_reached, mismatch6, mismatch4, at_matched, mismatch_waypoint}

-- NOTHING FAILS

-- no condition fails: this one holds, and nothing fails behind it
pub holds : (b : Bool) (number behind : ℕ) → unless b (suc number) behind ≡ 0 → (b ≡ true) × (behind ≡ 0)
holds true number behind h = (refl, h)
holds false number behind h = absurd (omega arith)

untold : (kind index condition : ℕ) → told kind index condition ≡ 0 → condition ≡ 0
untold kind index condition h =
    eqb-true condition 0 (sym (none_told kind index condition) ∙ eq-eqb (told kind index condition) 0 h)

told-nothing : (kind index condition : ℕ) → condition ≡ 0 → told kind index condition ≡ 0
told-nothing kind index condition h =
    eqb-true (told kind index condition) 0 (none_told kind index condition ∙ eq-eqb condition 0 h)

reached_fits : (between : ℕ → ℕ) (f : Option ℕ) → at_reached between f ≡ 0 → (j : ℕ) × ((f ≡ Some j) × (between j ≡ 0))
reached_fits between None h = absurd (omega arith)
reached_fits between (Some j) h = (j, (refl, untold entry_record j (between j) h))

-- RECORDS OF A SOUND TABLE

pub rule-octets : (t : List ℕ) → Octets t → (k : ℕ) → Octets (rule_at t k)
unfolding rule_at
rule-octets t o k = octets-window t _ 160 o

module _ (t : List ℕ) (o : Octets t) (i : ℕ) where
  pub sid_octets : Octets (Policy.last_sid (policy_in t i))
  unfolding policy_at
  sid_octets = octets-window (policy_in t i) (16 + 16 * (Policy.sid_count (policy_in t i) - 1)) 16 (octets-window t _ 288 o)

  pub sid_size : length (Policy.last_sid (policy_in t i)) ≡ 16
  sid_size = window-length (policy_in t i) (16 + 16 * (Policy.sid_count (policy_in t i) - 1)) 16

-- the policy of a Di entry
module _ (t : List ℕ) (i : ℕ) (s : sound t ≡ true) (l : i < entries t) (b : Entry.behaviour (entry_at t i) ≡ end_m_gtp6d_di) where
  pub di_named : Entry.policy (entry_at t i) < policies t
  di_named = sound_named (policies t) (entry_at t i) ((sound_parts entry_limit t s).entry i l) (rw b)

  pub di-policy : SoundPolicy (policy_in t i)
  di-policy = sound-policy (policy_in t i) ((sound_parts entry_limit t s).policy (Entry.policy (entry_at t i)) di_named)

pub rule-p : (t : List ℕ) (k : ℕ) → sound t ≡ true → k < rules t → Rule.p (rule_at t k) ≤ 7
rule-p t k s l = (sound-rule (rule_at t k) ((sound_parts entry_limit t s).rule k l)).p

-- OVER IPV6

module _ (near far : List ℕ) (i : ℕ) (on : Octets near) (of : Octets far) where
  -- of the entry j that is reached
  pub between_fits6 : (j : ℕ) → sound near ≡ true → sound far ≡ true → i < entries near → Entry.behaviour (entry_at near i) ≡ end_m_gtp6d_di
      → reach6 far (Entry.direction (entry_at near i)) (Policy.last_sid (policy_in near i)) (Policy.start (policy_in near i)) ≡ Some j
      → between6 (entry_at near i) (policy_in near i) (entry_at far j) ≡ 0 → Fits6 near far i j
  between_fits6 j sn sf l k r h =
      let e = entry_at near i in
      let policy = policy_in near i in
      let f = entry_at far j in
      let (h₆, b₆) = holds (eqb (Entry.behaviour f) end_m_gtp6e) 5 _ h in
      let (h₇, b₇) = holds (eqb (Entry.direction f) (Entry.direction e)) 6 _ b₆ in
      let (h₈, b₈) = holds (eqb (Entry.session f) (Entry.session e)) 7 _ b₇ in
      let (h₉, b₉) = holds (eqb (Entry.start f) (Policy.start policy)) 8 _ b₈ in
      let (h₁₂, _) = holds (ltb (Policy.sid_count policy - 1) (Entry.hop_limit e)) 11 _ b₉ in
      let kind = eqb-true (Entry.behaviour f) end_m_gtp6e h₆ in
      let start : Entry.start f ≡ Policy.start policy = eqb-true _ _ h₉ in
      let q : SoundE6 f =
      sound-e6 (policies far) f
      ((sound_parts entry_limit far sf).entry j
      (reach6-below far (Entry.direction e) (Policy.last_sid policy) (Policy.start policy) j r)) kind in
      let p = di-policy near i sn l k in
      record {
        near_sound = sn;
        far_sound = sf;
        exists = l;
        enters = k;
        matches = reach_matches6 far (Entry.direction e) (Policy.last_sid policy) (Policy.start policy) of sf (sid_octets near on i)
            (sid_size near on i) p.start p.whole j r (rw (← start) q.before);
        leaves = kind;
        direction = eqb-true _ _ h₇;
        session = eqb-true _ _ h₈;
        start = start;
        hopLimit = rw (addresses_at-length policy 16 (Policy.sid_count policy - 1)) (ltb-true _ _ h₁₂);
      }

  pub mismatch6-fits : mismatch6 near far i ≡ 0 → (j : ℕ) × Fits6 near far i j
  unfolding mismatch6
  mismatch6-fits h =
      let e = entry_at near i in
      let policy = policy_in near i in
      let (h₁, b₁) = holds (sound near) 0 _ h in
      let (h₂, b₂) = holds (sound far) 1 _ b₁ in
      let (h₃, b₃) = holds (ltb i (entries near)) 2 _ b₂ in
      let (h₄, b₄) = holds (eqb (Entry.behaviour e) end_m_gtp6d_di) 3 _ b₃ in
      let (j, (r, b)) =
      reached_fits (λ j. between6 e policy (entry_at far j))
      (reach6 far (Entry.direction e) (Policy.last_sid policy) (Policy.start policy)) b₄ in
      (j, between_fits6 j h₁ h₂ (ltb-true _ _ h₃) (eqb-true _ _ h₄) r b)

  pub fits-mismatch6 : (j : ℕ) → Fits6 near far i j → mismatch6 near far i ≡ 0
  unfolding mismatch6
  fits-mismatch6 j f =
      let e = entry_at near i in
      let policy = policy_in near i in
      let p = di-policy near i f.near_sound f.exists f.enters in
      let r : reach6 far (Entry.direction e) (Policy.last_sid policy) (Policy.start policy) ≡ Some j =
      matches_reach6 far (Entry.direction e) (Policy.last_sid policy) (Policy.start policy) of f.far_sound (sid_octets near on i)
      (sid_size near on i) p.start j f.matches in
      let n : Policy.sid_count policy - 1 < Entry.hop_limit e =
      rw (addresses_at-length policy 16 (Policy.sid_count policy - 1)) at f.hopLimit in
      rw (f.near_sound, f.far_sound, lt-ltb i (entries near) f.exists, eq-eqb (Entry.behaviour e) end_m_gtp6d_di f.enters, r)
      (told-nothing entry_record j (between6 e policy (entry_at far j))
      (rw (
        eq-eqb (Entry.behaviour (entry_at far j)) end_m_gtp6e f.leaves,
        eq-eqb (Entry.direction (entry_at far j)) (Entry.direction e) f.direction,
        eq-eqb (Entry.session (entry_at far j)) (Entry.session e) f.session,
        eq-eqb (Entry.start (entry_at far j)) (Policy.start policy) f.start,
        lt-ltb (Policy.sid_count policy - 1) (Entry.hop_limit e) n,
      ) refl))

-- OVER IPV4

module _ (near far : List ℕ) (k : ℕ) (on : Octets near) (of : Octets far) where
  pub between_fits4 : (j : ℕ) → sound near ≡ true → sound far ≡ true → k < rules near → reach4 far (rule_at near k) ≡ Some j
      → between4 (rule_at near k) (entry_at far j) ≡ 0 → Fits4 near far k j
  between_fits4 j sn sf l e h =
      let r = rule_at near k in
      let f = entry_at far j in
      let (h₆, b₆) = holds (eqb (Entry.behaviour f) end_m_gtp4e) 5 _ h in
      let (h₇, b₇) = holds (eqb (Entry.direction f) (Rule.direction r)) 6 _ b₆ in
      let (h₈, b₈) = holds (eqb (Entry.session f) (Rule.session r)) 7 _ b₇ in
      let (h₁₀, b₁₀) = holds (eqb (Entry.p f) (Rule.p r)) 9 _ b₈ in
      let (h₁₁, b₁₁) = holds (eqb (Entry.q f) (Rule.q r)) 10 _ b₁₀ in
      let (h₁₂, _) = holds (ltb (Rule.waypoint_count r) (Rule.hop_limit r)) 11 _ b₁₁ in
      let kind = eqb-true (Entry.behaviour f) end_m_gtp4e h₆ in
      let p : Entry.p f ≡ Rule.p r = eqb-true _ _ h₁₀ in
      let q : SoundE4 f = sound-e4 (policies far) f ((sound_parts entry_limit far sf).entry j (reach4-below far r j e)) kind in
      record {
        near_sound = sn;
        far_sound = sf;
        exists = l;
        matches = reach_matches4 far r of sf (rule-octets near on k) (rule-p near k sn l) j e (rw (← p) q.before);
        leaves = kind;
        direction = eqb-true _ _ h₇;
        session = eqb-true _ _ h₈;
        p = p;
        q = eqb-true _ _ h₁₁;
        hopLimit = rw (addresses_at-length r 48 (Rule.waypoint_count r)) (ltb-true _ _ h₁₂);
      }

  pub mismatch4-fits : mismatch4 near far k ≡ 0 → (j : ℕ) × Fits4 near far k j
  unfolding mismatch4
  mismatch4-fits h =
      let r = rule_at near k in
      let (h₁, b₁) = holds (sound near) 0 _ h in
      let (h₂, b₂) = holds (sound far) 1 _ b₁ in
      let (h₃, b₃) = holds (ltb k (rules near)) 2 _ b₂ in
      let (j, (e, b)) = reached_fits (λ j. between4 r (entry_at far j)) (reach4 far r) b₃ in
      (j, between_fits4 j h₁ h₂ (ltb-true _ _ h₃) e b)

  pub fits-mismatch4 : (j : ℕ) → Fits4 near far k j → mismatch4 near far k ≡ 0
  unfolding mismatch4
  fits-mismatch4 j f =
      let r = rule_at near k in
      let e : reach4 far r ≡ Some j =
      matches_reach4 far r of f.far_sound (rule-octets near on k) (rule-p near k f.near_sound f.exists) j f.matches in
      let n : Rule.waypoint_count r < Rule.hop_limit r = rw (addresses_at-length r 48 (Rule.waypoint_count r)) at f.hopLimit in
      rw (f.near_sound, f.far_sound, lt-ltb k (rules near) f.exists, e)
      (told-nothing entry_record j (between4 r (entry_at far j))
      (rw (
        eq-eqb (Entry.behaviour (entry_at far j)) end_m_gtp4e f.leaves,
        eq-eqb (Entry.direction (entry_at far j)) (Rule.direction r) f.direction,
        eq-eqb (Entry.session (entry_at far j)) (Rule.session r) f.session,
        eq-eqb (Entry.p (entry_at far j)) (Rule.p r) f.p,
        eq-eqb (Entry.q (entry_at far j)) (Rule.q r) f.q,
        lt-ltb (Rule.waypoint_count r) (Rule.hop_limit r) n,
      ) refl))

-- AT A WAYPOINT

module _ (t sid : List ℕ) where
  matched_fits : (f : Option ℕ) → match_entry t sid ≡ f → at_matched t f ≡ 0
      → (i : ℕ) × ((match_entry t sid ≡ Some i) × (Entry.behaviour (entry_at t i) ≡ end))
  matched_fits None e h = absurd (omega arith)
  matched_fits (Some i) e h =
      let b = untold entry_record i (unless (eqb (Entry.behaviour (entry_at t i)) end) 16 0) h in
      (i, (e, eqb-true _ _ (holds (eqb (Entry.behaviour (entry_at t i)) end) 15 0 b).0))

  pub mismatch_fits-waypoint : mismatch_waypoint t sid ≡ 0 → (i : ℕ) × FitsWaypoint t sid i
  unfolding mismatch_waypoint
  mismatch_fits-waypoint h =
      let (h₁₃, b₁₃) = holds (sound t) 12 _ h in
      let (h₁₄, b₁₄) = holds (eqb (length sid) 16) 13 _ b₁₃ in
      let (i, (m, k)) = matched_fits (match_entry t sid) refl b₁₄ in
      (i, record { table_sound = h₁₃; size = eqb-true _ _ h₁₄; matches = m; kind = k })

  pub fits_mismatch_waypoint : (i : ℕ) → FitsWaypoint t sid i → mismatch_waypoint t sid ≡ 0
  unfolding mismatch_waypoint
  fits_mismatch_waypoint i f =
      rw (f.table_sound, eq-eqb (length sid) 16 f.size, f.matches)
      (told-nothing entry_record i (unless (eqb (Entry.behaviour (entry_at t i)) end) 16 0) (rw f.kind refl))
