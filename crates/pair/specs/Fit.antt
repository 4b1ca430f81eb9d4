-- Tables that fit: the premises of docs/RULES.md, Trip, that speak of tables, the hop limit among them, with no packet in them, for every
-- Args that can be written and over IPv4 for every destination under the rule's prefix.
use Rattle.std.specs.Prelude.{◌≡◌, true, List, [], ◌∷◌, ℕ, ◌<◌, length, Some}
use Rattle.rules.specs.Octets.{Octets}
use Rattle.rules.specs.Assigned.{end, end_m_gtp6d_di, end_m_gtp6e, end_m_gtp4e}
use Rattle.rules.specs.Table.{entries, rules, entry_at, rule_at, policy_at}
use Rattle.rules.specs.Entry as Entry
use Rattle.rules.specs.Rule as Rule
use Rattle.rules.specs.Policy as Policy
use Rattle.rules.specs.Sound.{sound}
use Rattle.rules.specs.Match.{match_entry}
use Rattle.rules.specs.Args.{Args}
use Rattle.rules.specs.D.{last_with_args}
use Rattle.rules.specs.Trip.{v6, Stop}
use Rattle.reach.specs.Reach.{Writable, Under, rule_sid}

-- NEAR AND FAR

-- the policy of entry i
abbrev pub policy_in : (t : List ℕ) (i : ℕ) → List ℕ
policy_in t i = policy_at t (Entry.policy (entry_at t i))

-- Entry i of a near table is Di and fits entry j of a far table, which is E6.
pub record Fits6 (near far : List ℕ) (i j : ℕ) : Type 0 where
  pub near_sound : sound near ≡ true
  pub far_sound : sound far ≡ true
  pub exists : i < entries near
  pub enters : Entry.behaviour (entry_at near i) ≡ end_m_gtp6d_di
  pub matches : (x : Args) → Writable (Entry.direction (entry_at near i)) x → match_entry far (last_with_args (policy_in near i) x) ≡ Some j
  pub leaves : Entry.behaviour (entry_at far j) ≡ end_m_gtp6e
  pub direction : Entry.direction (entry_at far j) ≡ Entry.direction (entry_at near i)
  pub session : Entry.session (entry_at far j) ≡ Entry.session (entry_at near i)
  pub start : Entry.start (entry_at far j) ≡ Policy.start (policy_in near i)
  pub hopLimit : length (Policy.waypoints (policy_in near i)) < Entry.hop_limit (entry_at near i)

-- Rule k of a near table fits entry j of a far table, which is E4.
pub record Fits4 (near far : List ℕ) (k j : ℕ) : Type 0 where
  pub near_sound : sound near ≡ true
  pub far_sound : sound far ≡ true
  pub exists : k < rules near
  pub matches : (d : List ℕ) (x : Args) → Under (rule_at near k) d → Writable (Rule.direction (rule_at near k)) x
      → match_entry far (rule_sid (rule_at near k) d x) ≡ Some j
  pub leaves : Entry.behaviour (entry_at far j) ≡ end_m_gtp4e
  pub direction : Entry.direction (entry_at far j) ≡ Rule.direction (rule_at near k)
  pub session : Entry.session (entry_at far j) ≡ Rule.session (rule_at near k)
  pub p : Entry.p (entry_at far j) ≡ Rule.p (rule_at near k)
  pub q : Entry.q (entry_at far j) ≡ Rule.q (rule_at near k)
  pub hopLimit : length (Rule.waypoints (rule_at near k)) < Rule.hop_limit (rule_at near k)

-- WAYPOINTS

-- A table fits a waypoint's SID: the longest match is entry i, a waypoint entry.
pub record FitsWaypoint (t sid : List ℕ) (i : ℕ) : Type 0 where
  pub table_sound : sound t ≡ true
  pub size : length sid ≡ 16
  pub matches : match_entry t sid ≡ Some i
  pub kind : Entry.behaviour (entry_at t i) ≡ end

-- a table for each waypoint, in order of travel
abbrev pub FitWaypoints : (tables sids : List (List ℕ)) → Type 0
FitWaypoints [] [] = Unit {0}
FitWaypoints (t ∷ ts) (sid ∷ sids) = ((i : ℕ) × FitsWaypoint t sid i) × FitWaypoints ts sids
FitWaypoints [] (sid ∷ sids) = ⊥
FitWaypoints (t ∷ ts) [] = ⊥

-- ALL TABLES OF A TRIP

pub record Compatible6 (near : List ℕ) (ws : List (List ℕ)) (far : List ℕ) (i j : ℕ) : Type 0 where
  pub fits : Fits6 near far i j
  pub passes : FitWaypoints ws (Policy.waypoints (policy_in near i))

pub record Compatible4 (near : List ℕ) (ws : List (List ℕ)) (far : List ℕ) (k j : ℕ) : Type 0 where
  pub fits : Fits4 near far k j
  pub passes : FitWaypoints ws (Rule.waypoints (rule_at near k))

-- stops that make the IPv6 call with these tables, of octets
abbrev pub Use : List Stop → (tables : List (List ℕ)) → Type 0
Use [] [] = Unit {0}
Use (s ∷ ss) (t ∷ ts) = ((s.version ≡ v6) × (s.table ≡ t) × Octets t) × Use ss ts
Use [] (t ∷ ts) = ⊥
Use (s ∷ ss) [] = ⊥
