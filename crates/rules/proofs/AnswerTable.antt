-- The answer table as data: of each behaviour's list of rows the refusals, in their order; and of both calls' lists, that their rows stand
-- in their places and that each has the ICMP fields of its number.
use mathlib.Core.Path.{◌≡◌, refl}
use mathlib.Core.Bool.{Bool, true, false, cond, ◌&&◌}
use mathlib.Core.List.{List, [], ◌∷◌, ◌++◌}
use Prim.Native.Nat.{ℕ, ◌≤◌}
use native.Mathlib.Omega.{arith}
use lib.Dec.{eqb, leb}
use borrow.Author.Tests.{leb-true}
use Rattle.rules.specs.Assigned.{end, end_m_gtp6d, end_m_gtp6d_di, end_m_gtp6e}
use Rattle.rules.specs.Table.{entry_at, rule_at, policy_at}
use Rattle.rules.specs.Entry as Entry
use Rattle.rules.specs.Ipv6 as Ipv6
use Rattle.rules.specs.Ipv4 as Ipv4
use Rattle.rules.specs.Match.{match_entry, match_rule}
use Rattle.rules.specs.Answer.{Row, any, verdict, place, in_place, Decision, in_room, room_row}
use Rattle.rules.specs.Header.{header}
use Rattle.rules.specs.Datagram.{datagram, inner_rows, message_rows, g_pdu_rows}
use Rattle.rules.specs.Carried.{carried6, datagram_in6, datagram_in4}
use Rattle.rules.specs.Echo.{is_echo, by_type, echo_rows}
use Rattle.rules.specs.Waypoint.{waypoint_rows, step_rows, decide_waypoint}
use Rattle.rules.specs.Gtp6D.{gtp6_rows, rows_gtp6d, rows_echo6, decide_g_pdu6, decide_echo6, decide_gtp6d}
use Rattle.rules.specs.D.{d_path, d_packet, decide_d}
use Rattle.rules.specs.Di.{di_path, di_packet, decide_di}
use Rattle.rules.specs.E6.{e6_rows, rows_e6, decide_e6}
use Rattle.rules.specs.E4.{e4_rows, rows_e4, decide_e4}
use Rattle.rules.specs.D4.{gtp4_rows, rows_d4, rows_echo4, decide_g_pdu4, decide_echo4, decide_d4}
use Rattle.rules.specs.Header4.{header4}
use Rattle.rules.specs.Calls.{decide_entry, decide_found_entry, decide_found_rule, front_rows6, front_rows4, rows6, rows4}
use Rattle.rules.specs.Refused.{upper_at}
use Rattle.rules.specs.Given.{icmp, without_icmp, with_icmp}
use Rattle.rules.specs.declared.Datagram.{Datagram}
use Rattle.rules.specs.declared.Refusal.{Refusal}
use Rattle.std.specs.Prelude.{Option, Some, None, Err}
use Rattle.rules.proofs.Conditions.{and_left, and_right}

-- EACH BEHAVIOUR'S REFUSALS

abbrev pub refusals : List Row → List Refusal
refusals [] = []
refusals (r ∷ rs) = r.refusal ∷ refusals rs

module _ (p : List ℕ) where
  pub waypoint-refusals : refusals (decide_waypoint p).rows ≡ icmp 5 0 0 0 ∷ icmp 6 3 0 0 ∷ icmp 7 4 0 43 ∷ icmp 8 4 4 (upper_at p) ∷ []
  unfolding waypoint_rows step_rows header
  waypoint-refusals = refl

  -- D and Di, for an Echo Request and for any other message
  pub echo6-refusals : (e : List ℕ) → refusals (rows_echo6 e p)
      ≡ icmp 5 0 0 0 ∷ icmp 7 4 0 43 ∷ icmp 8 4 4 (upper_at p) ∷ icmp 9 0 0 0 ∷ icmp 18 0 0 0 ∷ icmp 10 0 0 0 ∷ icmp 17 0 0 0 ∷ []
  unfolding rows_echo6 gtp6_rows message_rows echo_rows header
  echo6-refusals e = refl

  pub gtp6_refusals : (e : List ℕ) (path : List (List ℕ)) → refusals (rows_gtp6d e path p)
      ≡ icmp 5 0 0 0 ∷ icmp 7 4 0 43 ∷ icmp 8 4 4 (upper_at p) ∷ icmp 9 0 0 0 ∷ icmp 18 0 0 0 ∷ icmp 10 0 0 0 ∷ icmp 11 0 0 0
      ∷ icmp 12 0 0 0 ∷ icmp 13 0 0 0 ∷ icmp 14 0 0 0 ∷ icmp 15 0 0 0 ∷ []
  unfolding rows_gtp6d gtp6_rows message_rows g_pdu_rows inner_rows header
  gtp6_refusals e path = refl

  pub e6-refusals : (e : List ℕ)
      → refusals (decide_e6 e p).rows ≡ icmp 5 0 0 0 ∷ icmp 7 4 0 43 ∷ icmp 8 4 4 (upper_at p) ∷ icmp 15 0 0 0 ∷ []
  unfolding rows_e6 e6_rows header
  e6-refusals e = refl

  pub e4-refusals : (e : List ℕ)
      → refusals (decide_e4 e p).rows ≡ icmp 5 0 0 0 ∷ icmp 7 4 0 43 ∷ icmp 8 4 4 (upper_at p) ∷ icmp 15 0 0 0 ∷ []
  unfolding rows_e4 e4_rows header
  e4-refusals e = refl

  pub echo4-refusals : refusals (rows_echo4 p) ≡ icmp 8 0 0 0 ∷ icmp 9 0 0 0 ∷ icmp 10 0 0 0 ∷ icmp 17 0 0 0 ∷ []
  unfolding rows_echo4 gtp4_rows message_rows echo_rows
  echo4-refusals = refl

  pub d4_refusals : (r : List ℕ) → refusals (rows_d4 r p)
      ≡ icmp 8 0 0 0 ∷ icmp 9 0 0 0 ∷ icmp 10 0 0 0 ∷ icmp 11 0 0 0 ∷ icmp 12 0 0 0 ∷ icmp 13 0 0 0 ∷ icmp 14 0 0 0 ∷ icmp 15 0 0 0 ∷ []
  unfolding rows_d4 gtp4_rows message_rows g_pdu_rows inner_rows
  d4_refusals r = refl

-- BOTH CALLS

-- what a refusal of the list is (docs/RULES.md, Answers): its number is from 1 to 18, its ICMP fields are those of the number
pub record Proper (refusal_of : ℕ → Refusal) (r : Refusal) : Type 0 where
  pub least : 1 ≤ r.number
  pub most : r.number ≤ 18
  pub fields : r ≡ refusal_of r.number

abbrev pub EachProper : (refusal_of : ℕ → Refusal) → List Row → Type 0
EachProper refusal_of [] = Unit {0}
EachProper refusal_of (r ∷ rs) = Proper refusal_of r.refusal × EachProper refusal_of rs

-- rows in their places from place k on, each proper
pub record Tabled (refusal_of : ℕ → Refusal) (k : ℕ) (rs : List Row) : Type 0 where
  pub order : in_place k rs ≡ true
  pub each : EachProper refusal_of rs

pub verdict_proper : (refusal_of : ℕ → Refusal) (rs : List Row) (ρ : Refusal)
    → EachProper refusal_of rs → verdict rs ≡ Err ρ → Proper refusal_of ρ
unfolding verdict
verdict_proper refusal_of [] ρ a h = let z : ◌≡◌ {A = ℕ} 0 1 = cc in absurd (omega arith)
verdict_proper refusal_of (r ∷ rs) ρ a h = go (any r.tests) h (verdict_proper refusal_of rs ρ a.1)
  where
    go : (b : Bool) → cond b (Err r.refusal) (verdict rs) ≡ Err ρ → (verdict rs ≡ Err ρ → Proper refusal_of ρ)
        → Proper refusal_of ρ
    go true h ih = let q : r.refusal ≡ ρ = cc in rw q at a.0
    go false h ih = ih h

-- the behaviours of an entry, one by one
pub entry_cases : (P : Decision → Type 0) (t e p : List ℕ) → P (decide_waypoint p) → P (decide_d e (policy_at t (Entry.policy e)) p)
    → P (decide_di e (policy_at t (Entry.policy e)) p) → P (decide_e6 e p) → P (decide_e4 e p) → P (decide_entry t e p)
unfolding decide_entry
entry_cases P t e p w d i s f = go (eqb b end) (eqb b end_m_gtp6d) (eqb b end_m_gtp6d_di) (eqb b end_m_gtp6e)
  where
    b : ℕ
    b = Entry.behaviour e

    y : List ℕ
    y = policy_at t (Entry.policy e)

    go : (is_end is_d is_di is_e6 : Bool) → P (cond is_end (decide_waypoint p)
        (cond is_d (decide_d e y p) (cond is_di (decide_di e y p) (cond is_e6 (decide_e6 e p) (decide_e4 e p)))))
    go true is_d is_di is_e6 = w
    go false true is_di is_e6 = d
    go false false true is_e6 = i
    go false false false true = s
    go false false false false = f

-- the types of a message
pub by_type_lem : (P : Decision → Type 0) (g : Datagram) (echo other : Decision) → P echo → P other → P (by_type g echo other)
by_type_lem P g echo other a b = go (is_echo g)
  where
    go : (is : Bool) → P (cond is echo other)
    go true = a
    go false = b

-- ROWS AT HAND, BY COMPUTATION

abbrev numbered : ℕ → Bool
numbered n = leb 1 n && leb n 18

proper : {refusal_of : ℕ → Refusal} {r : Refusal} → numbered r.number ≡ true → r ≡ refusal_of r.number → Proper refusal_of r
proper {refusal_of} {r} h e = record {
  least = leb-true _ _ (and_left (leb 1 r.number) (leb r.number 18) h);
  most = leb-true _ _ (and_right (leb 1 r.number) (leb r.number 18) h);
  fields = e;
}

abbrev all_numbered : List Row → Bool
all_numbered [] = true
all_numbered (r ∷ rs) = numbered r.refusal.number && all_numbered rs

-- the refusals that rows should have, by their numbers
abbrev as_numbered : (refusal_of : ℕ → Refusal) → List Row → List Refusal
as_numbered refusal_of [] = []
as_numbered refusal_of (r ∷ rs) = refusal_of r.refusal.number ∷ as_numbered refusal_of rs

each_proper : (refusal_of : ℕ → Refusal) (rs : List Row) → all_numbered rs ≡ true → refusals rs ≡ as_numbered refusal_of rs
    → EachProper refusal_of rs
each_proper refusal_of [] h e = tt
each_proper refusal_of (r ∷ rs) h e =
    let q : r.refusal ≡ refusal_of r.refusal.number = cc in
    let m = numbered r.refusal.number in
    (proper (and_left m (all_numbered rs) h) q, each_proper refusal_of rs (and_right m (all_numbered rs) h) cc)

tabled : {refusal_of : ℕ → Refusal} {k : ℕ} {rs : List Row} → in_place k rs ≡ true → all_numbered rs ≡ true
    → refusals rs ≡ as_numbered refusal_of rs → Tabled refusal_of k rs
tabled {refusal_of} {k} {rs} o h e = record { order = o; each = each_proper refusal_of rs h e }

-- over IPv6
module _ (p t : List ℕ) (room : ℕ) where
  abbrev pub Entered : Decision → Type 0
  Entered d = Tabled (with_icmp (upper_at p)) 4 (in_room room d).rows

  waypoint_tabled : Entered (decide_waypoint p)
  unfolding waypoint_rows step_rows header place
  waypoint_tabled = tabled refl refl refl

  echo6_tabled : (e : List ℕ) → Entered (decide_echo6 e p)
  unfolding rows_echo6 gtp6_rows message_rows echo_rows header place
  echo6_tabled e = tabled refl refl refl

  g_pdu6_tabled : (e made : List ℕ) (path : List (List ℕ)) → Entered (decide_g_pdu6 e path made p)
  unfolding rows_gtp6d gtp6_rows message_rows g_pdu_rows inner_rows header place
  g_pdu6_tabled e made path = tabled refl refl refl

  gtp6_tabled : (e made : List ℕ) (path : List (List ℕ)) → Entered (decide_gtp6d e path made p)
  gtp6_tabled e made path = by_type_lem Entered (datagram (datagram_in6 p)) _ _ (echo6_tabled e) (g_pdu6_tabled e made path)

  e6_tabled : (e : List ℕ) → Entered (decide_e6 e p)
  unfolding rows_e6 e6_rows header place
  e6_tabled e = tabled refl refl refl

  e4_tabled : (e : List ℕ) → Entered (decide_e4 e p)
  unfolding rows_e4 e4_rows header place
  e4_tabled e = tabled refl refl refl

  pub entry_tabled : (e : List ℕ) → Entered (decide_entry t e p)
  entry_tabled e =
      let y = policy_at t (Entry.policy e) in
      let c = carried6 p in
      let d = gtp6_tabled e (d_packet e y c) (d_path y c) in
      let di = gtp6_tabled e (di_packet e y c) (di_path y c) in
      entry_cases Entered t e p waypoint_tabled d di (e6_tabled e) (e4_tabled e)

  pub tabled6 : Tabled (with_icmp (upper_at p)) 0 (rows6 p t room)
  unfolding rows6 front_rows6 decide_found_entry place
  tabled6 = go (match_entry t (Ipv6.destination p))
    where
      go : (f : Option ℕ) → let d = decide_found_entry t p f in
          Tabled (with_icmp (upper_at p)) 0 ((front_rows6 t (header p) ++ d.rows) ++ room_row room d.packet ∷ [])
      go None = tabled refl refl refl
      go (Some i) =
          let e = entry_tabled (entry_at t i) in
          record { order = e.order; each = (proper refl refl, (proper refl refl, (proper refl refl, e.each))) }

-- over IPv4
module _ (p t : List ℕ) (room : ℕ) where
  abbrev Ruled : Decision → Type 0
  Ruled d = Tabled without_icmp 4 (in_room room d).rows

  echo4_tabled : (r : List ℕ) → Ruled (decide_echo4 r p)
  unfolding rows_echo4 gtp4_rows message_rows echo_rows place
  echo4_tabled r = tabled refl refl refl

  g_pdu4_tabled : (r : List ℕ) → Ruled (decide_g_pdu4 r p)
  unfolding rows_d4 gtp4_rows message_rows g_pdu_rows inner_rows place
  g_pdu4_tabled r = tabled refl refl refl

  rule_tabled : (r : List ℕ) → Ruled (decide_d4 r p)
  rule_tabled r = by_type_lem Ruled (datagram (datagram_in4 p)) _ _ (echo4_tabled r) (g_pdu4_tabled r)

  pub tabled4 : Tabled without_icmp 0 (rows4 p t room)
  unfolding rows4 front_rows4 decide_found_rule place
  tabled4 = go (match_rule t (Ipv4.destination p))
    where
      go : (f : Option ℕ) → let d = decide_found_rule t p f in
          Tabled without_icmp 0 ((front_rows4 t (header4 p) ++ d.rows) ++ room_row room d.packet ∷ [])
      go None = tabled refl refl refl
      go (Some k) =
          let e = rule_tabled (rule_at t k) in
          record { order = e.order; each = (proper refl refl, (proper refl refl, (proper refl refl, (proper refl refl, e.each)))) }
