-- The two calls: from packet octets, table octets and room to what is sent or a refusal.
use Rattle.std.specs.Prelude.{Bool, true, false, not, cond, List, [], ◌∷◌, ◌++◌, ℕ, eqb, Option, Some, None}
use Rattle.rules.specs.Assigned.{end, end_m_gtp6d, end_m_gtp6d_di, end_m_gtp6e}
use Rattle.rules.specs.Table.{entry_at, rule_at, policy_at}
use Rattle.rules.specs.Entry as Entry
use Rattle.rules.specs.Ipv6 as Ipv6
use Rattle.rules.specs.Ipv4 as Ipv4
use Rattle.rules.specs.Sound.{sound}
use Rattle.rules.specs.Match.{match_entry, match_rule}
use Rattle.rules.specs.Answer.{Row, row, Decision, Outcome, Sent, outcome, unless, in_room}
use Rattle.rules.specs.Header.{header, malformed}
use Rattle.rules.specs.Waypoint.{decide_waypoint}
use Rattle.rules.specs.D.{decide_d}
use Rattle.rules.specs.Di.{decide_di}
use Rattle.rules.specs.E6.{decide_e6}
use Rattle.rules.specs.E4.{decide_e4}
use Rattle.rules.specs.D4.{decide_d4}
use Rattle.rules.specs.Header4.{header4, malformed4, bad_header4}
use Rattle.rules.specs.declared.Header.{Header}
use Rattle.rules.specs.declared.Header4.{Header4}

-- row 1: table not sound
abbrev pub unsound_row : (t : List ℕ) → Row
unsound_row t = row (not (sound t) ∷ []) 1

-- row 4: no entry or rule matches
abbrev pub nothing : Option ℕ → Bool
nothing None = true
nothing (Some i) = false

abbrev pub unmatched_row : Option ℕ → Row
unmatched_row found = row (nothing found ∷ []) 4

-- an IPv6 packet at an entry that matches; the last behaviour that a sound table may name is E4
unfoldable pub decide_entry : (t e p : List ℕ) → Decision
decide_entry t e p =
    cond (eqb (Entry.behaviour e) end) (decide_waypoint p)
    (cond (eqb (Entry.behaviour e) end_m_gtp6d) (decide_d e (policy_at t (Entry.policy e)) p)
    (cond (eqb (Entry.behaviour e) end_m_gtp6d_di) (decide_di e (policy_at t (Entry.policy e)) p)
    (cond (eqb (Entry.behaviour e) end_m_gtp6e) (decide_e6 e p) (decide_e4 e p))))

unfoldable pub at_entry : (t e p : List ℕ) → Outcome
at_entry t e p = outcome (decide_entry t e p)

-- rows from 4 on, with the record that is found; where none is, row 4 refuses and no packet is made
abbrev pub with_found : (decide_at : ℕ → Decision) → Option ℕ → Decision
with_found decide_at None = record { rows = unmatched_row None ∷ []; packet = [] }
with_found decide_at (Some i) = record { rows = unmatched_row (Some i) ∷ (decide_at i).rows; packet = (decide_at i).packet }

unfoldable pub decide_found_entry : (t p : List ℕ) → Option ℕ → Decision
decide_found_entry t p found = with_found (λ i. decide_entry t (entry_at t i) p) found

unfoldable pub decide_found_rule : (t p : List ℕ) → Option ℕ → Decision
decide_found_rule t p found = with_found (λ k. decide_d4 (rule_at t k) p) found

unfoldable pub at_found_entry : (t p : List ℕ) → Option ℕ → Outcome
at_found_entry t p found = outcome (decide_found_entry t p found)

unfoldable pub at_found_rule : (t p : List ℕ) → Option ℕ → Outcome
at_found_rule t p found = outcome (decide_found_rule t p found)

-- rows 1 and 2; over IPv4 rows 1, 2 and 3
unfoldable pub front_rows6 : (t : List ℕ) → Header → List Row
front_rows6 t h = unsound_row t ∷ row (malformed h) 2 ∷ []

unfoldable pub front_rows4 : (t : List ℕ) → Header4 → List Row
front_rows4 t h = unsound_row t ∷ row (malformed4 h) 2 ∷ row (bad_header4 h) 3 ∷ []

-- what is decided, as if there were room
abbrev pub decide6 : (packet table : List ℕ) → Decision
decide6 p t =
    let d = decide_found_entry t p (match_entry t (Ipv6.destination p)) in
    record { rows = front_rows6 t (header p) ++ d.rows; packet = d.packet }

abbrev pub decide4 : (packet table : List ℕ) → Decision
decide4 p t =
    let d = decide_found_rule t p (match_rule t (Ipv4.destination p)) in
    record { rows = front_rows4 t (header4 p) ++ d.rows; packet = d.packet }

-- all rows of the IPv6 call and of the IPv4 call
unfoldable pub rows6 : (packet table : List ℕ) (room : ℕ) → List Row
rows6 p t room = (in_room room (decide6 p t)).rows

unfoldable pub rows4 : (packet table : List ℕ) (room : ℕ) → List Row
rows4 p t room = (in_room room (decide4 p t)).rows

-- the IPv6 call and the IPv4 call
unfoldable pub translate6 : (packet table : List ℕ) (room : ℕ) → Outcome
translate6 p t room = unless (rows6 p t room) (Sent (decide6 p t).packet)

unfoldable pub translate4 : (packet table : List ℕ) (room : ℕ) → Outcome
translate4 p t room = unless (rows4 p t room) (Sent (decide4 p t).packet)
