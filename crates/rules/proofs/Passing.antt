-- The calls at a list of waypoints: each sends the packet forwarded. Hop limit and Segments Left fall by their number, and the destination
-- is the next on the path.
use mathlib.Core.Path.{◌≡◌, sym, ap, ◌∙◌, subst}
use mathlib.Core.List.{List, [], ◌∷◌, ◌++◌, append_assoc}
use Prim.Native.Nat.{ℕ, suc, ◌+◌, ◌-◌, ◌*◌, ◌<◌}
use native.Mathlib.Nat.{sub-zero}
use native.Mathlib.Omega.{arith}
use lib.ListN.{length, drop, length-append}
use Rattle.rules.specs.Octets.{splice}
use Rattle.rules.specs.Assigned.{end}
use Rattle.rules.specs.Table.{entry_at}
use Rattle.rules.specs.Answer.{Sent}
use Rattle.rules.specs.Header.{header}
use Rattle.rules.specs.Waypoint.{forwarded, waypoint_rows, at_waypoint}
use Rattle.rules.specs.Trip.{Stop, Trip, trip, call}
use Rattle.rules.specs.Demand3.{AtEntry, AtWaypoints, EachHasRoom, HasRoom}
use Rattle.rules.proofs.Rows.{unless-none}
use Rattle.rules.proofs.Entries.{at_waypoint_lem, entry_sends}
use Rattle.rules.proofs.Trips.{forwards, trip-none, trip-step}
use Rattle.rules.proofs.Waypoints.{on_the_way, Way, way_length, way_destination, way_wellformed, way_rows, way_forwarded}

-- the way still to go, but for its first, stands at the end of what the SRH holds
unfoldable pub Ends : List (List ℕ) → List (List ℕ) → Type 0
Ends held path = (pre : List (List ℕ)) × (held ≡ pre ++ drop 1 path)

ends_next : (held : List (List ℕ)) (d : List ℕ) (path : List (List ℕ)) → Ends held (d ∷ path) → Ends held path
unfolding Ends
ends_next held d [] (pre, e) = (pre, e)
ends_next held d (x ∷ rest) (pre, e) = (pre ++ x ∷ [], e ∙ sym (append_assoc pre (x ∷ []) rest))

module _ (class upper : ℕ) (source : List ℕ) (held : List (List ℕ)) (inner : List ℕ) where
  -- what stays on the way is fixed; what changes is the hop limit and the path
  abbrev pub going : (hop : ℕ) (path : List (List ℕ)) → List ℕ
  going hop path = on_the_way class upper hop source held path inner

  step : (hop : ℕ) (d : List ℕ) (path : List (List ℕ))
      (w : Way class upper hop source held (d ∷ path) inner) (w' : Way class upper (hop - 1) source held path inner)
      (pre : List (List ℕ)) → held ≡ pre ++ path → 1 < hop
      → (s : Stop) (i : ℕ) → AtEntry s d end i → HasRoom s (48 + 16 * length held + length inner)
      → (forwarded (going hop (d ∷ path)) ≡ going (hop - 1) path)
      × (call s (going hop (d ∷ path)) ≡ Sent (forwarded (going hop (d ∷ path))))
  unfolding at_waypoint
  step hop d [] w w' pre e hh s i a room = absurd (omega (arith, w'.some))
  step hop d (x ∷ rest) w w' pre e hh s i a room =
      let path = d ∷ x ∷ rest in
      let p = going hop path in
      let f : forwarded p ≡ going (hop - 1) (x ∷ rest) =
      rw e (way_forwarded class upper hop source d pre x rest inner w.from w.to.0 w.to.1.0 w.to.1.1) in
      let size : length (forwarded p) ≡ 48 + 16 * length held + length inner =
      ap (λ (q : List ℕ). length q) f ∙ way_length class upper (hop - 1) source held (x ∷ rest) inner w' in (
        f,
        entry_sends s p d (forwarded p) end i a (way_destination class upper hop source held path inner w)
            (way_wellformed class upper hop source held path inner w)
            (at_waypoint_lem s.table (entry_at s.table i) p a.kind
            ∙ unless-none (waypoint_rows (header p)) (Sent (forwarded p))
            (way_rows class upper hop source held path inner w (omega arith) hh))
            (rw size room),
      )

  pub passes : (hop : ℕ) (path : List (List ℕ)) (ss : List Stop) (ds : List (List ℕ))
      → Way class upper hop source held (ds ++ path) inner → 0 < length path → Ends held (ds ++ path) → length ss < hop
      → AtWaypoints ss ds → EachHasRoom ss (48 + 16 * length held + length inner)
      → trip ss (going hop (ds ++ path)) ≡ forwards ss (going hop (ds ++ path)) (going (hop - length ss) path)
  unfolding Ends
  passes hop path [] [] w hp he hh a room = rw (sub-zero hop) (trip-none (going hop path))
  passes hop path (s ∷ ss) (d ∷ ds) w hp he hh a room =
      let l : 0 < length (ds ++ path) = rw (length-append ds path) (omega arith) in
      let w' : Way class upper (hop - 1) source held (ds ++ path) inner = record {
        octet = w.octet;
        not0 = w.not0;
        not43 = w.not43;
        not44 = w.not44;
        not60 = w.not60;
        from = w.from;
        to = w.to.1;
        some = l;
        through = w.through;
        ahead = omega (arith, w.ahead);
        fits = w.fits;
      } in
      let p = going hop (d ∷ ds ++ path) in
      let (f, sends) = step hop d (ds ++ path) w w' he.0 he.1 (omega arith) s a.0.0 a.0.1 room.0 in
      let e : hop - 1 - length ss ≡ hop - suc (length ss) = omega arith in
      let rest = rw e at (passes (hop - 1) path ss ds w' hp (ends_next held d (ds ++ path) he) (omega arith) a.1 room.1) in
      let onward : trip ss (forwarded p) ≡ forwards ss (forwarded p) (going (hop - suc (length ss)) path) =
      subst (λ (q : List ℕ). trip ss q ≡ forwards ss q (going (hop - suc (length ss)) path)) (sym f) rest in
      trip-step s ss p (forwarded p) sends
      ∙ ap (λ (t : Trip). record { outcome = t.outcome; buffers = splice s.buffer 0 (forwarded p) ∷ t.buffers }) onward
  passes hop path [] (d ∷ ds) w hp he hh a room = absurd a
  passes hop path (s ∷ ss) [] w hp he hh a room = absurd a
