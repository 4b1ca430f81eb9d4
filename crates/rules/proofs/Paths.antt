-- A packet written along a path arrives, past the waypoints, at what lies behind them.
use mathlib.Core.Path.{◌≡◌, refl, sym, ap}
use mathlib.Core.List.{List, ◌++◌}
use Prim.Native.Nat.{ℕ, zero, suc, ◌+◌, ◌-◌, ◌*◌, ◌≤◌, ◌<◌}
use native.Mathlib.Omega.{arith}
use lib.ListN.{length, take, length-append, take-append-drop}
use Rattle.rules.specs.Table.{addresses_at}
use Rattle.rules.specs.Srv6.{srv6, srv6_payload}
use Rattle.rules.specs.Trip.{Stop, trip}
use Rattle.rules.specs.Demand3.{AtWaypoints, EachHasRoom}
use Rattle.rules.proofs.Windows.{window-length}
use Rattle.rules.proofs.Reading.{Addresses, addresses-append}
use Rattle.rules.proofs.Sessions.{Carries}
use Rattle.rules.proofs.Waypoints.{on_the_way, Way, way_length}
use Rattle.rules.proofs.Trips.{forwards}
use Rattle.rules.proofs.Passing.{Ends, passes}

-- the addresses of a record
pub addresses_at-addresses : (s : List ℕ) (i n : ℕ) → Addresses (addresses_at s i n)
unfolding addresses_at
addresses_at-addresses s i zero = tt
addresses_at-addresses s i (suc n) = (window-length s i 16, addresses_at-addresses s (i + 16) n)

pub addresses_at-length : (s : List ℕ) (i n : ℕ) → length (addresses_at s i n) ≡ n
unfolding addresses_at
addresses_at-length s i zero = refl
addresses_at-length s i (suc n) = ap suc (addresses_at-length s (i + 16) n)

module _ (class upper hop : ℕ) (source : List ℕ) (ws tail : List (List ℕ)) (inner : List ℕ) (session : ℕ) (octet : class < 256)
    (k : Carries session upper)
    (from : length source ≡ 16) (hw : Addresses ws) (ht : Addresses tail) (some : 0 < length tail)
    (fits : srv6_payload (ws ++ tail) inner ≤ 65535) where
  -- at any hop limit, with all of the path or its tail still to go
  way_of : (hop : ℕ) (path : List (List ℕ)) → Addresses path → 0 < length path → length path ≤ length (ws ++ tail) + 1
      → Way class upper hop source (ws ++ tail) path inner
  way_of hop path hp h0 hl = record {
    octet = octet;
    not0 = k.not0;
    not43 = k.not43;
    not44 = k.not44;
    not60 = k.not60;
    from = from;
    to = hp;
    some = h0;
    through = addresses-append ws tail hw ht;
    ahead = hl;
    fits = fits;
  }

  pub way_begin : Way class upper hop source (ws ++ tail) (ws ++ tail) inner
  way_begin = let n = length-append ws tail in way_of hop (ws ++ tail) (addresses-append ws tail hw ht) (omega arith) (omega arith)

  pub way_end : (hop : ℕ) → Way class upper hop source (ws ++ tail) tail inner
  way_end hop = let n = length-append ws tail in way_of hop tail ht some (omega arith)

  pub srv6-length : length (srv6 class upper hop source (ws ++ tail) inner) ≡ 48 + 16 * length (ws ++ tail) + length inner
  srv6-length = way_length class upper hop source (ws ++ tail) (ws ++ tail) inner way_begin

  pub arrives : (ss : List Stop) → length ss < hop → AtWaypoints ss ws
      → EachHasRoom ss (length (srv6 class upper hop source (ws ++ tail) inner))
      → trip ss (srv6 class upper hop source (ws ++ tail) inner)
      ≡ forwards ss (srv6 class upper hop source (ws ++ tail) inner) (on_the_way class upper (hop - length ss) source (ws ++ tail) tail
      inner)
  unfolding Ends
  arrives ss hh a room =
      let held = ws ++ tail in
      passes class upper source held inner hop tail ss ws way_begin some
      (take 1 held, sym (take-append-drop 1 held)) hh a (rw srv6-length at room)
