-- Demand 3, over both IP versions: under the papers' premises a trip delivers what they promise.
use mathlib.Core.List.{List}
use Prim.Native.Nat.{ℕ}
use Rattle.rules.specs.Trip.{Stop}
use Rattle.rules.specs.Demand3.{Matching, over6, over4, Promise}
use Rattle.rules.proofs.Demand3v6.{demand3_ipv6}
use Rattle.rules.proofs.Demand3v4.{demand3_ipv4}

pub demand3 : (near : Stop) (ss : List Stop) (far : Stop) (p : List ℕ) (m : Matching near ss far p) → Promise m
demand3 near ss far p (over6 i j m) = demand3_ipv6 near ss far p i j m
demand3 near ss far p (over4 k j m) = demand3_ipv4 near ss far p k j m
