-- The octets and the routing state that values of the types `Address` and `Routing` hold, and what a step hands back.
use Rattle.std.specs.Prelude.{◌≡◌, List, ◌++◌, ℕ, Result, Ok, Err}
use Rattle.std.specs.Int.{w64, to_le_bytes}
use Rattle.rules.specs.Answer.{Verdict}
use Rattle.rules.specs.Waypoint.{Routing as Held}
use Rattle.rules.specs.declared.Refusal.{Refusal}
use Rattle.srh.specs.declared.Address.{Address}
use Rattle.srh.specs.declared.Routing.{Routing}

-- the 16 octets of an address, of each word the lowest first
abbrev pub address_octets : Address → List ℕ
address_octets a = to_le_bytes w64 a.first ++ to_le_bytes w64 a.second

-- the routing state, its destination as octets
abbrev pub state : Routing → Held
state s = record { segmentsLeft = s.segmentsLeft; hopLimit = s.hopLimit; destination = address_octets s.destination }

-- where the verdict passes, the next state; else its refusal, and no state
abbrev pub NextOrRefused : Result Routing Refusal → Verdict → (next : Held) → Type 0
NextOrRefused (Ok s) v next = (v ≡ Ok tt) × (state s ≡ next)
NextOrRefused (Err r) v next = v ≡ Err r
