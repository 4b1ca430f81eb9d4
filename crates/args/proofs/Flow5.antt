-- Flow 5 with the reflective bit, at any TEID: 0x45 in a container, 0x16 in Args. The low six bits of 0x16 are 22, so a reading that
-- confuses the two places shows here.
use mathlib.Core.Path.{◌≡◌, refl}
use mathlib.Core.List.{List, ◌∷◌}
use Prim.Native.Nat.{ℕ, ◌%◌}
use native.Mathlib.Omega.{arith}
use lib.ListN.{length}
use Rattle.rules.specs.Octets.{octet}
use Rattle.rules.specs.Assigned.{downlink}
use Rattle.rules.specs.Args.{Args, first_octet, args_octets, args_at}
use Rattle.rules.specs.Gtpu.{flow_octet, pdu_type, qfi as container_qfi, reflective as container_reflective}
use Rattle.args.proofs.Laws.{args_back}

abbrev pub flow5 : List ℕ → Args
flow5 teid = record { qfi = 5; reflective = 1; teid = teid }

pub mixed_up : first_octet 5 1 % 64 ≡ 22
mixed_up = refl

-- written
pub to_args : (teid : List ℕ) → args_octets (flow5 teid) ≡ 0x16 ∷ teid
to_args teid = refl

pub to_container : flow_octet downlink 5 1 ≡ 0x45
to_container = refl

-- read
pub from_args : (teid : List ℕ) → length teid ≡ 4 → args_at (0x16 ∷ teid) 0 ≡ flow5 teid
from_args teid h = args_back (flow5 teid) (omega arith) (omega arith) h

pub from_args_not_22 : (teid : List ℕ) → (args_at (0x16 ∷ teid) 0).qfi ≡ 22 → ⊥
unfolding args_at
from_args_not_22 teid e = omega arith

pub from_container : (u : List ℕ) → pdu_type u ≡ downlink → octet u 22 ≡ 0x45 → (container_qfi u ≡ 5) × (container_reflective u ≡ 1)
from_container u d e = (rw e, rw (d, e))

-- from the one to the other
pub container_to_args : (u : List ℕ) → pdu_type u ≡ downlink → octet u 22 ≡ 0x45 → first_octet (container_qfi u) (container_reflective u)
    ≡ 0x16
container_to_args u d e = rw (d, e)

pub args_to_container : (teid : List ℕ) → flow_octet downlink (args_at (0x16 ∷ teid) 0).qfi (args_at (0x16 ∷ teid) 0).reflective ≡ 0x45
unfolding args_at
args_to_container teid = refl
