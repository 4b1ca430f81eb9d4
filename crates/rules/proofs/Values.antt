-- The values that are carried are those that Sent.antt says are read.
use mathlib.Core.Path.{refl}
use mathlib.Core.List.{List}
use Prim.Native.Nat.{ℕ}
use borrow.Author.Tests.{eq-eqb, ne_eqb}
use Rattle.rules.specs.Gtpu as Gtpu
use Rattle.rules.specs.Header.{header}
use Rattle.rules.specs.Carried.{carried_by, carried6, carried4}
use Rattle.rules.specs.E6.{e6_carried}
use Rattle.rules.specs.E4.{e4_carried}
use Rattle.rules.specs.Sent.{ReadFromGtpu, ReadAtGtp6D, ReadAtD4, ReadAtE6, ReadAtE4}

gtpu-read : (class : ℕ) (source destination u : List ℕ) → ReadFromGtpu u (carried_by class source destination u)
unfolding carried_by
gtpu-read class source destination u = record {
  teid = refl;
  qfi = refl;
  in_downlink = λ h. rw (eq-eqb (Gtpu.pdu_type u) 0 h);
  otherwise = λ h. rw (ne_eqb (Gtpu.pdu_type u) 0 h);
  inner = refl;
}

pub gtp6_read : (p : List ℕ) → ReadAtGtp6D p (carried6 p)
unfolding carried6 carried_by header
gtp6_read p = record { trafficClass = refl; source = refl; destination = refl; gtpu = gtpu-read _ _ _ _ }

pub d4_read : (p : List ℕ) → ReadAtD4 p (carried4 p)
unfolding carried4 carried_by
d4_read p = record { tos = refl; source = refl; destination = refl; gtpu = gtpu-read _ _ _ _ }

pub e6-read : (e p : List ℕ) → ReadAtE6 e p (e6_carried e p)
unfolding e6_carried header
e6-read e p = record { trafficClass = refl; source = refl; destination = refl; args = refl; inner = refl }

pub e4-read : (e p : List ℕ) → ReadAtE4 e p (e4_carried e p)
unfolding e4_carried header
e4-read e p = record { trafficClass = refl; source = refl; destination = refl; args = refl; inner = refl }
