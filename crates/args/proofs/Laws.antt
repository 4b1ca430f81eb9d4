-- Laws of Args: its parts are read back from its octets, and its octets stand in a SID.
use mathlib.Core.Path.{◌≡◌}
use mathlib.Core.List.{List}
use Prim.Native.Nat.{ℕ, ◌/◌, ◌%◌, ◌<◌}
use native.Mathlib.Omega.{arith}
use lib.ListN.{length}
use Rattle.rules.specs.Octets.{octet, window}
use Rattle.rules.specs.Args.{Args, first_octet, args_octets, args_at}
use Rattle.rules.proofs.Windows.{window-window}
use Rattle.octets.proofs.Windows.{window-all}

-- what is written is read back
pub args_back : (a : Args) → a.qfi < 64 → a.reflective < 2 → length a.teid ≡ 4 → args_at (args_octets a) 0 ≡ a
unfolding args_at window
args_back a q r t =
    let first : ℕ = first_octet a.qfi a.reflective in
    let flow : first / 4 % 64 ≡ a.qfi = omega arith in
    let bit : first / 2 % 2 ≡ a.reflective = omega arith in
    let teid : window a.teid 0 4 ≡ a.teid = window-all a.teid 4 t in
    λ i. record { qfi = flow i; reflective = bit i; teid = teid i }

-- five octets of a SID read as they stand in it
pub args_cut : (sid : List ℕ) (start : ℕ) → args_at (window sid (start / 8) 5) 0 ≡ args_at sid start
unfolding args_at window
args_cut sid start =
    let teid = window-window sid (start / 8) 5 1 4 (omega arith) in
    λ i. record { qfi = octet sid (start / 8) / 4 % 64; reflective = octet sid (start / 8) / 2 % 2; teid = teid i }
