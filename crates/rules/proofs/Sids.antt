-- Args in a SID: the laws that everything else uses of `with_args` and `args_at`.
use mathlib.Core.Path.{◌≡◌, sym, ◌∙◌}
use mathlib.Core.List.{List, ◌++◌}
use Prim.Native.Nat.{ℕ, ◌+◌, ◌/◌, ◌%◌, ◌≤◌, ◌<◌}
use native.Mathlib.Omega.{arith}
use lib.ListN.{length, take, drop, length-append, length-take, length-drop, get_or-append}
use lib.Seq.{get_or_at, get_or-take, length-take-le}
use Rattle.rules.specs.Octets.{octet, window}
use Rattle.rules.specs.Args.{Args, first_octet, args_octets, args_at, with_args}
use Rattle.rules.proofs.Windows.{window_same, window-drop, window-past, window_front}

-- what holds of Args that were read
pub record Fits (x : Args) : Type 0 where
  pub flow : x.qfi < 64
  pub bit : x.reflective < 2
  pub tunnel : length x.teid ≡ 4

-- Args, read back behind a front
module _ (front : List ℕ) (start : ℕ) (x : Args) (rest : List ℕ) (h : length front ≡ start / 8) (f : Fits x) where
  args_first : octet (front ++ (args_octets x ++ rest)) (start / 8) ≡ first_octet x.qfi x.reflective
  args_first = get_or_at front (first_octet x.qfi x.reflective) (x.teid ++ rest) 0 (start / 8) h

  args_qfi : octet (front ++ (args_octets x ++ rest)) (start / 8) / 4 % 64 ≡ x.qfi
  args_qfi = rw args_first (omega (arith, f.flow, f.bit))

  args_reflective : octet (front ++ (args_octets x ++ rest)) (start / 8) / 2 % 2 ≡ x.reflective
  args_reflective = rw args_first (omega (arith, f.flow, f.bit))

  args_teid : window (front ++ (args_octets x ++ rest)) (start / 8 + 1) 4 ≡ x.teid
  args_teid =
      window-past front (args_octets x ++ rest) (start / 8) 1 4 h
      ∙ sym (window-drop (args_octets x ++ rest) 1 0 4) ∙ window_front x.teid rest 4 f.tunnel

  pub args_back : args_at (front ++ (args_octets x ++ rest)) start ≡ x
  unfolding args_at
  args_back = λ k. record { qfi = args_qfi k; reflective = args_reflective k; teid = args_teid k }

module _ (sid : List ℕ) (start : ℕ) (x : Args) (hs : length sid ≡ 16) (hb : start ≤ 88) (f : Fits x) where
  front_length : length (take (start / 8) sid) ≡ start / 8
  front_length = length-take-le (start / 8) sid (omega arith)

  pub with_args-length : length (with_args sid start x) ≡ 16
  unfolding with_args
  with_args-length = simp (length-append, length-take, length-drop) (omega (arith, f.tunnel))

  -- what is read is what was placed
  pub with_args_back : args_at (with_args sid start x) start ≡ x
  unfolding with_args
  with_args_back = args_back (take (start / 8) sid) start x (drop (start / 8 + 5) sid) front_length f

  -- the octets before them stay
  pub with_args_before : (k n : ℕ) → k + n ≤ start / 8 → window (with_args sid start x) k n ≡ window sid k n
  unfolding with_args
  with_args_before k n h =
      window_same (take (start / 8) sid ++ (args_octets x ++ drop (start / 8 + 5) sid)) sid k k n
      (λ i l.
      let b : k + i < start / 8 = omega arith in
      get_or-append (take (start / 8) sid) (args_octets x ++ drop (start / 8 + 5) sid) 0 (k + i) (rw front_length b)
      ∙ get_or-take (start / 8) sid (k + i) 0 b)
