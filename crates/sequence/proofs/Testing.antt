-- How code that tests rows one by one is proved: each `return` follows from the tests that led there.
use Rattle.std.proofs.Common.{Err}
use mathlib.Core.Path.{◌≡◌, refl, ap, ◌∙◌}
use mathlib.Core.Bool.{Bool, true, false, not, cond, ◌&&◌}
use mathlib.Core.List.{List, [], ◌∷◌, ◌++◌}
use Prim.Native.Nat.{ℕ, ◌/◌, ◌%◌}
use native.Mathlib.Omega.{arith}
use Rattle.std.specs.Int.{from_be_bytes, w32}
use lib.Dec.{eqb}
use lib.ListN.{length, drop}
use borrow.Author.Tests.{not-true, not-false}
use Rattle.rules.specs.Octets.{window, number}
use Rattle.rules.specs.Gtpu as Gtpu
use Rattle.rules.specs.Answer.{Row, row, any, upper_layer_row, verdict}
use Rattle.rules.specs.Header.{header_of, header, malformed}
use Rattle.rules.specs.Datagram.{datagram, not_gtpu}
use Rattle.rules.specs.Gtp6D.{gtp6_rows}
use Rattle.rules.specs.D4.{gtp4_rows}
use Rattle.rules.specs.Header4.{header4_of, header4, malformed4, bad_header4}
use Rattle.rules.specs.declared.Header.{Header}
use Rattle.rules.specs.declared.Header4.{Header4}
use Rattle.rules.specs.declared.Datagram.{Datagram}
use Rattle.rules.specs.declared.Refusal.{Refusal}
use Rattle.rules.proofs.Judging.{is_true, is_false, only_true, only_false}
use Rattle.sequence.specs.Sequence.{rows9_to11, g_pdu_rows6, g_pdu_rows4, passes, numbered, teid, found, found_in}
use Rattle.sequence.specs.Sequence.{sequence_unless, sequence6, sequence4}
use Rattle.sequence.specs.Parts.{rows8_to11, sequence_in}

-- ROWS

module _ (u : List ℕ) where
  -- a row that applies, and one that is passed
  pub row-applies : (bs : List Bool) (ρ : Refusal) (rs : List Row) → any bs ≡ true
      → 0 ≡ sequence_unless (record { tests = bs; refusal = ρ } ∷ rs) u
  unfolding sequence_unless verdict
  row-applies bs ρ rs e = rw e

  pub row_passed : (bs : List Bool) (ρ : Refusal) (rs : List Row) (z : ℕ) → any bs ≡ false → z ≡ sequence_unless rs u
      → z ≡ sequence_unless (record { tests = bs; refusal = ρ } ∷ rs) u
  unfolding sequence_unless verdict
  row_passed bs ρ rs z e p = rw e p

pub ruleset tested = (row-applies, row_passed, is_true, is_false, only_true, only_false)

-- WHAT IS READ OF A PACKET

-- the TEID's octets in the order of the packet
teid_number : (t : List ℕ) → from_be_bytes w32 t ≡ number t 0 4
unfolding number
teid_number t = omega arith

-- a datagram by its view
module _ (u : List ℕ) (g : Datagram) (seen : g ≡ datagram u) where
  pub datagram_seen : (protocol z : ℕ) → z ≡ sequence_unless (rows8_to11 protocol g) u → z ≡ sequence_in protocol u
  datagram_seen protocol z e = e ∙ ap (λ (g : Datagram). sequence_unless (rows8_to11 protocol g) u) seen

  -- S, tested in the view by r
  module _ (r : Bool) (tested : r ≡ eqb (g.flags / 2 % 2) 1) where
    flag_seen : r ≡ numbered u
    unfolding datagram
    flag_seen = tested ∙ ap (λ (g : Datagram). eqb (g.flags / 2 % 2) 1) seen

    pub flag_clear : not r ≡ true → 0 ≡ sequence_unless [] u
    unfolding sequence_unless verdict
    flag_clear e = rw (← flag_seen, not-true r e)

    pub flag_set : (t n z : ℕ) → not r ≡ false → z ≡ found t n → t ≡ from_be_bytes w32 g.teid → n ≡ Gtpu.sequence_number u
        → z ≡ sequence_unless [] u
    unfolding sequence_unless verdict datagram
    flag_set t n z e p q s =
        let teid-seen : t ≡ teid u = q ∙ teid_number g.teid ∙ ap (λ (g : Datagram). number g.teid 0 4) seen in
        rw (← flag_seen, not-false r e) (p ∙ (λ i. found (teid-seen i) (s i)))

pub ruleset tested8 = (datagram_seen, tested, flag_clear, flag_set)

-- row 8 refuses alike over IPv6 and over IPv4
refused_alike : (u : List ℕ) (bs : List Bool) (ρ ρ' : Refusal) (rs : List Row)
    → sequence_unless (record { tests = bs; refusal = ρ } ∷ rs) u ≡ sequence_unless (record { tests = bs; refusal = ρ' } ∷ rs) u
unfolding sequence_unless verdict
refused_alike u bs ρ ρ' rs = go (any bs)
  where
    go : (b : Bool) → cond (passes (cond b (Err ρ) (verdict rs)) && numbered u) (found_in u) 0
        ≡ cond (passes (cond b (Err ρ') (verdict rs)) && numbered u) (found_in u) 0
    go true = refl
    go false = refl

pub over_ipv6 : (protocol at z : ℕ) (u : List ℕ) → z ≡ sequence_in protocol u
    → z ≡ sequence_unless (upper_layer_row (not_gtpu protocol (datagram u)) at ∷ rows9_to11 (datagram u)) u
unfolding rows8_to11
over_ipv6 protocol at z u e = e ∙ refused_alike u (not_gtpu protocol (datagram u)) _ _ (rows9_to11 (datagram u))

pub over_ipv4 : (protocol z : ℕ) (u : List ℕ) → z ≡ sequence_in protocol u
    → z ≡ sequence_unless (row (not_gtpu protocol (datagram u)) 8 ∷ rows9_to11 (datagram u)) u
unfolding rows8_to11
over_ipv4 protocol z u e = e

-- what is found by a header that was read
abbrev pub seen6 : (p : List ℕ) → Header → ℕ
seen6 p h =
    let u = drop h.upperAt p in
    sequence_unless (row (malformed h) 2 ∷ (gtp6_rows h (datagram u) ++ rows9_to11 (datagram u))) u

abbrev pub seen4 : (p : List ℕ) → Header4 → ℕ
seen4 p h =
    let u = drop 20 p in
    sequence_unless (row (malformed4 h) 2 ∷ row (bad_header4 h) 3 ∷ (gtp4_rows h (datagram u) ++ rows9_to11 (datagram u))) u

-- a header by its first octets
module _ (p f : List ℕ) (z : ℕ) where
  pub header_seen : (h : Header) → f ≡ window p 0 48 → h ≡ header_of f (length p) → z ≡ seen6 p h → z ≡ sequence6 p
  unfolding sequence6 g_pdu_rows6 header window
  header_seen h hf hh e = e ∙ ap (seen6 p) (hh ∙ ap (λ (f : List ℕ). header_of f (length p)) hf)

  pub header4_seen : (h : Header4) → f ≡ window p 0 20 → h ≡ header4_of f (length p) → z ≡ seen4 p h → z ≡ sequence4 p
  unfolding sequence4 g_pdu_rows4 header4 window
  header4_seen h hf hh e = e ∙ ap (seen4 p) (hh ∙ ap (λ (f : List ℕ). header4_of f (length p)) hf)

pub ruleset tested6 = (header_seen, tested, over_ipv6)

pub ruleset tested4 = (header4_seen, tested, over_ipv4)
