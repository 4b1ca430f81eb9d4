-- Addresses of a record, the last of them first.
use mathlib.Core.Path.{◌≡◌, refl, sym, ap, ◌∙◌}
use mathlib.Core.List.{List, [], ◌∷◌, ◌++◌}
use Prim.Native.Nat.{ℕ, zero, suc, ◌+◌, ◌-◌, ◌*◌, ◌≤◌, ◌<◌}
use native.Mathlib.Nat.{add-zero}
use native.Mathlib.Numerals.{add-one}
use native.Mathlib.Omega.{arith}
use lib.ListN.{length}
use Rattle.rules.specs.Octets.{window, splice}
use Rattle.rules.specs.Table.{addresses_at}
use Rattle.rules.specs.Srh.{segments}
use Rattle.rules.proofs.Windows.{window-length}
use Rattle.rules.proofs.Reading.{length-segments, segments-append}
use Rattle.rules.proofs.Paths.{addresses_at-addresses, addresses_at-length}
use Rattle.copying.specs.Run.{Run}
use Rattle.copying.proofs.Laws.{splice-nil, chain_prev}

abbrev pub reversed : (s : List ℕ) (from n : ℕ) → List ℕ
reversed s from n = segments (addresses_at s from n) []

pub reversed-length : (s : List ℕ) (from n : ℕ) → length (reversed s from n) ≡ 16 * n
reversed-length s from n =
    length-segments (addresses_at s from n) [] (addresses_at-addresses s from n)
    ∙ rw (addresses_at-length s from n) (omega arith)

-- one address more
addresses_at_more : (s : List ℕ) (from n : ℕ) → addresses_at s from (suc n) ≡ addresses_at s from n ++ window s (from + 16 * n) 16 ∷ []
unfolding addresses_at
addresses_at_more s from zero = ap (λ (k : ℕ). window s k 16 ∷ []) (sym (add-zero from))
addresses_at_more s from (suc n) =
    let e : from + 16 + 16 * n ≡ from + 16 * suc n = omega arith in
    ap (λ (l : List (List ℕ)). window s from 16 ∷ l) (addresses_at_more s (from + 16) n)
    ∙ ap (λ (k : ℕ). window s from 16 ∷ (addresses_at s (from + 16) n ++ window s k 16 ∷ [])) e

pub reversed_more : (s : List ℕ) (from n : ℕ) → reversed s from (n + 1) ≡ window s (from + 16 * n) 16 ++ reversed s from n
reversed_more s from n =
    ap (λ (k : ℕ). reversed s from k) (add-one n)
    ∙ ap (λ (l : List (List ℕ)). segments l []) (addresses_at_more s from n)
    ∙ segments-append (addresses_at s from n) (window s (from + 16 * n) 16 ∷ []) []

-- a loop that has put k of n addresses, each before those before it
pub record Reversing (o : List ℕ) (at : ℕ) (s : List ℕ) (from n : ℕ) (out : List ℕ) (k : ℕ) : Type 0 where
  pub here : k ≤ n
  pub holds : out ≡ splice o (at + 16 * (n - k)) (reversed s from k)
  pub long : length out ≡ length o

pub reversing_start : (o : List ℕ) (at : ℕ) (s : List ℕ) (from n : ℕ) → Reversing o at s from n o 0
unfolding addresses_at
reversing_start o at s from n = record { here = omega arith; holds = sym (splice-nil o (at + 16 * (n - 0))); long = refl }

pub reversing_next : (o : List ℕ) (at : ℕ) (s : List ℕ) (from n : ℕ) (out out' x : List ℕ) (k : ℕ) → Reversing o at s from n out k → k < n
    → at + 16 * n ≤ length o → x ≡ window s (from + 16 * k) 16 → out' ≡ splice out (at + 16 * (n - k - 1)) x → length out' ≡ length out
    → Reversing o at s from n out' (k + 1)
reversing_next o at s from n out out' x k r h room hx e l =
    let before = reversed s from k in
    let w = window s (from + 16 * k) 16 in
    let lw = window-length s (from + 16 * k) 16 in
    let lb = reversed-length s from k in
    let place : at + 16 * (n - (k + 1)) ≡ at + 16 * (n - k - 1) = omega arith in
    let e' : out' ≡ splice out (at + 16 * (n - k - 1)) w = e ∙ ap (λ (x : List ℕ). splice out (at + 16 * (n - k - 1)) x) hx in
    record {
      here = omega arith;
      holds = rw (place, reversed_more s from k) (chain_prev o (at + 16 * (n - k - 1)) w before r.holds e' (omega arith) (omega arith));
      long = l ∙ r.long;
    }

pub reversing_end : (o : List ℕ) (at : ℕ) (s : List ℕ) (from n : ℕ) (out : List ℕ) (k : ℕ) → Reversing o at s from n out k → k ≡ n
    → Run o at (16 * n) (reversed s from n) out
reversing_end o at s from n out k r e =
    let place : at + 16 * (n - k) ≡ at = omega arith in
    record { holds = r.holds ∙ (λ i. splice o (place i) (reversed s from (e i))); count = reversed-length s from n }
