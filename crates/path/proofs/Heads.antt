-- A head along a path, put together from its front, its tail and its waypoints.
use mathlib.Core.Path.{◌≡◌, refl, sym, ap}
use mathlib.Core.List.{List, [], ◌∷◌, ◌++◌, append-nil, append_assoc}
use Prim.Native.Nat.{ℕ, zero, suc, ◌+◌, ◌*◌, ◌≤◌, ◌<◌}
use native.Mathlib.Omega.{arith}
use lib.ListN.{length, get_or, length-append}
use Rattle.rules.specs.Octets.{splice, window}
use Rattle.rules.specs.Srh.{segments}
use Rattle.rules.specs.Table.{addresses_at}
use Rattle.rules.specs.Plan.{path_front, path_head, tail_of, head_along}
use Rattle.rules.proofs.Reading.{Addresses, addresses-append, length-segments}
use Rattle.rules.proofs.Paths.{addresses_at-addresses, addresses_at-length}
use Rattle.rules.proofs.Plans.{tail_cases, tail_length}
use Rattle.copying.specs.Run.{Run}
use Rattle.copying.proofs.Laws.{first, next, run_as}

-- A TAIL OF ONE OR TWO ADDRESSES

module _ (tail : ℕ) (sid end : List ℕ) where
  tail_addresses : 1 ≤ tail → tail ≤ 2 → length sid ≡ 16 → length end ≡ 16 → Addresses (tail_of tail sid end)
  unfolding tail_of
  tail_addresses h k ls le = tail_cases (λ (t : ℕ). Addresses (tail_of t sid end)) (ls, tt) (ls, (le, tt)) tail h k

  pub tail_first : (ws : List (List ℕ)) → 1 ≤ tail → tail ≤ 2 → get_or (ws ++ sid ∷ []) 0 [] ≡ get_or (ws ++ tail_of tail sid end) 0 []
  unfolding tail_of
  tail_first [] h k = tail_cases (λ (t : ℕ). sid ≡ get_or (tail_of t sid end) 0 []) refl refl tail h k
  tail_first (w ∷ ws) h k = refl

  pub tail_one : (o o₁ : List ℕ) → tail ≡ 1 → length sid ≡ 16 → o₁ ≡ splice o 48 sid → Run o 48 (16 * tail) (segments (tail_of tail sid end)
      []) o₁
  unfolding tail_of
  tail_one o o₁ t ls e = rw t (run_as (first o 48 sid 16 e ls) (sym (append-nil sid)))

  pub tail_two : (o o₁ o₂ : List ℕ) → tail ≡ 2 → length sid ≡ 16 → length end ≡ 16 → 48 ≤ length o → o₁ ≡ splice o 48 end → o₂ ≡ splice o₁
      64 sid
      → Run o 48 (16 * tail) (segments (tail_of tail sid end) []) o₂
  unfolding tail_of
  tail_two o o₁ o₂ t ls le h e₁ e₂ =
      rw t (run_as (next (first o 48 end 16 e₁ le) sid 16 e₂ ls refl h) (ap (λ (l : List ℕ). end ++ l) (sym (append-nil sid))))

-- A HEAD

pub path_put : {o o₁ o₂ o₃ : List ℕ} (class upper hops : ℕ) (source to : List ℕ) (w t size : ℕ) (tail ws : List (List ℕ))
    → Run o 0 48 (path_front class upper hops source to (w + t) size) o₁ → Run o₁ 48 (16 * t) (segments tail []) o₂
    → Run o₂ (48 + 16 * t) (16 * w) (segments ws []) o₃
    → Run o 0 (48 + 16 * (w + t)) (path_head class upper hops source to (w + t) size tail ws) o₃
unfolding path_head
path_put class upper hops source to w t size tail ws r₁ r₂ r₃ =
    let f = path_front class upper hops source to (w + t) size in
    let r₁₂ = next r₁ (segments tail []) (16 * t) r₂.holds r₂.count refl (omega arith) in
    let r = next r₁₂ (segments ws []) (16 * w) r₃.holds r₃.count (omega arith) (omega arith) in
    let k : 48 + 16 * t + 16 * w ≡ 48 + 16 * (w + t) = omega arith in
    rw (← k) (run_as r (append_assoc f (segments tail []) (segments ws [])))

first-address : (path : List (List ℕ)) → Addresses path → 0 < length path → length (get_or path 0 []) ≡ 16
first-address [] a h = absurd (omega arith)
first-address (x ∷ path) a h = a.0

module _ (class upper hops : ℕ) (source holder : List ℕ) (from w tail : ℕ) (sid end : List ℕ) (size : ℕ) where
  pub head_length : length source ≡ 16 → length sid ≡ 16 → length end ≡ 16 → 1 ≤ tail → tail ≤ 2
      → length (head_along class upper hops source holder from w tail sid end size) ≡ 48 + 16 * (w + tail)
  unfolding head_along path_head path_front
  head_length ls ld le h k =
      let ws = addresses_at holder from w in
      let rest = tail_of tail sid end in
      let ha : Addresses ws = addresses_at-addresses holder from w in
      let hb : Addresses rest = tail_addresses tail sid end h k ld le in
      let na : length ws ≡ w = addresses_at-length holder from w in
      let nb : length rest ≡ tail = tail_length tail sid end h k in
      let nc : length (ws ++ rest) ≡ length ws + length rest = length-append ws rest in
      let lf : length (get_or (ws ++ rest) 0 []) ≡ 16 = first-address (ws ++ rest) (addresses-append ws rest ha hb) (omega arith) in
      let sa : length (segments ws []) ≡ 16 * length ws + 0 = length-segments ws [] ha in
      let sb : length (segments rest []) ≡ 16 * length rest + 0 = length-segments rest [] hb in
      simp length-append (omega arith)

pub first-waypoint : (holder : List ℕ) (from n : ℕ) (rest : List (List ℕ)) → (n ≡ 0 → ⊥)
    → window holder from 16 ≡ get_or (addresses_at holder from n ++ rest) 0 []
unfolding addresses_at
first-waypoint holder from zero rest h = absurd (h refl)
first-waypoint holder from (suc n) rest h = refl
