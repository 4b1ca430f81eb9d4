-- What the SID of a rule can come under it does come under, for a destination under the rule's prefix: the bits of the rule's prefix, and
-- behind them those that stand in the entry's.
use mathlib.Core.Path.{◌≡◌, refl, sym, ap, ◌∙◌}
use mathlib.Core.Bool.{true}
use mathlib.Core.List.{List, [], ◌∷◌}
use Prim.Native.Nat.{ℕ, zero, suc, ◌+◌, ◌*◌, ◌-◌, ◌^◌, ◌/◌, ◌%◌, ◌≤◌, ◌<◌}
use native.Mathlib.Nat.{mod-lt, mod-le}
use native.Mathlib.Omega.{arith}
use native.Mathlib.Decide.{dec_lt}
use lib.Pow.{pow_pos, shr_lt, split, high}
use Rattle.rules.specs.Octets.{octet, Octets}
use Rattle.rules.specs.Prefix.{under}
use Rattle.rules.specs.Rule as Rule
use Rattle.rules.specs.E4.{start_behind}
use Rattle.rules.proofs.Windows.{octet-window, octets-window}
use Rattle.rules.proofs.Conditions.{and_left, and_right}
use Rattle.reach.specs.Reach.{Under, rule_sid, own_args, smaller, own_destination, reaches4}
use Rattle.reach.proofs.Agreeing.{beyond, all_dropped, more_dropped, under-agree, agree-under}
use Rattle.reach.proofs.Placing.{in_parts, rule-octets, before_destination, in_destination, same-behind}
use Rattle.reach.proofs.Own4.{destination-size, destination-octets, rule_args_writable}

-- TWO OCTETS IN ONE

-- x, with its last s bits those of y
abbrev blend : (x y s : ℕ) → ℕ
blend x y s = x / 2 ^ s * 2 ^ s + y % 2 ^ s

blend-first : (x y s : ℕ) → blend x y s / 2 ^ s ≡ x / 2 ^ s
blend-first x y s = high (x / 2 ^ s) s (mod-lt y (pow_pos s))

blend-same : (x y s : ℕ) → x / 2 ^ s ≡ y / 2 ^ s → blend x y s ≡ y
blend-same x y s e = rw e (split y s)

blend-octet : (x y s : ℕ) → x < 256 → y < 256 → blend x y s < 256
blend-octet x y s hx hy = pick (dec_lt 8 s)
  where
    joined : (h q n : ℕ) → h < 2 ^ (8 - n) → n ≤ 8 → q < 2 ^ n → h * 2 ^ n + q < 256
    joined h q zero l m k = omega arith
    joined h q (suc zero) l m k = omega arith
    joined h q (suc (suc zero)) l m k = omega arith
    joined h q (suc (suc (suc zero))) l m k = omega arith
    joined h q (suc (suc (suc (suc zero)))) l m k = omega arith
    joined h q (suc (suc (suc (suc (suc zero))))) l m k = omega arith
    joined h q (suc (suc (suc (suc (suc (suc zero)))))) l m k = omega arith
    joined h q (suc (suc (suc (suc (suc (suc (suc zero))))))) l m k = omega arith
    joined h q (suc (suc (suc (suc (suc (suc (suc (suc zero)))))))) l m k = omega arith
    joined h q (suc (suc (suc (suc (suc (suc (suc (suc (suc n))))))))) l m k = absurd (omega arith)

    pick : Dec (8 < s) → blend x y s < 256
    pick (yes l) = rw (all_dropped x s hx (omega arith)) (omega (arith, mod-le y (2 ^ s)))
    pick (no l) =
        let e : 8 ≡ (8 - s) + s = omega arith in
        joined (x / 2 ^ s) (y % 2 ^ s) s (shr_lt (8 - s) s (rw (← e) hx)) (omega arith) (mod-lt y (pow_pos s))

-- THE DESTINATION

module _ (r prefix : List ℕ) where
  abbrev blended : ℕ → ℕ
  blended i = blend (octet (Rule.prefix r) i) (octet prefix (Rule.p r + i)) (beyond (Rule.prefix_length r) i)

  -- the first bits of the rule's prefix, then those that stand in the entry's
  abbrev pub blended_destination : List ℕ
  blended_destination = blended 0 ∷ blended 1 ∷ blended 2 ∷ blended 3 ∷ []

  blended_at : (i : ℕ) → i < 4 → octet blended_destination i ≡ blended i
  blended_at zero l = refl
  blended_at (suc zero) l = refl
  blended_at (suc (suc zero)) l = refl
  blended_at (suc (suc (suc zero))) l = refl
  blended_at (suc (suc (suc (suc i)))) l = absurd (omega arith)

module _ (r : List ℕ) (or : Octets r) (hp : Rule.p r ≤ 7) (prefix : List ℕ) (op : Octets prefix) where
  blended-octet : (i : ℕ) → blended r prefix i < 256
  blended-octet i =
      blend-octet (octet (Rule.prefix r) i) (octet prefix (Rule.p r + i)) (beyond (Rule.prefix_length r) i) (octets-window r 8 4 or i)
      (op (Rule.p r + i))

  blended-octets : Octets (blended_destination r prefix)
  blended-octets zero = blended-octet 0
  blended-octets (suc zero) = blended-octet 1
  blended-octets (suc (suc zero)) = blended-octet 2
  blended-octets (suc (suc (suc zero))) = blended-octet 3
  blended-octets (suc (suc (suc (suc i)))) = omega arith

  pub blended-under : Under r (blended_destination r prefix)
  blended-under = record {
    size = refl;
    octets = blended-octets;
    under = agree-under (blended_destination r prefix) (Rule.prefix r) blended-octets (octets-window r 8 4 or) (Rule.prefix_length r) 4
        (λ i l. rw (blended_at r prefix i l)
        (blend-first (octet (Rule.prefix r) i) (octet prefix (Rule.p r + i)) (beyond (Rule.prefix_length r) i)));
  }

  -- it has the bits that the entry's prefix sees, where the own destination has the rule's as far as both go
  blended_seen : (b : ℕ) → under 4 (own_destination r prefix) (Rule.prefix r) (smaller (Rule.prefix_length r) (b - 8 * Rule.p r)) ≡ true
      → (i : ℕ) → i < 4 → blended r prefix i / 2 ^ beyond b (Rule.p r + i) ≡ octet prefix (Rule.p r + i) / 2 ^ beyond b (Rule.p r + i)
  blended_seen b h i l = pick (dec_lt (beyond b (Rule.p r + i)) (beyond (Rule.prefix_length r) i)) (dec_lt (8 * Rule.p r) b)
    where
      x : ℕ
      x = octet (Rule.prefix r) i

      y : ℕ
      y = octet prefix (Rule.p r + i)

      s : ℕ
      s = beyond (Rule.prefix_length r) i

      t : ℕ
      t = beyond b (Rule.p r + i)

      u : ℕ
      u = beyond (smaller (Rule.prefix_length r) (b - 8 * Rule.p r)) i

      both : y / 2 ^ u ≡ x / 2 ^ u
      both =
          ap (λ (v : ℕ). v / 2 ^ u) (sym (octet-window prefix (Rule.p r) 4 i l))
          ∙ under-agree (own_destination r prefix) (Rule.prefix r) (destination-octets r or hp prefix op) (octets-window r 8 4 or)
          (smaller (Rule.prefix_length r) (b - 8 * Rule.p r)) 4 h i l

      pick : Dec (t < s) → Dec (8 * Rule.p r < b) → blend x y s / 2 ^ t ≡ y / 2 ^ t
      pick (yes k) d = let e : s ≡ u = omega arith in ap (λ (v : ℕ). v / 2 ^ t) (blend-same x y s (rw e (sym both)))
      pick (no k) (yes m) =
          let e : t ≡ u = omega arith in
          more_dropped (blend x y s) x s t (omega arith) (blend-first x y s) ∙ rw e (sym both)
      pick (no k) (no m) =
          all_dropped (blend x y s) t (blended-octet i) (omega arith)
          ∙ sym (all_dropped y t (op (Rule.p r + i)) (omega arith))

  pub reaches_blended : (b : ℕ) → reaches4 r prefix b ≡ true
      → under 16 (rule_sid r (blended_destination r prefix) (own_args (Rule.direction r) prefix (start_behind (Rule.p r)))) prefix b ≡ true
  unfolding reaches4
  reaches_blended b h =
      let v = Rule.direction r in
      let x = own_args v prefix (start_behind (Rule.p r)) in
      let w = rule_args_writable r or hp prefix op in
      let c = own_destination r prefix in
      let hc = destination-size r or hp prefix op in
      let oc = destination-octets r or hp prefix op in
      let d = blended_destination r prefix in
      let g = under-agree (rule_sid r c x) prefix (rule-octets r or hp c hc oc v x w) op b 16 (and_left _ _ h) in
      agree-under (rule_sid r d x) prefix (rule-octets r or hp d refl blended-octets v x w) op b 16
      (in_parts (λ i y. i < 16 → y / 2 ^ beyond b i ≡ octet prefix i / 2 ^ beyond b i) (rule_sid r d x) (Rule.p r) 4
      (λ i l k. rw (before_destination r or hp d refl blended-octets v x w i l, ← before_destination r or hp c hc oc v x w i l) (g i k))
      (λ i l k. rw (in_destination r or hp d refl blended-octets v x w i l, blended_at r prefix i l)
      (blended_seen b (and_right (under 16 (rule_sid r c x) prefix b) _ h) i l))
      (λ i k. rw (same-behind r or hp d c refl blended-octets hc oc v x w i) (g (Rule.p r + 4 + i) k)))
