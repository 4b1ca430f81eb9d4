-- With which destinations and Args the SID of a rule comes under a prefix: with some only where it does with the prefix's own, and the own
-- destination lies under the rule's prefix as far as both go; with all where the prefix ends before the destination.
use mathlib.Core.Path.{◌≡◌, refl, sym, ap, ◌∙◌}
use mathlib.Core.Bool.{true}
use mathlib.Core.List.{List}
use Prim.Native.Nat.{ℕ, ◌+◌, ◌*◌, ◌-◌, ◌^◌, ◌/◌, ◌≤◌, ◌<◌}
use native.Mathlib.Omega.{arith}
use native.Mathlib.Decide.{dec_lt}
use lib.ListN.{length}
use Rattle.rules.specs.Octets.{octet, Octets}
use Rattle.rules.specs.Prefix.{under}
use Rattle.rules.specs.Rule as Rule
use Rattle.rules.specs.Args.{Args}
use Rattle.rules.specs.E4.{start_behind}
use Rattle.rules.specs.D4.{address_behind}
use Rattle.rules.proofs.Windows.{window-length, octet-window, octets-window}
use Rattle.rules.proofs.Conditions.{and_left, and_both}
use Rattle.reach.specs.Reach.{Writable, Under, rule_sid, own_args, smaller, own_destination, reaches6, reaches4}
use Rattle.reach.proofs.Agreeing.{beyond, all_dropped, more_dropped, under-agree, agree-under, same_front}
use Rattle.reach.proofs.Placing.{in_parts, base-size, base-octets, start_fits, rule-octets, before_destination, in_destination}
use Rattle.reach.proofs.Placing.{same-behind}
use Rattle.reach.proofs.Own.{own_writable, some_reaches}

module _ (r : List ℕ) (or : Octets r) (hp : Rule.p r ≤ 7) (prefix : List ℕ) (op : Octets prefix) where
  pub destination-size : length (own_destination r prefix) ≡ 4
  destination-size = window-length prefix (Rule.p r) 4

  pub destination-octets : Octets (own_destination r prefix)
  destination-octets = octets-window prefix (Rule.p r) 4 op

  -- the prefix's own Args, where a rule writes Args
  pub rule_args_writable : Writable (Rule.direction r) (own_args (Rule.direction r) prefix (start_behind (Rule.p r)))
  rule_args_writable = own_writable (Rule.direction r) prefix (start_behind (Rule.p r)) op

  module _ (d : List ℕ) (u : Under r d) where
    -- under with a destination, under with the own
    own_instead : (x : Args) → Writable (Rule.direction r) x → (b : ℕ) → under 16 (rule_sid r d x) prefix b ≡ true
        → under 16 (rule_sid r (own_destination r prefix) x) prefix b ≡ true
    own_instead x w b h =
        let c = own_destination r prefix in
        let v = Rule.direction r in
        let g = under-agree (rule_sid r d x) prefix (rule-octets r or hp d u.size u.octets v x w) op b 16 h in
        agree-under (rule_sid r c x) prefix (rule-octets r or hp c destination-size destination-octets v x w) op b 16
        (in_parts (λ i y. i < 16 → y / 2 ^ beyond b i ≡ octet prefix i / 2 ^ beyond b i) (rule_sid r c x) (Rule.p r) 4
        (λ i l k. rw (
          before_destination r or hp c destination-size destination-octets v x w i l,
          ← before_destination r or hp d u.size u.octets v x w i l,
        ) (g i k))
        (λ i l k. rw (in_destination r or hp c destination-size destination-octets v x w i l, octet-window prefix (Rule.p r) 4 i l) refl)
        (λ i k. rw (same-behind r or hp c d destination-size destination-octets u.size u.octets v x w i) (g (Rule.p r + 4 + i) k)))

    module _ (x : Args) (w : Writable (Rule.direction r) x) where
      -- the own destination has the bits of d that the prefix sees, and d those of the rule's prefix
      own-under : (b : ℕ) → under 16 (rule_sid r d x) prefix b ≡ true
          → under 4 (own_destination r prefix) (Rule.prefix r) (smaller (Rule.prefix_length r) (b - 8 * Rule.p r)) ≡ true
      own-under b h =
          agree-under (own_destination r prefix) (Rule.prefix r) destination-octets (octets-window r 8 4 or)
          (smaller (Rule.prefix_length r) (b - 8 * Rule.p r)) 4 (λ i l. pick i l (dec_lt (8 * Rule.p r) b))
        where
          pick : (i : ℕ) → i < 4 → Dec (8 * Rule.p r < b)
              → octet (own_destination r prefix) i / 2 ^ beyond (smaller (Rule.prefix_length r) (b - 8 * Rule.p r)) i
              ≡ octet (Rule.prefix r) i / 2 ^ beyond (smaller (Rule.prefix_length r) (b - 8 * Rule.p r)) i
          pick i l (no n) =
              let m : ℕ = beyond (smaller (Rule.prefix_length r) (b - 8 * Rule.p r)) i in
              all_dropped (octet (own_destination r prefix) i) m (destination-octets i) (omega arith)
              ∙ sym (all_dropped (octet (Rule.prefix r) i) m (octets-window r 8 4 or i) (omega arith))
          pick i l (yes y) =
              let m : ℕ = beyond (smaller (Rule.prefix_length r) (b - 8 * Rule.p r)) i in
              let v = Rule.direction r in
              let o = rule-octets r or hp d u.size u.octets v x w in
              let g = under-agree (rule_sid r d x) prefix o op b 16 h (Rule.p r + i) (omega arith) in
              let seen : octet d i / 2 ^ beyond b (Rule.p r + i) ≡ octet prefix (Rule.p r + i) / 2 ^ beyond b (Rule.p r + i) =
              rw (in_destination r or hp d u.size u.octets v x w i l) at g in
              let held = under-agree d (Rule.prefix r) u.octets (octets-window r 8 4 or) (Rule.prefix_length r) 4 u.under i l in
              ap (λ (y : ℕ). y / 2 ^ m) (octet-window prefix (Rule.p r) 4 i l)
              ∙ sym (more_dropped (octet d i) (octet prefix (Rule.p r + i)) (beyond b (Rule.p r + i)) m (omega arith) seen)
              ∙ more_dropped (octet d i) (octet (Rule.prefix r) i) (beyond (Rule.prefix_length r) i) m (omega arith) held

      pub some_reaches4 : (b : ℕ) → under 16 (rule_sid r d x) prefix b ≡ true → reaches4 r prefix b ≡ true
      unfolding reaches4 reaches6
      some_reaches4 b h =
          let own = some_reaches (Rule.direction r) (address_behind (Rule.sid_prefix r) (Rule.p r) d) (start_behind (Rule.p r)) x
          (base-size r or hp d u.size u.octets) (start_fits r or hp d u.size u.octets)
          (base-octets r or hp d u.size u.octets)
          w prefix op b h in
          and_both _ _ (own_instead (own_args (Rule.direction r) prefix (start_behind (Rule.p r))) rule_args_writable b own) (own-under b h)

      pub reaches_every4 : (b : ℕ) → b ≤ 8 * Rule.p r → reaches4 r prefix b ≡ true → under 16 (rule_sid r d x) prefix b ≡ true
      unfolding reaches4
      reaches_every4 b l h =
          let c = own_destination r prefix in
          let v = Rule.direction r in
          let y = own_args v prefix (start_behind (Rule.p r)) in
          same_front (rule_sid r c y) (rule_sid r d x) prefix 16 (Rule.p r) b
          (rule-octets r or hp c destination-size destination-octets v y rule_args_writable)
          (rule-octets r or hp d u.size u.octets v x w) op l
          (λ i k. before_destination r or hp c destination-size destination-octets v y rule_args_writable i k
          ∙ sym (before_destination r or hp d u.size u.octets v x w i k))
          (and_left _ _ h)
