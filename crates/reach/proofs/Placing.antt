-- The octets, one by one, of a SID with Args, of an address behind a prefix, and of the SID that a rule builds.
use mathlib.Core.Path.{◌≡◌, refl, sym, ap, ◌∙◌, subst}
use mathlib.Core.List.{List, ◌++◌}
use Prim.Native.Nat.{ℕ, zero, suc, ◌+◌, ◌-◌, ◌/◌, ◌≤◌, ◌<◌}
use native.Mathlib.Omega.{arith}
use native.Mathlib.Decide.{dec_lt}
use lib.ListN.{length, take, drop, replicate, get_or-append, length-append, length-take, length-replicate}
use lib.Seq.{get_or-take, get_or-drop, length-take-le}
use Rattle.rules.specs.Octets.{octet, Octets}
use Rattle.rules.specs.Rule as Rule
use Rattle.rules.specs.Args.{Args, args_octets, with_args}
use Rattle.rules.specs.E4.{start_behind}
use Rattle.rules.specs.D4.{address_behind}
use Rattle.rules.proofs.Windows.{octet-past, window-length, octets-window}
use Rattle.reach.specs.Reach.{Writable, rule_sid}

-- THREE PARTS

-- what holds of the first n octets, of the m behind them and of all others, holds of each
module _ (Q : ℕ → ℕ → Type 0) (s : List ℕ) (n m : ℕ)
    (before : (i : ℕ) → i < n → Q i (octet s i)) (within : (k : ℕ) → k < m → Q (n + k) (octet s (n + k)))
    (behind : (k : ℕ) → Q (n + m + k) (octet s (n + m + k))) where
  pub in_parts : (i : ℕ) → Q i (octet s i)
  in_parts i = pick (dec_lt i n) (dec_lt i (n + m))
    where
      pick : Dec (i < n) → Dec (i < n + m) → Q i (octet s i)
      pick (yes l) d = before i l
      pick (no l) (yes k) =
          let e : n + (i - n) ≡ i = omega arith in
          subst (λ (i : ℕ). Q i (octet s i)) e (within (i - n) (omega arith))
      pick (no l) (no k) =
          let e : n + m + (i - (n + m)) ≡ i = omega arith in
          subst (λ (i : ℕ). Q i (octet s i)) e (behind (i - (n + m)))

regroup : (a b c : ℕ) → a + b + c ≡ a + (b + c)
regroup a b c = omega arith

module _ (front middle back : List ℕ) (n m : ℕ) (hf : length front ≡ n) (hm : length middle ≡ m) where
  first_part : (i : ℕ) → i < n → octet (front ++ (middle ++ back)) i ≡ octet front i
  first_part i l = get_or-append front (middle ++ back) 0 i (rw hf l)

  second_part : (k : ℕ) → k < m → octet (front ++ (middle ++ back)) (n + k) ≡ octet middle k
  second_part k l = octet-past front (middle ++ back) n k hf ∙ get_or-append middle back 0 k (rw hm l)

  third_part : (k : ℕ) → octet (front ++ (middle ++ back)) (n + m + k) ≡ octet back k
  third_part k =
      ap (octet (front ++ (middle ++ back))) (regroup n m k)
      ∙ octet-past front (middle ++ back) n (m + k) hf
      ∙ octet-past middle back m k hm

-- A SID WITH ARGS

module _ (sid : List ℕ) (start : ℕ) (x : Args) (hs : length sid ≡ 16) (hb : start ≤ 88) (ht : length x.teid ≡ 4) where
  front_size : length (take (start / 8) sid) ≡ start / 8
  front_size = length-take-le (start / 8) sid (omega arith)

  args_size : length (args_octets x) ≡ 5
  args_size = ap suc ht

  pub before_args : (i : ℕ) → i < start / 8 → octet (with_args sid start x) i ≡ octet sid i
  unfolding with_args
  before_args i l =
      first_part (take (start / 8) sid) (args_octets x) (drop (start / 8 + 5) sid) (start / 8) 5 front_size args_size i l
      ∙ get_or-take (start / 8) sid i 0 l

  pub in_args : (k : ℕ) → k < 5 → octet (with_args sid start x) (start / 8 + k) ≡ octet (args_octets x) k
  unfolding with_args
  in_args k l = second_part (take (start / 8) sid) (args_octets x) (drop (start / 8 + 5) sid) (start / 8) 5 front_size args_size k l

  pub behind_args : (k : ℕ) → octet (with_args sid start x) (start / 8 + 5 + k) ≡ octet sid (start / 8 + 5 + k)
  unfolding with_args
  behind_args k =
      third_part (take (start / 8) sid) (args_octets x) (drop (start / 8 + 5) sid) (start / 8) 5 front_size args_size k
      ∙ get_or-drop (start / 8 + 5) sid k 0

args_octets_lem : (direction : ℕ) (x : Args) → Writable direction x → Octets (args_octets x)
args_octets_lem direction x w zero = omega (arith, w.qfi, w.reflective)
args_octets_lem direction x w (suc k) = w.octets k

pub sid_octets : (sid : List ℕ) (start direction : ℕ) (x : Args) → length sid ≡ 16 → start ≤ 88 → Octets sid → Writable direction x
    → Octets (with_args sid start x)
sid_octets sid start direction x hs hb o w =
    let t = w.size in
    in_parts (λ i v. v < 256) (with_args sid start x) (start / 8) 5
    (λ i l. rw (before_args sid start x hs hb t i l) (o i))
    (λ k l. rw (in_args sid start x hs hb t k l) (args_octets_lem direction x w k))
    (λ k. rw (behind_args sid start x hs hb t k) (o (start / 8 + 5 + k)))

-- AN ADDRESS BEHIND A PREFIX

only_zeros : (n i : ℕ) → octet (replicate n 0) i ≡ 0
only_zeros zero i = refl
only_zeros (suc n) zero = refl
only_zeros (suc n) (suc i) = only_zeros n i

module _ (prefix : List ℕ) (n : ℕ) (d : List ℕ) (hp : n ≤ length prefix) (hd : length d ≡ 4) where
  before_address : (i : ℕ) → i < n → octet (address_behind prefix n d) i ≡ octet prefix i
  before_address i l =
      first_part (take n prefix) d (replicate (12 - n) 0) n 4 (length-take-le n prefix hp) hd i l ∙ get_or-take n prefix i 0 l

  in_address : (k : ℕ) → k < 4 → octet (address_behind prefix n d) (n + k) ≡ octet d k
  in_address k l = second_part (take n prefix) d (replicate (12 - n) 0) n 4 (length-take-le n prefix hp) hd k l

  behind-address : (k : ℕ) → octet (address_behind prefix n d) (n + 4 + k) ≡ 0
  behind-address k = third_part (take n prefix) d (replicate (12 - n) 0) n 4 (length-take-le n prefix hp) hd k ∙ only_zeros (12 - n) k

address-octets : (prefix : List ℕ) (n : ℕ) (d : List ℕ) → n ≤ length prefix → length d ≡ 4 → Octets prefix → Octets d
    → Octets (address_behind prefix n d)
address-octets prefix n d hp hd op od =
    in_parts (λ i v. v < 256) (address_behind prefix n d) n 4
    (λ i l. rw (before_address prefix n d hp hd i l) (op i))
    (λ k l. rw (in_address prefix n d hp hd k l) (od k))
    (λ k. rw (behind-address prefix n d hp hd k) (omega arith))

-- THE SID THAT A RULE BUILDS

module _ (r : List ℕ) (or : Octets r) (hp : Rule.p r ≤ 7) (d : List ℕ) (hd : length d ≡ 4) (od : Octets d) where
  abbrev base : List ℕ
  base = address_behind (Rule.sid_prefix r) (Rule.p r) d

  prefix_room : Rule.p r ≤ length (Rule.sid_prefix r)
  prefix_room = rw (window-length r 16 16) (omega arith)

  pub base-size : length (address_behind (Rule.sid_prefix r) (Rule.p r) d) ≡ 16
  base-size = simp (length-append, length-take, length-replicate, window-length) (omega arith)

  pub base-octets : Octets (address_behind (Rule.sid_prefix r) (Rule.p r) d)
  base-octets = address-octets (Rule.sid_prefix r) (Rule.p r) d prefix_room hd (octets-window r 16 16 or) od

  pub start_fits : start_behind (Rule.p r) ≤ 88
  start_fits = omega arith

  start-octet : start_behind (Rule.p r) / 8 ≡ Rule.p r + 4
  start-octet = omega arith

  module _ (direction : ℕ) (x : Args) (w : Writable direction x) where
    pub rule-octets : Octets (rule_sid r d x)
    rule-octets = sid_octets base (start_behind (Rule.p r)) direction x base-size start_fits base-octets w

    pub before_destination : (i : ℕ) → i < Rule.p r → octet (rule_sid r d x) i ≡ octet (Rule.sid_prefix r) i
    before_destination i l =
        before_args base (start_behind (Rule.p r)) x base-size start_fits w.size i (omega arith)
        ∙ before_address (Rule.sid_prefix r) (Rule.p r) d prefix_room hd i l

    pub in_destination : (k : ℕ) → k < 4 → octet (rule_sid r d x) (Rule.p r + k) ≡ octet d k
    in_destination k l =
        before_args base (start_behind (Rule.p r)) x base-size start_fits w.size (Rule.p r + k) (omega arith)
        ∙ in_address (Rule.sid_prefix r) (Rule.p r) d prefix_room hd k l

    pub in_rule_args : (k : ℕ) → k < 5 → octet (rule_sid r d x) (Rule.p r + 4 + k) ≡ octet (args_octets x) k
    in_rule_args k l =
        ap (λ (n : ℕ). octet (rule_sid r d x) (n + k)) (sym start-octet)
        ∙ in_args base (start_behind (Rule.p r)) x base-size start_fits w.size k l

    pub behind-rule_args : (k : ℕ) → octet (rule_sid r d x) (Rule.p r + 4 + (5 + k)) ≡ 0
    behind-rule_args k =
        let e : Rule.p r + 4 + (5 + k) ≡ start_behind (Rule.p r) / 8 + 5 + k = omega arith in
        ap (octet (rule_sid r d x)) e
        ∙ behind_args base (start_behind (Rule.p r)) x base-size start_fits w.size k
        ∙ ap (octet base) (sym e)
        ∙ behind-address (Rule.sid_prefix r) (Rule.p r) d prefix_room hd (5 + k)

-- behind the destination a rule's SIDs with the same Args are the same
pub same-behind : (r : List ℕ) (or : Octets r) (hp : Rule.p r ≤ 7) (c d : List ℕ) (hc : length c ≡ 4) (oc : Octets c)
    (hd : length d ≡ 4) (od : Octets d)
    (direction : ℕ) (x : Args) (w : Writable direction x) (k : ℕ)
    → octet (rule_sid r c x) (Rule.p r + 4 + k) ≡ octet (rule_sid r d x) (Rule.p r + 4 + k)
same-behind r or hp c d hc oc hd od direction x w k = pick (dec_lt k 5)
  where
    pick : Dec (k < 5) → octet (rule_sid r c x) (Rule.p r + 4 + k) ≡ octet (rule_sid r d x) (Rule.p r + 4 + k)
    pick (yes l) = in_rule_args r or hp c hc oc direction x w k l ∙ sym (in_rule_args r or hp d hd od direction x w k l)
    pick (no l) =
        let e : 5 + (k - 5) ≡ k = omega arith in
        subst (λ (k : ℕ). octet (rule_sid r c x) (Rule.p r + 4 + k) ≡ octet (rule_sid r d x) (Rule.p r + 4 + k)) e
        (behind-rule_args r or hp c hc oc direction x w (k - 5) ∙ sym (behind-rule_args r or hp d hd od direction x w (k - 5)))
