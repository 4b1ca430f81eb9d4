-- The extension header that follows a place, by the tests that lead to it; its fields; what is read of a datagram by them; and row 12.
use mathlib.Core.Path.{◌≡◌, refl, sym, ap, ◌∙◌}
use mathlib.Core.Bool.{Bool, true, false, cond, ◌||◌}
use mathlib.Core.List.{List}
use Prim.Native.Nat.{ℕ, ◌+◌, ◌-◌, ◌*◌, ◌≤◌, ◌<◌}
use native.Mathlib.Omega.{arith}
use borrow.Author.Tests.{leb-true, leb-false, lt-ltb, le-ltb, le-leb, lt-leb, eq-eqb, ne_eqb}
use lib.Dec.{eqb, leb, ltb}
use lib.ListN.{length, drop, length-drop}
use lib.Seq.{get_or-drop}
use Rattle.rules.specs.Octets.{octet}
use Rattle.rules.specs.Gtpu as Gtpu
use Rattle.extension.specs.Extension.{first_place, fields_at, bad_units, extension_after, fields_of}
use Rattle.extension.specs.declared.Fields.{Fields}
use Rattle.extension.specs.declared.Extension.{Extension}
use Rattle.extension.specs.declared.Extension.TheVariants.{End, Header, Refused}

-- BY THE TESTS

-- with the fields as their readers say them: kind k, unit count u, and n the same as a wide number
module _ (g : List ℕ) (at k u n : ℕ) (ek : k ≡ octet g at) (eu : u ≡ octet g (at + 1)) (en : n ≡ u) where
  abbrev read : Fields
  read = record { kind = k; units = u; contents = at + 2; next = at + 4 * n }

  read_at : read ≡ fields_at g at
  read_at = λ i. record { kind = ek i; units = eu i; contents = at + 2; next = at + 4 * (en ∙ eu) i }

  pub end_at : k ≡ 0 → End read ≡ extension_after g at
  unfolding extension_after
  end_at none = rw (eq-eqb (octet g at) 0 (sym ek ∙ none)) (ap End read_at)

  module _ (some : k ≡ 0 → ⊥) where
    kind : eqb (octet g at) 0 ≡ false
    kind = ne_eqb (octet g at) 0 (λ e. some (ek ∙ e))

    pub no_units_lem : u ≡ 0 → Refused read ≡ extension_after g at
    unfolding extension_after
    no_units_lem none = rw (kind, eq-eqb (octet g (at + 1)) 0 (sym eu ∙ none)) (ap Refused read_at)

    module _ (more : u ≡ 0 → ⊥) where
      units : eqb (octet g (at + 1)) 0 ≡ false
      units = ne_eqb (octet g (at + 1)) 0 (λ e. more (eu ∙ e))

      pub past_units : length g ≤ at + 4 * n → Refused read ≡ extension_after g at
      unfolding extension_after
      past_units past =
          rw (kind, units, le-leb (length g) (at + 4 * octet g (at + 1)) (omega (arith, eu, en, past))) (ap Refused read_at)

      pub header_at : at + 4 * n < length g → Header read ≡ extension_after g at
      unfolding extension_after
      header_at within =
          rw (kind, units, lt-leb (length g) (at + 4 * octet g (at + 1)) (omega (arith, eu, en, within))) (ap Header read_at)

-- the fields, whatever follows
pub fields_at_lem : (g : List ℕ) (at : ℕ) → fields_of (extension_after g at) ≡ fields_at g at
unfolding extension_after fields_of
fields_at_lem g at = go (eqb (octet g at) 0) (bad_units g at)
  where
    go : (a b : Bool)
        → fields_of (cond a (End (fields_at g at)) (cond b (Refused (fields_at g at)) (Header (fields_at g at)))) ≡ fields_at g at
    go true b = refl
    go false true = refl
    go false false = refl

-- IN A DATAGRAM

-- the fields of the first extension header of a datagram u
abbrev pub fields_in : List ℕ → Fields
fields_in u = record { kind = octet u 19; units = octet u 20; contents = 13; next = 11 + 4 * octet u 20 }

-- by the message g of a datagram that begins at a place of a packet
module _ (p g : List ℕ) (at : ℕ) (hg : g ≡ drop (at + 8) p) where
  -- an octet of the message is one of the datagram
  octet-behind : (i j : ℕ) → 8 + i ≡ j → octet g i ≡ octet (drop at p) j
  octet-behind i j e =
      let place : at + 8 + i ≡ at + j = omega (arith, e) in
      ap (λ (m : List ℕ). octet m i) hg ∙ get_or-drop (at + 8) p i 0 ∙ ap (octet p) place ∙ sym (get_or-drop at p j 0)

  pub fields_read : (e : Extension) (x : Fields) → e ≡ extension_after g first_place → x ≡ fields_of e → x ≡ fields_in (drop at p)
  fields_read e x he hx =
      let kind : octet g 11 ≡ octet (drop at p) 19 = octet-behind 11 19 refl in
      let units : octet g 12 ≡ octet (drop at p) 20 = octet-behind 12 20 refl in
      hx ∙ ap fields_of he ∙ fields_at_lem g first_place
      ∙ (λ i. record { kind = kind i; units = units i; contents = 13; next = 11 + 4 * units i })

  -- the octet where the contents begin, and the one at the next place
  module _ (x : Fields) (o : ℕ) (fields : x ≡ fields_in (drop at p)) where
    pub content_read : o ≡ octet g x.contents → o ≡ octet (drop at p) 21
    content_read e = e ∙ ap (λ (x : Fields). octet g x.contents) fields ∙ octet-behind 13 21 refl

    pub following_read : o ≡ octet g x.next → o ≡ Gtpu.following_type (drop at p)
    following_read e =
        let k : ℕ = octet (drop at p) 20 in
        e ∙ ap (λ (x : Fields). octet g x.next) fields ∙ octet-behind (11 + 4 * k) (19 + 4 * k) (omega arith)

-- ROW 12

-- two tests that hold together
same_test : (a b c d : ℕ) → (a ≤ b → c < d) → (b < a → d ≤ c) → leb a b ≡ ltb c d
same_test a b c d holds fails = go (leb a b) refl
  where
    go : (r : Bool) → leb a b ≡ r → r ≡ ltb c d
    go true e = sym (lt-ltb c d (holds (leb-true a b e)))
    go false e = sym (le-ltb c d (fails (leb-false a b e)))

-- what the reader refuses is what row 12 asks of a unit count, once row 10 has passed a datagram with E
pub refused-row_12 : (u : List ℕ) → 20 ≤ length u
    → bad_units (drop 8 u) first_place ≡ (eqb (Gtpu.extension_units u) 0 || ltb (length u) (20 + 4 * Gtpu.extension_units u))
refused-row_12 u h =
    let k : ℕ = Gtpu.extension_units u in
    let units : octet (drop 8 u) 12 ≡ k = get_or-drop 8 u 12 0 in
    let size : length (drop 8 u) ≡ length u - 8 = length-drop 8 u in
    ap (λ (x : ℕ). eqb x 0 || leb (length (drop 8 u)) (11 + 4 * x)) units
    ∙ ap (λ (n : ℕ). eqb k 0 || leb n (11 + 4 * k)) size
    ∙ ap (λ (r : Bool). eqb k 0 || r)
    (same_test (length u - 8) (11 + 4 * k) (length u) (20 + 4 * k) (λ e. omega (arith, h, e)) (λ e. omega (arith, h, e)))
