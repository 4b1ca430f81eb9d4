use Rattle.std.proofs.Common.{rules}
use Rattle.gateway.proofs.Matches.{at_gtp6d_entry, found_at_gtp6d}
use Rattle.answer.proofs.Settling.{settled_as}
use Rattle.table.proofs.Bounds.{found-entry_within, policy_within}
use Rattle.rules.proofs.Entries.{at_waypoint_lem, at_e6_lem, at_e4_lem}
use Rattle.rules.proofs.Tables.{found-entry, found-e6, found-e4}
use Rattle.rules.specs.Answer.{settle}
use Rattle.rules.specs.Assigned.{end, end_m_gtp6e, end_m_gtp4e}
use Rattle.rules.specs.Entry as Entry
use Rattle.rules.specs.Ipv6 as Ipv6
use Rattle.rules.specs.Octets.{octet}
use Rattle.rules.specs.Sound.{entry_limit}
use Rattle.rules.specs.SoundRecord.{SoundPolicy, SoundE6, SoundE4, SoundGtp6D}
use Rattle.rules.specs.Table.{policies, entry_at, policy_at}
use Rattle.rules.specs.E6.{at_e6}
use Rattle.rules.specs.E4.{at_e4}
use Rattle.rules.specs.Plan.{tail_at, at_gtp6d}
use borrow.Author.Tests.{ne_eqb}
use lib.Dec.{eqb}
use lib.ListN.{length}
use Prim.Native.Nat.{ℕ}
use mathlib.Core.Bool.{false}
use mathlib.Core.List.{List}
use Rattle.gateway.specs.Decided.{Matched}
use Rattle.rules.specs.declared.Header.{Header}
use mathlib.Core.Path.{◌≡◌, sym, ap, ◌∙◌, subst}
use Rattle.gateway.proofs.at_entry.Goals as goal

-- what the entry that was lent says: it is entry i of the table
module _ (t : List ℕ) (i : ℕ) {e : List ℕ} (same : e ≡ entry_at t i) where
  behaviour-is : Entry.behaviour (entry_at t i) ≡ octet e 0
  behaviour-is = ap (λ (e : List ℕ). octet e 0) (sym same)

  policy-is : {k : ℕ} {y : List ℕ} → k ≡ octet e 5 → y ≡ policy_at t k → y ≡ policy_at t (Entry.policy (entry_at t i))
  policy-is w q = q ∙ ap (policy_at t) (w ∙ ap (λ (e : List ℕ). octet e 5) same)

  -- the behaviours that were asked for before D and Di
  other : (octet e 0 ≡ end → ⊥) → (octet e 0 ≡ end_m_gtp6e → ⊥) → (octet e 0 ≡ end_m_gtp4e → ⊥)
      → (eqb (Entry.behaviour (entry_at t i)) end ≡ false) × (eqb (Entry.behaviour (entry_at t i)) end_m_gtp6e ≡ false)
      × (eqb (Entry.behaviour (entry_at t i)) end_m_gtp4e ≡ false)
  other n₁ n₂ n₃ = (
    ne_eqb _ end (λ q. n₁ (sym behaviour-is ∙ q)),
    ne_eqb _ end_m_gtp6e (λ q. n₂ (sym behaviour-is ∙ q)),
    ne_eqb _ end_m_gtp4e (λ q. n₃ (sym behaviour-is ∙ q)),
  )

  gtp6d_of : {p : List ℕ} {h : Header} → Matched t i p h → (octet e 0 ≡ end → ⊥) → (octet e 0 ≡ end_m_gtp6e → ⊥)
      → (octet e 0 ≡ end_m_gtp4e → ⊥) → SoundGtp6D t (entry_at t i)
  gtp6d_of {p = p} m n₁ n₂ n₃ =
      let o = other n₁ n₂ n₃ in
      found_at_gtp6d t (Ipv6.destination p) i m.sound m.found o.0 o.1 o.2

pub entry_at-e-requires : goal.entry_at-e-requires
entry_at-e-requires c =
    let a = c.args in
    let m = c.requires.0 in
    found-entry_within a.table.now m.sound (Ipv6.destination a.packet.now) a.i m.found

pub returns-then-behaviour-eq-END : goal.returns-then-behaviour-eq-END
returns-then-behaviour-eq-END c =
    let a = c.args in
    let t : List ℕ = a.table.now in
    let p : List ℕ = a.packet.now in
    let b = behaviour-is t a.i c.entry_at-e.ensures.same ∙ c.if-behaviour-eq-END.true in
    settled_as _ _ _ _ _ (ap (settle (length a.out.now)) (sym (at_waypoint_lem t (entry_at t a.i) p b))) c.at_waypoint.ensures

pub at_e6-requires : goal.at_e6-requires
at_e6-requires c =
    let a = c.args in
    let m = c.requires.0 in
    let l = c.entry_at-e.ensures in
    let b = behaviour-is a.table.now a.i l.same ∙ c.if-behaviour-eq-END_M_GTP6_E.true in
    let f = found-e6 entry_limit a.table.now (Ipv6.destination a.packet.now) a.i m.sound m.found b in
    (record { entry = search rules; arrived = m.arrived }, subst SoundE6 (sym l.same) f)

pub returns-then-behaviour-eq-END_M_GTP6_E : goal.returns-then-behaviour-eq-END_M_GTP6_E
returns-then-behaviour-eq-END_M_GTP6_E c =
    let a = c.args in
    let t : List ℕ = a.table.now in
    let p : List ℕ = a.packet.now in
    let room = length a.out.now in
    let same = c.entry_at-e.ensures.same in
    let b = behaviour-is t a.i same ∙ c.if-behaviour-eq-END_M_GTP6_E.true in
    settled_as _ _ _ _ _ ((λ i. settle room (at_e6 (same i) p)) ∙ ap (settle room) (sym (at_e6_lem t (entry_at t a.i) p b)))
    c.at_e6.ensures

pub at_e4-requires : goal.at_e4-requires
at_e4-requires c =
    let a = c.args in
    let m = c.requires.0 in
    let l = c.entry_at-e.ensures in
    let b = behaviour-is a.table.now a.i l.same ∙ c.if-behaviour-eq-END_M_GTP4_E.true in
    let f = found-e4 entry_limit a.table.now (Ipv6.destination a.packet.now) a.i m.sound m.found b in
    (record { entry = search rules; arrived = m.arrived }, subst SoundE4 (sym l.same) f)

-- what the call answered is found by what it says, not by the name of the function
pub returns-then-behaviour-eq-END_M_GTP4_E : goal.returns-then-behaviour-eq-END_M_GTP4_E
returns-then-behaviour-eq-END_M_GTP4_E c =
    let a = c.args in
    let t : List ℕ = a.table.now in
    let p : List ℕ = a.packet.now in
    let room = length a.out.now in
    let same = c.entry_at-e.ensures.same in
    let b = behaviour-is t a.i same ∙ c.if-behaviour-eq-END_M_GTP4_E.true in
    settled_as _ _ _ _ _ ((λ i. settle room (at_e4 (same i) p)) ∙ ap (settle room) (sym (at_e4_lem t (entry_at t a.i) p b)))
    (assumption c)

pub policy_at-policy-requires : goal.policy_at-policy-requires
policy_at-policy-requires c =
    let a = c.args in
    let m = c.requires.0 in
    let same = c.entry_at-e.ensures.same in
    let k = c.wide.ensures.0 ∙ ap (λ (e : List ℕ). octet e 5) same in
    let d = gtp6d_of a.table.now a.i same m c.if-behaviour-eq-END.false c.if-behaviour-eq-END_M_GTP6_E.false
    c.if-behaviour-eq-END_M_GTP4_E.false in
    rw k (policy_within a.table.now m.sound (Entry.policy (entry_at a.table.now a.i)) d.named)

pub at_gtp6d-requires : goal.at_gtp6d-requires
at_gtp6d-requires c =
    let a = c.args in
    let m = c.requires.0 in
    let k = c.tail_of.ensures in
    let same = c.entry_at-e.ensures.same in
    let d = gtp6d_of a.table.now a.i same m c.if-behaviour-eq-END.false c.if-behaviour-eq-END_M_GTP6_E.false
    c.if-behaviour-eq-END_M_GTP4_E.false in
    record {
      entry = search rules;
      octets = search rules;
      sound = subst SoundPolicy (sym (policy-is a.table.now a.i same c.wide.ensures.0 c.policy_at-policy.ensures.same)) d.policy;
      one = k.1;
      two = k.2;
      arrived = m.arrived;
    }

pub returns : goal.returns
returns c =
    let a = c.args in
    let t : List ℕ = a.table.now in
    let p : List ℕ = a.packet.now in
    let room = length a.out.now in
    let m = c.requires.0 in
    let e = entry_at t a.i in
    let same = c.entry_at-e.ensures.same in
    let o = other t a.i same c.if-behaviour-eq-END.false c.if-behaviour-eq-END_M_GTP6_E.false c.if-behaviour-eq-END_M_GTP4_E.false in
    let tail = c.tail_of.ensures.0 ∙ ap (λ (b : ℕ). tail_at b) (sym (behaviour-is t a.i same)) in
    let policy = policy-is t a.i same c.wide.ensures.0 c.policy_at-policy.ensures.same in
    let known = found-entry entry_limit t (Ipv6.destination p) a.i m.sound m.found in
    settled_as _ _ _ _ _
    ((λ i. settle room (at_gtp6d (tail i) (same i) (policy i) p))
    ∙ ap (settle room) (at_gtp6d_entry (policies t) e known o.0 o.1 o.2 t p)) c.at_gtp6d.ensures
