-- E6 and E4 from their views: their rows, their head and the place of the inner packet are those of their plans.
use mathlib.Core.Path.{◌≡◌, refl, sym, ap, ◌∙◌, subst}
use mathlib.Core.Bool.{Bool, true, false}
use mathlib.Core.List.{List, [], ◌∷◌, ◌++◌}
use Prim.Native.Nat.{ℕ, ◌+◌, ◌-◌, ◌*◌, ◌/◌, ◌≤◌, ◌<◌}
use native.Mathlib.Omega.{arith}
use lib.Dec.{eqb}
use lib.ListN.{length, drop, length-append, length-drop}
use borrow.Author.Tests.{ltb-false, eqb-true}
use Rattle.rules.specs.Octets.{window}
use Rattle.rules.specs.Assigned.{downlink, uplink}
use Rattle.rules.specs.Entry as Entry
use Rattle.rules.specs.Srh as Srh
use Rattle.rules.specs.Srh.{segment}
use Rattle.rules.specs.Args.{args_at}
use Rattle.rules.specs.Sound.{direction_known}
use Rattle.rules.specs.Answer.{Row, given, verdict, length_row, Verdict}
use Rattle.rules.specs.Header.{header, has_srh, bad_chain, bad_srh, WellFormed}
use Rattle.rules.specs.E6.{e6_carried, e6_checksum, e6_rows, rows_e6}
use Rattle.rules.specs.E4.{start_behind, e4_carried, e4_rows, rows_e4}
use Rattle.rules.specs.Plan.{e6_head, e4_head, e6_plan, e4_plan}
use Rattle.rules.specs.declared.Header.{Header}
use Rattle.std.specs.Prelude.{Ok}
use Rattle.rules.proofs.Windows.{window-length}
use Rattle.rules.proofs.Rows.{Clear, None, pass_none, read}
use Rattle.answer.proofs.Calling.{Judged}
use Rattle.far.specs.FarRows.{far_rows, e6_head_of}

pub direction-below : (d : ℕ) → direction_known d ≡ true → d < 2
direction-below d h = go (eqb d downlink) refl
  where
    go : (b : Bool) → eqb d downlink ≡ b → d < 2
    go true e = omega (arith, eqb-true d 0 e)
    go false e =
        let k : eqb d uplink ≡ true = rw e at h in
        omega (arith, eqb-true d 1 k)

-- the upper layer of a packet whose chain is good lies within it
upper_within : (p : List ℕ) (h : Header) → WellFormed p h → Clear (bad_chain h) → h.upperAt ≤ length p
unfolding header
upper_within p h s c = go (has_srh (header p)) refl
  where
    d : Clear (bad_chain (header p))
    d = subst (λ (h : Header). Clear (bad_chain h)) s.view c

    go : (b : Bool) → has_srh (header p) ≡ b → h.upperAt ≤ length p
    go true e =
        let g : Clear (given (has_srh (header p)) (bad_srh (header p))) = d.1.1.1 in
        let k = rw e at g in
        rw (s.view, e) (ltb-false (length p) (48 + 8 * Srh.units p) k.1.1.0)
    go false e = rw (s.view, e) s.long

module _ (p : List ℕ) (h : Header) (s : WellFormed p h) (n : ℕ) (hn : n ≡ length p - h.upperAt) where
  upper-here : h.upperAt ≡ (header p).upperAt
  upper-here = ap (λ (h : Header). h.upperAt) s.view

  size-here : n ≡ length p - (header p).upperAt
  size-here = hn ∙ ap (λ (k : ℕ). length p - k) upper-here

  -- of any rows and a length row behind them
  module _ (rows : Header → List Row) (more : ℕ) (v : Verdict) (judged : v ≡ verdict (rows h ++ length_row (more + n) ∷ [])) where
    rows_here : v ≡ verdict (rows (header p) ++ length_row (more + length (drop (header p).upperAt p)) ∷ [])
    rows_here =
        let k = size-here ∙ sym (length-drop (header p).upperAt p) in
        judged ∙ (λ i. verdict (rows (s.view i) ++ length_row (more + k i) ∷ []))

    clear-here : v ≡ Ok tt → None (rows h ++ length_row (more + n) ∷ [])
    clear-here q = pass_none (rows h ++ length_row (more + n) ∷ []) (sym judged ∙ q)

  -- E6
  module _ (e : List ℕ) where
    pub e6_judged : (v : Verdict) → v ≡ verdict (far_rows true e h ++ length_row (24 + n) ∷ []) → Judged (e6_plan e p) p h.upperAt (24 + n)
        v
    unfolding e6_plan rows_e6 e6_rows far_rows e6_carried
    e6_judged v judged = record {
      rows = rows_here (e6_rows e) 24 v judged;
      at = upper-here;
      within = λ q. upper_within p h s (clear-here (e6_rows e) 24 v judged q).0.1;
      fits = λ q. omega (read, (clear-here (e6_rows e) 24 v judged q).1.1.1.0.0);
    }

    pub e6_head_lem : (sid to inner : List ℕ) → sid ≡ window p 24 16 → to ≡ window p 48 16 → inner ≡ drop h.upperAt p
        → e6_head_of e h.trafficClass sid to inner ≡ (e6_plan e p).head
    unfolding e6_plan header segment
    e6_head_lem sid to inner hs ht hi =
        let here : inner ≡ drop (header p).upperAt p = hi ∙ ap (λ (k : ℕ). drop k p) upper-here in
        let size : length inner ≡ length p - (header p).upperAt = ap length here ∙ length-drop (header p).upperAt p in
        λ i. e6_head e (s.view i).trafficClass (hs i) (ht i) (size i) (e6_checksum e (ht i) (args_at (hs i) (Entry.start e)) (here i))

    -- E4
    pub e4_judged : (v : Verdict) → v ≡ verdict (far_rows false e h ++ length_row (44 + n) ∷ []) → Judged (e4_plan e p) p h.upperAt
        (44 + n) v
    unfolding e4_plan rows_e4 e4_rows far_rows e4_carried
    e4_judged v judged = record {
      rows = rows_here (e4_rows e) 44 v judged;
      at = upper-here;
      within = λ q. upper_within p h s (clear-here (e4_rows e) 44 v judged q).0;
      fits = λ q. omega (read, (clear-here (e4_rows e) 44 v judged q).1.1.1.0.0);
    }

    pub e4_head_lem : (sid from : List ℕ) → sid ≡ window p 24 16 → from ≡ window p 8 16 → e4_head e h.trafficClass sid from n ≡ (e4_plan e
        p).head
    unfolding e4_plan header
    e4_head_lem sid from hs hf i = e4_head e (s.view i).trafficClass (hs i) (hf i) (size-here i)

-- THE LENGTHS OF THEIR HEADS

pub e6-size : (e : List ℕ) (class : ℕ) (sid to inner : List ℕ) → length to ≡ 16 → length (e6_head_of e class sid to inner) ≡ 64
unfolding e6_head args_at
e6-size e class sid to inner ht = simp length-append (omega (arith, window-length e 32 16, window-length sid (Entry.start e / 8 + 1) 4))

pub e4-size : (e : List ℕ) (class : ℕ) (sid from : List ℕ) (size : ℕ) → length (e4_head e class sid from size) ≡ 44
unfolding e4_head args_at
e4-size e class sid from size =
    let args = window-length sid (start_behind (Entry.p e) / 8 + 1) 4 in
    simp length-append (omega (arith, window-length from (Entry.q e) 4, window-length sid (Entry.p e) 4, args))
