-- A message in a packet, read by its views: what rows from 9 on say of it, and where the inner packet of a G-PDU lies.
use mathlib.Core.Path.{◌≡◌, sym, ap, ◌∙◌}
use mathlib.Core.Bool.{true, false}
use mathlib.Core.List.{List, ◌++◌, append-nil}
use Prim.Native.Nat.{ℕ, ◌+◌, ◌-◌, ◌*◌, ◌≤◌}
use native.Mathlib.Nat.{add-zero}
use lib.ListN.{length, drop, length-drop}
use lib.Seq.{get_or-drop}
use borrow.Author.Tests.{not-false}
use Rattle.rules.specs.Octets.{octet}
use Rattle.rules.specs.Answer.{Row, given, verdict, Verdict}
use Rattle.rules.specs.Datagram.{datagram, message_rows, g_pdu_rows, inner_rows, extended}
use Rattle.rules.specs.Echo.{is_echo}
use Rattle.rules.specs.Plan.{inner_at}
use Rattle.rules.specs.declared.Datagram.{Datagram}
use Rattle.std.specs.Prelude.{Ok}
use Rattle.rules.proofs.Rows.{Clear, pass_none, none_parts, read}
use Rattle.path.specs.ByType.{type_rows}

-- the rows of an Echo Request, and of any other message
module _ (direction session : ℕ) (g : Datagram) (size first field : ℕ) (v : Verdict) where
  pub type-echo : is_echo g ≡ true → v ≡ Ok tt → v ≡ verdict (type_rows direction session g size first field)
  unfolding type_rows verdict
  type-echo t e = rw t e

  pub type-other : is_echo g ≡ false → v ≡ verdict (g_pdu_rows direction g ++ inner_rows session size first field)
      → v ≡ verdict (type_rows direction session g size first field)
  unfolding type_rows
  type-other t e = rw t e

-- what was read of a datagram that begins at octet `at`: its view, where its inner packet begins, how long it is, and its first octet
pub record GpduRead (p : List ℕ) (at : ℕ) (g : Datagram) (place size first : ℕ) : Type 0 where
  pub view : g ≡ datagram (drop at p)
  pub begins : place ≡ at + (20 + 4 * g.extensionUnits)
  pub holds : size ≡ length p - place
  pub starts : first ≡ octet p place

module _ (p : List ℕ) (at : ℕ) (g : Datagram) (place size first : ℕ) (r : GpduRead p at g place size first) where
  pub gpdu-place : place ≡ inner_at p at
  unfolding datagram
  gpdu-place = r.begins ∙ ap (λ (g : Datagram). at + (20 + 4 * g.extensionUnits)) r.view

  -- rows before, then those from row 9 on, with those of the checksum among them
  module _ (front sum : List Row) (direction session field : ℕ) (v : Verdict)
      (judged : v ≡ verdict (front ++ (message_rows sum g ++ type_rows direction session g size first field))) where
    -- of an Echo Request, where nothing else is asked
    pub echo-verdict : is_echo (datagram (drop at p)) ≡ true → (front' : List Row) → front ≡ front'
        → v ≡ verdict (front' ++ message_rows sum (datagram (drop at p)))
    unfolding type_rows
    echo-verdict t front' ef =
        judged ∙ (λ i. verdict (ef i ++ (message_rows sum (r.view i) ++ type_rows direction session (r.view i) size first field)))
        ∙ rw (t, append-nil (message_rows sum (datagram (drop at p))))

    -- of any other message
    module _ (other : is_echo (datagram (drop at p)) ≡ false) where
      gpdu_judged : v ≡ verdict (front ++ (message_rows sum g ++ (g_pdu_rows direction g ++ inner_rows session size first field)))
      unfolding type_rows
      gpdu_judged = judged ∙ rw (ap (λ (g : Datagram). is_echo g) r.view ∙ other)

      pub gpdu-verdict : (inner : List ℕ) → drop place p ≡ inner → (front' : List Row) → front ≡ front' → (field' : ℕ) → field ≡ field'
          → let u = datagram (drop at p) in
          v ≡ verdict (front' ++ (message_rows sum u ++ (g_pdu_rows direction u ++ inner_rows session (length inner) (octet inner 0)
          field')))
      gpdu-verdict inner e front' ef field' ff =
          let n : size ≡ length inner = r.holds ∙ sym (length-drop place p) ∙ ap length e in
          let f : first ≡ octet inner 0 =
          r.starts ∙ ap (octet p) (sym (add-zero place)) ∙ sym (get_or-drop place p 0 0) ∙ ap (λ (l : List ℕ). octet l 0) e in
          gpdu_judged
          ∙ (λ i. verdict (ef i ++ (message_rows sum (r.view i) ++ (g_pdu_rows direction (r.view i)
          ++ inner_rows session (n i) (f i) (ff i)))))

      -- the inner packet lies within, and the length field holds
      pub gpdu_bounds : v ≡ Ok tt → (place ≤ length p) × (field ≤ 65535)
      unfolding message_rows g_pdu_rows inner_rows
      gpdu_bounds q =
          let inners = inner_rows session size first field in
          let all = front ++ (message_rows sum g ++ (g_pdu_rows direction g ++ inners)) in
          let m = none_parts front (message_rows sum g) (g_pdu_rows direction g) inners (pass_none all (sym gpdu_judged ∙ q)) in
          let pdu = m.1.1.0 in
          let x : extended g ≡ true = not-false (extended g) pdu.1.1.0.0 in
          let c : Clear (given (extended g) _) = pdu.1.0 in
          let k = rw x at c in
          let l : g.size ≡ length p - at = ap (λ (g : Datagram). g.size) r.view ∙ unfold datagram in (length-drop at p) in
          let b = r.begins in
          (omega (read, k.1.1.0), omega (read, m.1.1.1.1.0.0))
