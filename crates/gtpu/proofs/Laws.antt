-- A datagram read by its first 24 octets and its first extension header, rows as callees answer them, and a datagram put before its inner
-- packet.
use mathlib.Core.Path.{◌≡◌, sym, ap, ◌∙◌}
use mathlib.Core.Bool.{Bool, true, cond}
use mathlib.Core.List.{List, [], ◌∷◌, ◌++◌}
use Prim.Native.Nat.{ℕ, ◌+◌, ◌-◌, ◌*◌, ◌/◌, ◌%◌, ◌<◌}
use native.Mathlib.Nat.{add-zero}
use native.Mathlib.Omega.{arith}
use lib.Dec.{eqb}
use lib.ListN.{length, drop, length-drop}
use Rattle.rules.specs.Octets.{octet, window, put16}
use Rattle.rules.specs.Assigned.{downlink, g_pdu, gtpu_port, pdu_session_container}
use Rattle.rules.specs.Answer.{Row, any, verdict}
use Rattle.rules.specs.Args.{Args}
use Rattle.rules.specs.Gtpu as Gtpu
use Rattle.rules.specs.Gtpu.{udp, flow_octet, gtpu_flags, datagram_before}
use Rattle.rules.specs.Datagram.{datagram}
use Rattle.rules.specs.declared.Refusal.{Refusal}
use Rattle.std.specs.Prelude.{Err}
use Rattle.std.specs.Int.{w16, to_be_bytes}
use Rattle.rules.proofs.Windows.{window-drop}
use Rattle.rules.proofs.Judging.{row_yes, judged, verdict-append}
use Rattle.octets.proofs.Windows.{window-all}
use Rattle.extension.specs.Extension.{extension_after, fields_of, first_place}
use Rattle.gtpu.specs.Reading.{view_of, args_of}
use Rattle.extension.specs.declared.Fields.{Fields}
use Rattle.extension.specs.declared.Extension.{Extension}
use Rattle.extension.proofs.Extensions.{fields_in, fields_read, content_read, following_read}

-- READING

-- a window of a packet, told from where the datagram begins
window_at : (p : List ℕ) (at n : ℕ) → window p at n ≡ window (drop at p) 0 n
window_at p at n = ap (λ (k : ℕ). window p k n) (sym (add-zero at)) ∙ sym (window-drop p at 0 n)

-- the view, from what the readers say, with the GTP-U message g
pub view_read : (p f g : List ℕ) (at n k t : ℕ) (e : Extension) (x : Fields) → f ≡ window p at 24 → n ≡ length p - at
    → g ≡ drop (at + 8) p → e ≡ extension_after g first_place → x ≡ fields_of e → k ≡ octet g x.contents → t ≡ octet g x.next
    → view_of f n x k t ≡ datagram (drop at p)
unfolding datagram window
view_read p f g at n k t e x hf hn hg he hx hk ht =
    let u : List ℕ = drop at p in
    let front : f ≡ window u 0 24 = hf ∙ window_at p at 24 in
    let size : n ≡ length u = hn ∙ sym (length-drop at p) in
    let fields : x ≡ fields_in u = fields_read p g at hg e x he hx in
    let content : k ≡ octet u 21 = content_read p g at hg x k fields hk in
    let following : t ≡ Gtpu.following_type u = following_read p g at hg x t fields ht in
    λ i. view_of (front i) (size i) (fields i) (content i) (following i)

-- what is carried, from the window
pub args_read : (p f : List ℕ) (at direction : ℕ) (teid : List ℕ) → f ≡ window p at 24 → direction ≡ Gtpu.pdu_type f → teid ≡ Gtpu.teid f
    → ◌≡◌ {A = Args} (record { qfi = Gtpu.qfi f; reflective = cond (eqb direction downlink) (Gtpu.reflective_bit f) 0; teid = teid })
    (args_of (drop at p))
unfolding window
args_read p f at direction teid hf hd ht =
    (λ i. record { qfi = Gtpu.qfi f; reflective = cond (eqb (hd i) downlink) (Gtpu.reflective_bit f) 0; teid = ht i })
    ∙ ap args_of (hf ∙ window_at p at 24)

-- JUDGING

-- a row that answers, where a callee made the answer
pub row_by : (bs : List Bool) (ρ σ : Refusal) (rs : List Row) → σ ≡ ρ → any bs ≡ true
    → Err σ ≡ verdict (record { tests = bs; refusal = ρ } ∷ rs)
row_by bs ρ σ rs p e = ap Err p ∙ row_yes bs ρ rs e

pub ruleset judged-by = (judged, row_by)

-- WRITING

-- a number of 16 bits, from its two octets
number_written : (b : List ℕ) (n : ℕ) → b ≡ to_be_bytes w16 n → n < 65536 → (rest : List ℕ) → octet b 0 ∷ octet b 1 ∷ rest ≡ put16 n rest
number_written b n e l rest =
    let high : n / 256 % 256 ≡ n / 256 = omega arith in
    ap (λ (b : List ℕ). octet b 0 ∷ octet b 1 ∷ rest) e ∙ (λ i. high i ∷ (n % 256) ∷ rest)

-- from the octets of each number and of the TEID, one by one
module _ (port direction checksum size flow : ℕ) (from to all sum message teid : List ℕ) (x : Args)
    (fp : from ≡ to_be_bytes w16 port) (lp : port < 65536) (ft : to ≡ to_be_bytes w16 gtpu_port)
    (fa : all ≡ to_be_bytes w16 (24 + size)) (la : 24 + size < 65536) (fc : sum ≡ to_be_bytes w16 checksum) (lc : checksum < 65536)
    (fm : message ≡ to_be_bytes w16 (8 + size)) (l : length teid ≡ 4) (t : teid ≡ x.teid)
    (f : flow ≡ flow_octet direction x.qfi x.reflective) where
  pub datagram_written : octet from 0 ∷ octet from 1 ∷ octet to 0 ∷ octet to 1 ∷ octet all 0 ∷ octet all 1 ∷ octet sum 0 ∷ octet sum 1
      ∷ gtpu_flags ∷ g_pdu ∷ octet message 0 ∷ octet message 1 ∷ octet teid 0 ∷ octet teid 1 ∷ octet teid 2 ∷ octet teid 3
      ∷ 0 ∷ 0 ∷ 0 ∷ pdu_session_container ∷ 1 ∷ (direction * 16) ∷ flow ∷ 0 ∷ []
      ≡ datagram_before port direction checksum x size []
  unfolding window
  datagram_written =
      let e : window teid 0 4 ≡ x.teid = window-all teid 4 l ∙ t in
      number_written from port fp lp _
      ∙ ap (put16 port) (number_written to gtpu_port ft (omega arith) _
      ∙ ap (put16 gtpu_port) (number_written all (24 + size) fa la _
      ∙ ap (put16 (24 + size)) (number_written sum checksum fc lc _
      ∙ ap (λ (r : List ℕ). put16 checksum (gtpu_flags ∷ g_pdu ∷ r)) (number_written message (8 + size) fm (omega arith) _
      ∙ (λ i. put16 (8 + size) (e i ++ (0 ∷ 0 ∷ 0 ∷ pdu_session_container ∷ 1 ∷ (direction * 16) ∷ f i ∷ 0 ∷ [])))))))
