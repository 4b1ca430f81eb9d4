-- What a call has decided: its answer, the record that matched, and where the upper layer begins.
use Rattle.std.specs.Prelude.{◌≡◌, true, cond, ◌||◌, List, ℕ, length, Option, Some, None}
use Rattle.rules.specs.Ipv6 as Ipv6
use Rattle.rules.specs.Ipv4 as Ipv4
use Rattle.rules.specs.Sound.{sound}
use Rattle.rules.specs.Match.{match_entry, match_rule}
use Rattle.rules.specs.Answer.{any, settle}
use Rattle.rules.specs.Header.{header, malformed, WellFormed}
use Rattle.rules.specs.Header4.{header4, malformed4, bad_header4}
use Rattle.rules.specs.Calls.{at_found_entry, at_found_rule, translate6, translate4}
use Rattle.rules.specs.declared.Header.{Header}
use Rattle.answer.specs.Answered.{Answered}
use Rattle.gateway.specs.declared.Decided.{Decided}

-- entry i of a sound table is the match of a packet that passed row 2
pub record Matched (t : List ℕ) (i : ℕ) (packet : List ℕ) (h : Header) : Type 0 where
  pub sound : sound t ≡ true
  pub found : match_entry t (Ipv6.destination packet) ≡ Some i
  pub arrived : WellFormed packet h

-- the entry, and the rule, that a packet comes to: none where a row before the match refuses it
unfoldable pub entry_found : (packet t : List ℕ) → Option ℕ
entry_found packet t = cond (any (malformed (header packet))) None (match_entry t (Ipv6.destination packet))

unfoldable pub rule_found : (packet t : List ℕ) → Option ℕ
rule_found packet t =
    cond (any (malformed4 (header4 packet)) || any (bad_header4 (header4 packet))) None (match_rule t (Ipv4.destination packet))

-- the calls; the buffer that held `before` now holds `after`
pub record Decides6 (packet t before : List ℕ) (d : Decided) (after : List ℕ) : Type 0 where
  pub answered : Answered (translate6 packet t (length before)) before d.answer after
  pub found : d.found ≡ entry_found packet t
  pub upperAt : d.upperAt ≡ (header packet).upperAt

pub record Decides4 (packet t before : List ℕ) (d : Decided) (after : List ℕ) : Type 0 where
  pub answered : Answered (translate4 packet t (length before)) before d.answer after
  pub found : d.found ≡ rule_found packet t
  pub upperAt : d.upperAt ≡ Ipv4.size

-- the same from the match on
pub record Matches6 (packet t : List ℕ) (h : Header) (before : List ℕ) (d : Decided) (after : List ℕ) : Type 0 where
  pub answered : Answered (settle (length before) (at_found_entry t packet (match_entry t (Ipv6.destination packet)))) before d.answer after
  pub found : d.found ≡ match_entry t (Ipv6.destination packet)
  pub upperAt : d.upperAt ≡ h.upperAt

pub record Matches4 (packet t before : List ℕ) (d : Decided) (after : List ℕ) : Type 0 where
  pub answered : Answered (settle (length before) (at_found_rule t packet (match_rule t (Ipv4.destination packet)))) before d.answer after
  pub found : d.found ≡ match_rule t (Ipv4.destination packet)
  pub upperAt : d.upperAt ≡ Ipv4.size
