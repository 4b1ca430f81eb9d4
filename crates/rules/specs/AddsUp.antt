-- The UDP checksum over IPv6, said a second time: 16-bit words read by their place and added as plain numbers. No sum of Checksum.antt is
-- named here.
use Rattle.std.specs.Prelude.{◌≡◌, ◌≢◌, List, ℕ, zero, suc, ◌+◌, ◌*◌, ◌/◌, ◌%◌, ◌<◌, length}
use Rattle.rules.specs.Octets.{octet, read16}

-- the first n words
unfoldable pub words_of : (n : ℕ) (s : List ℕ) → ℕ
words_of zero s = 0
words_of (suc n) s = words_of n s + read16 s (2 * n)

-- all of an upper-layer packet; past its end an octet is 0
abbrev pub words : List ℕ → ℕ
words s = words_of ((length s + 1) / 2) s

-- the eight words of each address, the length, UDP's number and the words of the datagram u
abbrev pub total : (source destination u : List ℕ) → ℕ
total source destination u = words_of 8 source + words_of 8 destination + length u + 17 + words u

-- A checksum fits where ones' complement addition gives FFFF: where the total, which is never 0, is a multiple of that.
abbrev pub AddsUp : (source destination u : List ℕ) → Type 0
AddsUp source destination u = total source destination u % 0xffff ≡ 0

-- octets of which one is changed, in one bit or in several
pub record OneChanged (before after : List ℕ) : Type 0 where
  pub at : ℕ
  pub within : at < length before
  pub size : length after ≡ length before
  pub changed : octet after at ≢ octet before at
  pub others : (i : ℕ) → i ≢ at → octet after i ≡ octet before i
