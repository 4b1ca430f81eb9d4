-- What the adders of octets say: a word as it lies, and how far a sum has come.
use Rattle.std.specs.Prelude.{◌≡◌, List, ℕ, ◌+◌, ◌*◌, ◌%◌, ◌≤◌, ◌<◌, drop}
use Rattle.rules.specs.Octets.{octet}
use Rattle.rules.specs.Checksum.{word_sum}

-- r is the number in the four octets from octet i on, least significant octet first
pub record Four (s : List ℕ) (i r : ℕ) : Type 0 where
  pub value : r ≡ octet s i + octet s (i + 1) * 256 + (octet s (i + 2) + octet s (i + 3) * 256) * 65536
  pub small : r < 4294967296

-- r has the octets before octet i: with the words from there on it makes up the sum of all, once the octets of its words are exchanged
pub record Before (s : List ℕ) (i r : ℕ) : Type 0 where
  pub sums : (256 * r + word_sum (drop i s)) % 65535 ≡ word_sum s % 65535
  pub small : r ≤ i * 1073741824
