-- Internet checksum (RFC 1071), and its sum over an upper-layer packet in IPv6 (RFC 8200, 8.1).
use Rattle.std.specs.Prelude.{List, [], ◌∷◌, ◌++◌, ℕ, ◌+◌, ◌-◌, ◌*◌, ◌/◌, ◌%◌, length}
use Rattle.rules.specs.Octets.{put16}

-- ones' complement sum of two 16-bit numbers: what is carried out of the top is added at the bottom
abbrev pub ones_add : ℕ → ℕ → ℕ
ones_add a b = (a + b) % 65536 + (a + b) / 65536

-- ones' complement sum of the 16-bit words of some octets
unfoldable pub ones_sum : List ℕ → ℕ
ones_sum [] = 0
ones_sum (a ∷ []) = a * 256
ones_sum (a ∷ b ∷ rest) = ones_add (a * 256 + b) (ones_sum rest)

-- the ones' complement of that sum
abbrev pub checksum : List ℕ → ℕ
checksum s = 65535 - ones_sum s

-- the plain sum of the 16-bit words of some octets; an odd octet at the end is the high half of a word
unfoldable pub word_sum : List ℕ → ℕ
word_sum [] = 0
word_sum (a ∷ []) = a * 256
word_sum (a ∷ b ∷ rest) = a * 256 + b + word_sum rest

-- pseudo-header: addresses, length of the upper-layer packet in 32 bits, zero, next header; then that packet
abbrev pub with_pseudo_header : (source destination : List ℕ) (next_header : ℕ) (upper : List ℕ) → List ℕ
with_pseudo_header source destination next_header upper =
    source ++ (destination ++ put16 (length upper / 65536) (put16 (length upper % 65536) (0 ∷ 0 ∷ 0 ∷ next_header ∷ upper)))
