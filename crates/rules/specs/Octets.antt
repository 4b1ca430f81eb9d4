-- Octets: read by place, written in order, laid over a buffer. Every reading is total: past the end an octet is 0.
use Rattle.std.specs.Prelude.{List, [], ◌∷◌, ◌++◌, ℕ, zero, suc, ◌+◌, ◌*◌, ◌/◌, ◌%◌, ◌<◌, length, take, drop, get_or}

-- octet i, 0 past the end
abbrev pub octet : List ℕ → ℕ → ℕ
octet s i = get_or s i 0

-- each is an octet
abbrev pub Octets : List ℕ → Type 0
Octets s = (i : ℕ) → octet s i < 256

-- the n octets from octet i on: always n of them, 0 past the end
unfoldable pub window : (s : List ℕ) (i n : ℕ) → List ℕ
window s i zero = []
window s i (suc n) = octet s i ∷ window s (suc i) n

-- the 16-bit number at octet i, most significant octet first
abbrev pub read16 : List ℕ → ℕ → ℕ
read16 s i = octet s i * 256 + octet s (i + 1)

-- a 16-bit number, then the rest
abbrev pub put16 : (n : ℕ) (rest : List ℕ) → List ℕ
put16 n rest = (n / 256) ∷ (n % 256) ∷ rest

-- the number in the n octets from octet i on, most significant octet first
unfoldable pub number : (s : List ℕ) (i n : ℕ) → ℕ
number s i zero = 0
number s i (suc n) = number s i n * 256 + octet s (i + n)

-- a buffer with the octets x from octet i on; every other octet stays
unfoldable pub splice : (buffer : List ℕ) (i : ℕ) (x : List ℕ) → List ℕ
splice buffer i x = take i buffer ++ x ++ drop (i + length x) buffer
