-- Segment Routing Header (RFC 8754, 2): its fields in a packet, where it follows the IPv6 header, and the SRH as we write it.
use Rattle.std.specs.Prelude.{List, [], ◌∷◌, ◌++◌, ℕ, ◌+◌, ◌-◌, ◌*◌, length}
use Rattle.rules.specs.Octets.{octet, window, read16}
use Rattle.rules.specs.Assigned.{segment_routing}

abbrev pub next_header : List ℕ → ℕ
next_header p = octet p 40

-- length in 8-octet units past the first 8
abbrev pub units : List ℕ → ℕ
units p = octet p 41

abbrev pub routing_type : List ℕ → ℕ
routing_type p = octet p 42

abbrev pub segments_left : List ℕ → ℕ
segments_left p = octet p 43

abbrev pub last_entry : List ℕ → ℕ
last_entry p = octet p 44

abbrev pub flags : List ℕ → ℕ
flags p = octet p 45

abbrev pub tag : List ℕ → ℕ
tag p = read16 p 46

-- SRH[i], where SRH[0] is the last segment of the path
unfoldable pub segment : List ℕ → ℕ → List ℕ
segment p i = window p (48 + 16 * i) 16

-- segments of a path, last segment first
abbrev pub segments : (path : List (List ℕ)) (rest : List ℕ) → List ℕ
segments [] rest = rest
segments (s ∷ path) rest = segments path (s ++ rest)

-- an SRH that holds a path, with flags 0, tag 0 and no TLVs
abbrev pub srh : (next_header segments_left : ℕ) (path : List (List ℕ)) (rest : List ℕ) → List ℕ
srh next_header segments_left path rest =
    next_header ∷ (2 * length path) ∷ segment_routing ∷ segments_left ∷ (length path - 1) ∷ 0 ∷ 0 ∷ 0 ∷ segments path rest
