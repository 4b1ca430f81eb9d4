-- The IPv4 header as it is put together.
use mathlib.Core.Path.{◌≡◌, ◌∙◌}
use mathlib.Core.List.{List, [], ◌++◌, append-nil}
use Prim.Native.Nat.{ℕ, ◌-◌}
use lib.ListN.{length}
use Rattle.rules.specs.Octets.{window, put16}
use Rattle.rules.specs.Checksum.{ones_sum}
use Rattle.rules.specs.Ipv4.{ipv4, ipv4_front}
use Rattle.octets.proofs.Windows.{window-all}

-- from the sum of the header with the checksum 0
pub ipv4_written : (tos total ttl sum : ℕ) (s d : List ℕ) → length s ≡ 4 → length d ≡ 4
    → sum ≡ ones_sum (ipv4_front tos total ttl (put16 0 (window s 0 4 ++ window d 0 4)))
    → ipv4_front tos total ttl (put16 (65535 - sum) []) ++ s ++ d ≡ ipv4 tos total ttl s d []
ipv4_written tos total ttl sum s d hs hd h =
    let e : sum ≡ ones_sum (ipv4_front tos total ttl (put16 0 (s ++ d))) =
    h ∙ (λ i. ones_sum (ipv4_front tos total ttl (put16 0 (window-all s 4 hs i ++ window-all d 4 hd i)))) in
    (λ i. ipv4_front tos total ttl (put16 (65535 - e i) (s ++ d))) ∙ rw append-nil
