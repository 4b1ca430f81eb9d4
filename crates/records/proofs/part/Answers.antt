use mathlib.Core.Path.{◌≡◌, sym}
use Prim.Native.Nat.{ℕ, ◌+◌, ◌-◌}
use native.Mathlib.Omega.{arith}
use Rattle.copying.proofs.Laws.{length_part}
use Rattle.octets.proofs.Windows.{window_part}
use Rattle.records.proofs.part.Goals as goal

pub returns : goal.returns
returns c =
    let at : ℕ = c.args.at in
    let n : ℕ = c.args.n in
    let e : at + n - at ≡ n = omega arith in
    rw e (record { same = sym (window_part _ at n (omega arith)); long = length_part at n _ (omega arith) })
