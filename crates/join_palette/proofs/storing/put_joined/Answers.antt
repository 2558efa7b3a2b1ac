-- `put_joined`: the first's entries, then those of the second behind them. Assumes nothing.
use mathlib.Core.Path.{◌≡◌}
use Prim.Native.Nat.{◌*◌, ◌≤◌}
use native.Mathlib.Nat.{mul-le-mul_left}
use native.Mathlib.Omega.{arith}
use lib.ListN.{length, take}
use lib.Seq.{length-take-le}
use Rattle.base.proofs.Over.{over-is, over-lent}
use Rattle.join_palette.specs.Pieces.{pieces}
use Rattle.join_palette.proofs.storing.put_joined.Goals as goal

pub returns : goal.returns
returns g c =
    let a = c.args in
    let n = g.row.N * a.k in
    let k : a.k ≤ 255 = omega arith in
    let long : length (take n a.first.now) ≡ n =
    length-take-le n a.first.now (omega (arith, mul-le-mul_left g.row.N k)) in
    over-lent (take n a.first.now) (pieces g.row.N a.second.now a.named.now) a.out.now _ _ n long
    (rw c.copy.ensures (over-is (take n a.first.now) a.out.now n long))
    c.put_named.ensures
