-- `copy_out`: the first i are copied. Assumes nothing.
use lib.ListN.{take}
use lib.Seq.{get_or-take, length-take-le}
use native.Mathlib.Omega.{arith}
use Rattle.std.proofs.lemmas.List.{take_more}
use Rattle.base.proofs.Over.{over_none, over-set}
use Rattle.change_list.proofs.copy.copy_out.Goals as goal

pub loop-i-init : goal.loop-i-init
loop-i-init c = over_none _

pub loop-i-preserved : goal.loop-i-preserved
loop-i-preserved c =
    let s = c.args.scratch.now in
    let i = c.loop-i.i in
    let h = length-take-le c.args.n s c.requires.n_in_bounds in
    rw (take_more s i 0 (omega (arith, h)), c.loop-i.invariant, get_or-take c.args.n s i 0 (omega (arith, h)))
    (over-set (take i s) c.args.out.now i _ (length-take-le i s (omega (arith, h))) (omega (arith, h)))
