-- `any_outside`: the flag and the structs that are left say what all say. Assumes nothing.
use mathlib.Core.Path.{◌∙◌}
use Rattle.base.proofs.Scan.{flag-step, flag-end}
use Rattle.struct_change.proofs.Loops.{none, off-all}
use Rattle.struct_change.proofs.slices.any_outside.Goals as goal

pub loop-c-preserved : goal.loop-c-preserved
loop-c-preserved c = flag-step none c.loop-c.invariant c.loop-c-test.true (rw c.packed.ensures at c.is_outside.ensures) c.either-off.ensures

pub returns : goal.returns
returns c = flag-end c.loop-c.invariant c.loop-c-test.false ∙ off-all c.args.w c.args.h c.args.list.now c.args.n
