-- `pair_of`: the bits of both. Assumes nothing.
use Rattle.base.proofs.Back.{by_value}
use native.Mathlib.Omega.{arith}
use mir.Syntax.{w16}
use mir.Val.{of_z}
use Rattle.tool_fill_model.specs.Cells.{pair_of}
use borrow.Author.Rules.{rules}
use Rattle.tool_flood.proofs.scan.pair_of.Goals as goal

pub returns : goal.returns
unfolding pair_of
returns c =
    let a = by_value (of_z w16) c.ranges.old c.bits_of-a.ensures in
    let b = by_value (of_z w16) c.ranges.new c.bits_of-b.ensures in
    (rw (a, b), omega arith)
