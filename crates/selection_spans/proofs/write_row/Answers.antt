-- `write_row`: so far the front of the buffer is the row's first i positions. Assumes nothing.
use mathlib.Core.Path.{◌≡◌}
use mathlib.Core.List.{flat_map}
use Prim.Native.Nat.{◌<◌, ◌+◌, ◌^◌}
use native.Mathlib.Omega.{arith}
use lib.ListN.{length-set}
use mir.Syntax.{w32}
use mir.Facts.{to_z_pos}
use Rattle.base.specs.Lists.{range}
use Rattle.base.proofs.Over.{over_none}
use Rattle.selection_spans.specs.Positions.{row, flat}
use Rattle.selection_spans.proofs.Rows.{row_step}
use Rattle.selection_spans.proofs.write_row.Goals as goal
use Rattle.selection_spans.proofs.write_row.Goals.{In-loop-i}

across : (c : In-loop-i) → c.before.before.args.x + c.before.loop-i.i < 2 ^ 31
across c = omega arith

pub loop-i-init : goal.loop-i-init
unfolding row flat range flat_map
loop-i-init c = over_none _

pub bounds-out-at-in-loop-i : goal.bounds-out-at-in-loop-i
bounds-out-at-in-loop-i c = simp length-set (omega arith)

pub loop-i-preserved : goal.loop-i-preserved
loop-i-preserved c = rw (c.loop-i.invariant, to_z_pos w32 (across c), to_z_pos w32 c.requires.below) (row_step _ _ _ _ (omega arith))

pub returns : goal.returns
returns c = let all : c.loop-i.i ≡ c.args.w = omega arith in rw all at c.loop-i.invariant
