-- `flood_in`: in as much of the scratch as is needed. Assumes nothing.
use mathlib.Core.Path.{sym}
use native.Mathlib.Omega.{arith}
use lib.Seq.{length-take-le}
use Rattle.change_list.proofs.Fronts.{front-lent}
use mir.Facts.{to_z-of_z}
use borrow.Author.Rules.{rules}
use Rattle.tool_flood.proofs.flood.flood_in.Goals as goal

pub slice_bounds-flood_all-end-2 : goal.slice_bounds-flood_all-end-2
slice_bounds-flood_all-end-2 c = sym (length-take-le _ _ (omega arith))

pub flood_all-requires : goal.flood_all-requires
flood_all-requires c = record { wide = c.requires.0; narrow = c.requires.1; rows = c.requires.2; begins = c.requires.3; cells = length-take-le _ _ (omega arith) }

pub returns : goal.returns
returns c = front-lent (rw (to_z-of_z c.ranges.index) at c.flood_all.ensures) _
