-- `list_rows`: the changes of the first j rows are listed, n of them`. Assumes nothing.
use mathlib.Core.Path.{◌≡◌, refl}
use Prim.Native.Nat.{◌+◌, ◌*◌, ◌≤◌, ◌-◌}
use native.Mathlib.Omega.{arith}
use borrow.Author.Rules.{rules}
use lib.ListN.{length}
use mir.Syntax.{w16}
use mir.Val.{to_z, of_z}
use mir.Facts.{to_z-of_z}
use Rattle.selection.specs.Selection.{positions}
use Rattle.selection.proofs.Regions.{row_inside}
use Rattle.edit.specs.Change.{packed}
use Rattle.edit_pixels.specs.Listing.{places_from}
use Rattle.tool_fill_model.proofs.Rows.{lent, met, numbers, Listed, listed-none, listed-room, listed-lent, listed_more}
use Rattle.tool_replace.proofs.list_rows.Given as goal

abbrev pub invariant-loop-j : goal.invariant-loop-j
invariant-loop-j l = (l.j ≤ l.height) × Listed l.w l.indices l.from l.x l.y l.width l.to l.initial.out l.out l.n l.j

abbrev pub decreases-loop-j : goal.decreases-loop-j
decreases-loop-j l = l.height - l.j
