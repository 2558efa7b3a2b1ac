-- `mark_move`: past the first check a change stands in the picture, so that it has a mark. Assumes nothing.
use mathlib.Core.Path.{◌≡◌, sym, ◌∙◌}
use mathlib.Core.Bool.{false}
use native.Mathlib.Omega.{arith}
use Rattle.edit.specs.Change.{unpacked, outside}
use Rattle.edit_pixels.proofs.Inside.{inside}
use Rattle.edit_remap.proofs.remap.mark_move.Goals as goal
use Rattle.edit_remap.proofs.remap.mark_move.Goals.{Else-is_outside}

-- past the first test the change is on the sheet
on : (c : Else-is_outside) → let a = c.args in outside a.w a.h (unpacked a.c) ≡ false
on c = sym c.is_outside.ensures ∙ c.if-is_outside.false

pub mark_inside-requires : goal.mark_inside-requires
mark_inside-requires c = let p = c.requires in (p.0, inside _ _ _ p.1 _ (on (goal.at.mark_inside-requires c).Else-is_outside), omega (arith, p.1, p.2))
