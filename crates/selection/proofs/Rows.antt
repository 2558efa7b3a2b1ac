-- How many positions a selection has. Assumes nothing.
use mathlib.Core.Path.{◌≡◌, ◌∙◌}
use Prim.Native.Nat.{◌*◌}
use native.Mathlib.Nat.{mul_comm}
use lib.ListN.{length}
use Rattle.selection_spans.proofs.Rows.{length-rows}
use Rattle.selection.specs.declared.Selection.{Selection}
use Rattle.selection.specs.Selection.{positions}

pub length-positions : (s : Selection) → length (positions s) ≡ s.w * s.h
unfolding positions
length-positions s = length-rows s.x s.w s.y s.h ∙ mul_comm s.h s.w
