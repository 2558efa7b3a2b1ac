-- `mark_used`: i colours are marked. Assumes nothing.
use mathlib.Core.Path.{◌≡◌}
use Rattle.base.specs.Lists.{over}
use Rattle.palette_model.specs.Colours.{used_of}
use Rattle.palette.proofs.colours.mark_used.Given as goal

abbrev pub invariant-loop-i : goal.invariant-loop-i
invariant-loop-i l = l.used ≡ over (used_of l.entries l.colours l.i) l.initial.used
