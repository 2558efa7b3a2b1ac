-- `pixels_no`: what is left says what the whole list says. Assumes nothing.
use mathlib.Core.List.{map}
use Rattle.edit.specs.Change.{unpacked}
use Rattle.edit.specs.Checks.{pixel_checks}
use Rattle.edit_pixels.specs.Inside.{bare}
use Rattle.edit_pixels.proofs.Passing.{Passing}
use Rattle.edit_pixels.proofs.checks.pixels_no.Given as goal

abbrev pub invariant-loop-c : goal.invariant-loop-c
invariant-loop-c l = Passing (pixel_checks l.replay (bare l.w l.h l.k l.indices)) (map unpacked l.list) l.c-index
