-- `pixels_no_in`: what is left says what the whole list says. Assumes nothing.
use mathlib.Core.Bool.{false}
use mathlib.Core.List.{List}
use lib.IntN.{ℤ}
use Rattle.edit.specs.Checks.{pixel_checks}
use Rattle.edit_pixels.specs.Inside.{bare}
use Rattle.edit_pixels.proofs.Passing.{Passing}
use Rattle.journal_record.specs.Record.{changes_in}
use Rattle.journal_read.proofs.list.pixels_no_in.Given as goal

abbrev pub invariant-loop-i : goal.invariant-loop-i
invariant-loop-i l = (indices : List ℤ) → Passing (pixel_checks false (bare l.w l.h l.k indices)) (changes_in l.form l.w l.journal l.at l.n) l.i
