-- `labs::fill_labs`: the LAB of the first i entries, then what stood there. Assumes nothing.
use mathlib.Core.Path.{◌≡◌}
use lib.ListN.{length}
use Rattle.color_curve.specs.Curve.{curve_of, lab_by}
use Rattle.sheet.proofs.LabStorage.{filled}
use Rattle.sheet.proofs.labs.fill_labs.Given as goal

abbrev pub invariant-loop-i : goal.invariant-loop-i
invariant-loop-i l = (length l.lab ≡ length l.initial.lab) × (l.lab ≡ filled (lab_by (curve_of l.loaded l.curve)) l.palette l.initial.lab l.i)
