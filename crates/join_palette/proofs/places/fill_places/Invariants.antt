-- `fill_places`: the table has where the transparent index and the first i entries go. Assumes nothing.
use mathlib.Core.Path.{◌≡◌}
use lib.ListN.{length}
use Rattle.join_model.specs.Places.{Moves}
use Rattle.join_palette.proofs.places.fill_places.Given as goal

abbrev pub invariant-loop-i : goal.invariant-loop-i
invariant-loop-i l = (length l.table ≡ 256) × Moves l.i l.colours l.palette l.table
