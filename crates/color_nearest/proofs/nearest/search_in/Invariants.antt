-- `nearest::search_in`: s is the search of the first i entries, and u of the i entries from the half on. Assumes nothing.
use Rattle.color_nearest.proofs.Totals.{Part}
use Rattle.color_nearest.proofs.nearest.search_in.Given as goal

abbrev pub invariant-loop-i : goal.invariant-loop-i
invariant-loop-i l = Part l.target l.lab 0 l.i l.s × Part l.target l.lab l.half l.i l.u
