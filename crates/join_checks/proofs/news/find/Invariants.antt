-- `find`: none of the first i entries is the colour. Assumes nothing.
use Rattle.join_model.proofs.Placing.{Placing}
use Rattle.join_checks.proofs.news.find.Given as goal

abbrev pub invariant-loop-i : goal.invariant-loop-i
invariant-loop-i l = Placing l.colours l.c l.i
