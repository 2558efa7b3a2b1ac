-- `take_all`: the first i are read. Assumes nothing.
use Rattle.c_form.proofs.Fields.{Reads}
use Rattle.c_bytes.proofs.read.take_all.Given as goal

abbrev pub invariant-loop-i : goal.invariant-loop-i
invariant-loop-i g l = Reads g.T.Field.SIZE g.T.Field.read l.at l.src l.initial.out l.out l.i
