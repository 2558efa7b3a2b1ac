-- `put_all`: the first i are written. Assumes nothing.
use Rattle.c_form.proofs.Fields.{Writes}
use Rattle.c_bytes.proofs.write.put_all.Given as goal

abbrev pub invariant-loop-i : goal.invariant-loop-i
invariant-loop-i g l = Writes g.T.Field.SIZE g.T.Field.over l.at l.list l.initial.dst l.dst l.i
