-- `write::write`: each turn writes one record more. Assumes nothing.
use lib.ListN.{length}
use Rattle.history_convert.specs.Sizes.{Ready}
use Rattle.history_convert.proofs.Writing.{Writing}
use Rattle.history_convert.proofs.write.write.Given as goal

abbrev pub invariant-loop : goal.invariant-loop
invariant-loop l = (r : Ready l.form l.w l.n l.bytes l.to (length l.initial.out)) → Writing l.form l.w l.n l.bytes l.to l.initial.out r.raws l.at l.put l.counter l.out
