-- `release_places`: what is passed has its indices back. Assumes nothing.
use Rattle.journal_olds.proofs.Claims.{Releasing}
use Rattle.journal_record.specs.Record.{changes_in}
use Rattle.journal_olds.proofs.olds.release_places.Given as goal

abbrev pub invariant-loop-i : goal.invariant-loop-i
invariant-loop-i l = Releasing l.w (changes_in l.form l.w l.journal l.at l.n) l.initial.indices l.i l.indices
