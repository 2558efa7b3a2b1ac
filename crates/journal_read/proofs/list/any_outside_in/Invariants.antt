-- `any_outside_in`: the flag and what is left say what the whole list says. Assumes nothing.
use Rattle.base.proofs.Scan.{Flagged}
use Rattle.edit.specs.Change.{outside}
use Rattle.journal_record.specs.Record.{changes_in}
use Rattle.journal_read.proofs.list.any_outside_in.Given as goal

abbrev pub invariant-loop-i : goal.invariant-loop-i
invariant-loop-i l = Flagged (outside l.w l.h) (changes_in l.form l.w l.journal l.at l.n) l.i l.bad
