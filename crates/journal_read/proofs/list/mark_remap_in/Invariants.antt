-- `mark_remap_in`: what is left says what the whole list says, and the places met are marked. Assumes nothing.
use Rattle.edit_pixels.specs.Inside.{bare}
use Rattle.edit_remap.proofs.Remapping.{Remapping}
use Rattle.journal_record.specs.Record.{changes_in}
use Rattle.journal_read.proofs.list.mark_remap_in.Given as goal

abbrev pub invariant-loop-i : goal.invariant-loop-i
invariant-loop-i l = Remapping (bare l.w l.h l.k l.indices) l.index (changes_in l.form l.w l.journal l.at l.n) l.initial.marks l.i l.marks
