-- `paint_news_in`: what is left, painted over the present picture, gives the whole. Assumes nothing.
use Rattle.edit.specs.Change.{new_of}
use Rattle.edit_pixels.proofs.Painting.{Painting}
use Rattle.journal_record.specs.Record.{changes_in}
use Rattle.journal_read.proofs.list.paint_news_in.Given as goal

abbrev pub invariant-loop-i : goal.invariant-loop-i
invariant-loop-i l = Painting new_of l.w (changes_in l.form l.w l.journal l.at l.n) l.initial.indices l.i l.indices
