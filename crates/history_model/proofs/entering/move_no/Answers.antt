-- `move_no`: 1 of the journal, 1 to 3 of the sheet, 4 of the handle. Assumes nothing.
use mathlib.Core.Path.{sym, ◌∙◌}
use native.Mathlib.Omega.{arith}
use borrow.Author.Tests.{not-true, not-false}
use Rattle.history_model.proofs.Answers.{moves_long, moves-sheet, moves-unsound, moves-fine}
use borrow.Author.Rules.{rules}
use Rattle.history_model.proofs.entering.move_no.Goals as goal

pub returns-then-journal-gt-MAX_JOURNAL : goal.returns-then-journal-gt-MAX_JOURNAL
returns-then-journal-gt-MAX_JOURNAL c = moves_long _ c.if-journal-gt-MAX_JOURNAL.true

pub returns-then-no-ne0 : goal.returns-then-no-ne0
returns-then-no-ne0 c = moves-sheet _ (omega arith) _ c.check_marked-no.ensures c.if-no-ne0.true

pub returns-then-not-sound : goal.returns-then-not-sound
returns-then-not-sound c = moves-unsound _ (omega arith) _ c.check_marked-no.ensures c.if-no-ne0.false (sym c.sound.ensures ∙ c.if-not-sound.true)

pub returns : goal.returns
returns c = moves-fine _ (omega arith) _ c.check_marked-no.ensures c.if-no-ne0.false (sym c.sound.ensures ∙ c.if-not-sound.false)
