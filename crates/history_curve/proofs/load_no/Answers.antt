-- `load_no`: the journal's length, 1 to 3, the handle, its count, the curve. Assumes nothing.
use mathlib.Core.Path.{◌≡◌, sym, ap, ◌∙◌}
use mathlib.Core.Bool.{true, not}
use lib.ListN.{length}
use borrow.Author.Rules.{rules}
use borrow.Author.Tests.{not-true, not-false}
use Rattle.sheet.specs.Sheet.{sheet_of}
use Rattle.sheet.specs.Checks.{WellFormed}
use Rattle.history_ledger.specs.Handle.{sound}
use Rattle.history_curve.proofs.Answers.{load-long, load-sheet, load-unsound, load-in-use, load-unfit, load-fine}
use Rattle.history_curve.proofs.load_no.Goals as goal
use Rattle.history_curve.proofs.load_no.Goals.{Else-no-ne0, Else-not-sound}

-- past the sheet's test it is well-formed, and past the handle's that is sound
formed : (c : Else-no-ne0) → let a = c.args in WellFormed (sheet_of a.w a.h a.k a.palette.now a.lab.now a.indices.now)
formed c = c.check-no.ensures.fine c.if-no-ne0.false

is-sound : (c : Else-not-sound) → let a = c.args in sound (length a.journal.now) a.handle ≡ true
is-sound c = sym c.sound.ensures ∙ c.if-not-sound.false

pub returns-then-size-gt-MAX_JOURNAL : goal.returns-then-size-gt-MAX_JOURNAL
returns-then-size-gt-MAX_JOURNAL c = load-long _ _ _ _ c.if-size-gt-MAX_JOURNAL.true

pub returns-then-no-ne0 : goal.returns-then-no-ne0
returns-then-no-ne0 c = load-sheet _ _ _ _ c.if-size-gt-MAX_JOURNAL.false _ c.check-no.ensures c.if-no-ne0.true

pub returns-then-not-sound : goal.returns-then-not-sound
returns-then-not-sound c =
    load-unsound _ _ _ _ c.if-size-gt-MAX_JOURNAL.false (formed (goal.at.returns-then-not-sound c).Else-no-ne0) (sym c.sound.ensures ∙ c.if-not-sound.true)

pub returns-then-handle-ne0 : goal.returns-then-handle-ne0
returns-then-handle-ne0 c =
    load-in-use _ _ _ _ c.if-size-gt-MAX_JOURNAL.false (formed (goal.at.returns-then-handle-ne0 c).Else-no-ne0) (is-sound (goal.at.returns-then-handle-ne0 c).Else-not-sound) c.if-handle-ne0.true

pub returns-then-not-is_curve : goal.returns-then-not-is_curve
returns-then-not-is_curve c =
    load-unfit _ _ _ _ c.if-size-gt-MAX_JOURNAL.false (formed (goal.at.returns-then-not-is_curve c).Else-no-ne0) (is-sound (goal.at.returns-then-not-is_curve c).Else-not-sound) c.if-handle-ne0.false (ap not (sym c.is_curve.ensures) ∙ (ap not c.if-not-is_curve.true))

pub returns : goal.returns
returns c =
    load-fine _ _ _ _ c.if-size-gt-MAX_JOURNAL.false (formed (goal.at.returns c).Else-no-ne0) (is-sound (goal.at.returns c).Else-not-sound) c.if-handle-ne0.false (ap not (sym c.is_curve.ensures) ∙ (ap not c.if-not-is_curve.false))
