-- `fixed_choices`: 1 to 3, then whether there is a list, then 16, then a mark for each of its colours. Assumes nothing.
use mathlib.Core.Path.{sym}
use native.Mathlib.Omega.{arith}
use lib.Seq.{length-take-le}
use Rattle.sheet.specs.Sheet.{sheet_of}
use Rattle.sheet.specs.Checks.{Limits}
use Rattle.palette_model.proofs.PaletteAnswers.{choices-refused, choices-free, choices-short, choices-done}
use Rattle.palette.proofs.colours.fixed_choices.Goals as goal
use Rattle.palette.proofs.colours.fixed_choices.Goals.{Else-used-n}

-- past the first test the limits hold
past : (c : Else-used-n) → let a = c.args in Limits (sheet_of a.w a.h a.k a.palette.now a.lab.now a.indices.now)
past c = (c.opened_no-no.ensures.fine c.if-no-ne0.false).limits

pub returns-then-no-ne0 : goal.returns-then-no-ne0
returns-then-no-ne0 c = choices-refused _ _ _ _ c.opened_no-no.ensures c.if-no-ne0.true

pub returns-then-not-limited : goal.returns-then-not-limited
returns-then-not-limited c = choices-free _ _ _ _ c.opened_no-no.ensures c.if-no-ne0.false (c.if-not-limited.true)

pub returns-then-used-n : goal.returns-then-used-n
returns-then-used-n c = choices-short _ _ _ _ c.opened_no-no.ensures c.if-no-ne0.false (c.if-not-limited.false) c.if-used-n.true

pub overflow_mul-end : goal.overflow_mul-end
overflow_mul-end c = omega (arith, past c)

pub slice_bounds-mark_used-end : goal.slice_bounds-mark_used-end
slice_bounds-mark_used-end c = let f = past c in sym (length-take-le _ _ (omega arith))

pub returns : goal.returns
returns c = choices-done _ _ _ _ c.opened_no-no.ensures c.if-no-ne0.false (c.if-not-limited.false) c.if-used-n.false _ c.mark_used.ensures
