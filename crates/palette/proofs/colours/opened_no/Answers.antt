-- `opened_no`: the permitted colours, then the sheet. Assumes nothing.
use mathlib.Core.Path.{sym, ◌∙◌}
use Rattle.palette_model.proofs.Opening.{opened-permitted, opened-sheet}
use Rattle.palette.proofs.colours.opened_no.Goals as goal

pub returns-then-no-ne0 : goal.returns-then-no-ne0
returns-then-no-ne0 c = opened-permitted _ _ _ _ _ c.permitted_no-no.ensures c.if-no-ne0.true

pub returns : goal.returns
returns c = opened-sheet _ _ _ _ _ (sym c.permitted_no-no.ensures ∙ c.if-no-ne0.false) c.check.ensures.value c.check.ensures.fine
