-- `changes`: 21 and 16, then the count. Assumes nothing.
use mathlib.Core.Path.{sym, ◌∙◌}
use Rattle.change_stroke.proofs.Reading.{changes-refused, changes-told}
use Rattle.change_stroke.proofs.Stroke.changes.Goals as goal

pub returns-then-no-ne0 : goal.returns-then-no-ne0
returns-then-no-ne0 c = changes-refused _ _ _ c.stroke_no-no.ensures c.if-no-ne0.true

pub returns : goal.returns
returns c = changes-told _ _ (sym c.stroke_no-no.ensures ∙ c.if-no-ne0.false)
