-- `check_color`: 1, then 10. Assumes nothing.
use mathlib.Core.Path.{sym, ◌∙◌}
use Rattle.base.specs.Checks.{first_of, refused_or}
use Rattle.base.proofs.First.{first_past, first-here, refused-first}
use Rattle.palette_model.specs.Colours.{check_color_of}
use Rattle.palette.proofs.colours.check_color.Goals as goal

pub returns-then-no-ne0 : goal.returns-then-no-ne0
unfolding check_color_of
returns-then-no-ne0 c = refused-first _ _ _ _ (first-here _ _ _ c.permitted_no-no.ensures c.if-no-ne0.true) c.if-no-ne0.true

pub returns-then-check_color : goal.returns-then-check_color
unfolding check_color_of first_of refused_or
returns-then-check_color c = rw (first_past _ _ (sym c.permitted_no-no.ensures ∙ c.if-no-ne0.false), ← c.check_color.ensures, c.if-check_color.true)

pub returns : goal.returns
unfolding check_color_of first_of refused_or
returns c = rw (first_past _ _ (sym c.permitted_no-no.ensures ∙ c.if-no-ne0.false), ← c.check_color.ensures, c.if-check_color.false)
