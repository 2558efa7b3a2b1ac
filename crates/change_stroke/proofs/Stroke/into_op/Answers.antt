-- `into_op`: 21 and 16; then what `pixels_in` left in the scratch, copied out. Assumes nothing.
use mathlib.Core.Path.{refl, sym, ◌∙◌}
use lib.Seq.{length-take-le}
use Rattle.change_list.proofs.InScratch.{copied}
use Rattle.change_stroke.proofs.Reading.{stroke-held, into-refused, into-made}
use Rattle.change_stroke.proofs.Stroke.into_op.Goals as goal

pub returns-then-no-ne0-clause-stroke_after : goal.returns-then-no-ne0-clause-stroke_after
returns-then-no-ne0-clause-stroke_after c = into-refused _ _ _ _ _ c.stroke_no-no.ensures c.if-no-ne0.true

pub slice_bounds-pixels_in-end : goal.slice_bounds-pixels_in-end
slice_bounds-pixels_in-end c = stroke-held _ _ (sym c.stroke_no-no.ensures ∙ c.if-no-ne0.false)

pub slice_bounds-pixels_in-end-2 : goal.slice_bounds-pixels_in-end-2
slice_bounds-pixels_in-end-2 c = sym (length-take-le _ _ (stroke-held _ _ (sym c.stroke_no-no.ensures ∙ c.if-no-ne0.false)))

pub returns-clause-stroke_after : goal.returns-clause-stroke_after
returns-clause-stroke_after c = into-made _ _ _ _ (sym c.stroke_no-no.ensures ∙ c.if-no-ne0.false) (copied c.pixels_in-r.ensures.in_scratch c.made_count.ensures _ refl c.copy_out.ensures)
