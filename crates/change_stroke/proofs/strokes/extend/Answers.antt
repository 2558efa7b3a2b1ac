-- `extend`: 21 and 16; then the joined normal form, copied out of the scratch. Assumes nothing.
use mathlib.Core.Path.{refl, sym, ◌∙◌}
use Rattle.change_list.proofs.InScratch.{copied}
use lib.Seq.{length-take-le}
use Rattle.change_list.proofs.Fronts.{front-within}
use Rattle.change_stroke.proofs.Extending.{extend-fine, extend-refused, extend-done, joined-fits}
use Rattle.change_stroke.proofs.strokes.extend.Goals as goal

pub returns-then-no-ne0-clause-stroke_after : goal.returns-then-no-ne0-clause-stroke_after
returns-then-no-ne0-clause-stroke_after c = extend-refused _ _ _ _ _ c.extend_no-no.ensures c.if-no-ne0.true

pub slice_bounds-normalize_joined-end : goal.slice_bounds-normalize_joined-end
slice_bounds-normalize_joined-end c = (extend-fine _ _ _ _ (sym c.extend_no-no.ensures ∙ c.if-no-ne0.false)).held

pub slice_bounds-normalize_joined-end-2 : goal.slice_bounds-normalize_joined-end-2
slice_bounds-normalize_joined-end-2 c = sym (length-take-le _ _ (extend-fine _ _ _ _ (sym c.extend_no-no.ensures ∙ c.if-no-ne0.false)).held)

pub normalize_joined-n-requires : goal.normalize_joined-n-requires
normalize_joined-n-requires c =
    let f = joined-fits _ _ c.args.list.now c.args.stroke.now (sym c.extend_no-no.ensures ∙ c.if-no-ne0.false) in record { more_in_bounds = f.0; more_len_bound = f.1 }

pub returns-clause-stroke_after : goal.returns-clause-stroke_after
returns-clause-stroke_after c = extend-done _ _ _ _ (sym c.extend_no-no.ensures ∙ c.if-no-ne0.false) c.normalize_joined-n.ensures (copied (c.counted-r.ensures _ (front-within c.normalize_joined-n.ensures)) c.count_of.ensures _ refl c.copy_out.ensures)
