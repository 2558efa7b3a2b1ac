-- `extend_packed`: 21 and 16; then the joined normal form, left in the scratch. Assumes nothing.
use mathlib.Core.Path.{sym, ◌∙◌}
use lib.Seq.{length-take-le}
use Rattle.change_list.proofs.Fronts.{front-within}
use Rattle.struct_extend.proofs.Joined.{ready, parts-fit, over-refused, over_done}
use Rattle.struct_extend.proofs.strokes.extend_packed.Goals as goal

pub returns-then-no-ne0 : goal.returns-then-no-ne0
returns-then-no-ne0 c stroke list e l p q = over-refused _ _ list stroke c.room_for-room.ensures e l _ c.extend_no-no.ensures c.if-no-ne0.true

pub slice_bounds-normalize_joined-end : goal.slice_bounds-normalize_joined-end
slice_bounds-normalize_joined-end c = sym (length-take-le _ _ (ready _ _ _ _ _ _ _ c.room_for-room.ensures (sym c.extend_no-no.ensures ∙ c.if-no-ne0.false)).first)

pub slice_bounds-normalize_joined-end-2 : goal.slice_bounds-normalize_joined-end-2
slice_bounds-normalize_joined-end-2 c = sym (length-take-le _ _ (ready _ _ _ _ _ _ _ c.room_for-room.ensures (sym c.extend_no-no.ensures ∙ c.if-no-ne0.false)).second)

pub normalize_joined-k-requires : goal.normalize_joined-k-requires
normalize_joined-k-requires c =
    let f = parts-fit c.args.flat.now c.args.more.now (ready _ _ _ _ _ _ _ c.room_for-room.ensures (sym c.extend_no-no.ensures ∙ c.if-no-ne0.false)) in
    record { more_in_bounds = f.0; more_len_bound = f.1 }

pub returns : goal.returns
returns c stroke list e l p q = let r = ready _ _ _ _ _ _ _ c.room_for-room.ensures (sym c.extend_no-no.ensures ∙ c.if-no-ne0.false) in over_done _ _ list stroke c.room_for-room.ensures e l _ _ (sym c.extend_no-no.ensures ∙ c.if-no-ne0.false) (p r.held r.first) (q r.second) c.normalize_joined-k.ensures (c.counted.ensures _ (front-within c.normalize_joined-k.ensures))
