-- `finish`: refused, still, or recorded and done. Assumes nothing.
use mathlib.Core.Path.{◌≡◌, sym, ◌∙◌}
use mathlib.Core.List.{[]}
use native.Mathlib.Omega.{arith}
use Rattle.history_model.proofs.Answers.{leaves-refused, leaves-still}
use Rattle.edit.specs.List.{list_of, empty_pixels}
use Rattle.history_push.specs.Finish.{Finishes}
use Rattle.history_push.proofs.Pushed.{refused-push, still-push, done-push}
use Rattle.history_push.proofs.Finishing.{around-asks, offset-inside, finished-is}
use borrow.Author.Rules.{rules}
use Rattle.history_push.proofs.pushing.finish.Goals as goal
use Rattle.history_push.proofs.pushing.finish.Goals.{After-is_empty, Else-is_empty}

empty : (c : After-is_empty) → c.is_empty.result ≡ empty_pixels (list_of c.args.edit) c.args.n
empty c = c.is_empty.ensures ∙ rw c.list_of.ensures

-- past both tests what is asked is given
asks : (c : Else-is_empty) → let a = c.args in Finishes a.form a.k a.palette.now a.lab.now a.locks.now a.journal.now a.handle a.edit a.n
asks c = c.requires.0 c.if-no-ne0.false (sym (empty (goal.at.Else-is_empty c).After-is_empty) ∙ c.if-is_empty.false)

pub returns-then-no-ne0 : goal.returns-then-no-ne0
returns-then-no-ne0 c w h = leaves-refused _ _ _ _ _ _ _ _ _ _ _ c.refused.ensures ∙ refused-push _ _ _ _ c.if-no-ne0.true

pub returns-then-is_empty : goal.returns-then-is_empty
returns-then-is_empty c w h = leaves-still _ _ _ _ _ _ _ _ _ _ c.still.ensures ∙ still-push _ _ _ _ c.if-no-ne0.false (sym (empty (goal.at.returns-then-is_empty c).After-is_empty) ∙ c.if-is_empty.true)

pub fill_edit-filled-requires : goal.fill_edit-filled-requires
fill_edit-filled-requires c = let f = asks c in (f.entry-bytes, f.entry-numbers, f.entry-mark)

pub slice_bounds-write_around-count : goal.slice_bounds-write_around-count
slice_bounds-write_around-count c = omega (arith, (asks (goal.at.slice_bounds-write_around-count c).Else-is_empty).room)

pub slice_bounds-write_around-start : goal.slice_bounds-write_around-start
slice_bounds-write_around-start c = offset-inside _ _ _ _ _ _ _ _ _ (asks (goal.at.slice_bounds-write_around-start c).Else-is_empty)

pub write_around-requires : goal.write_around-requires
write_around-requires c =
    let r = around-asks _ _ _ _ _ _ _ _ _ (asks (goal.at.write_around-requires c).Else-is_empty) _ (c.fill_edit-filled.ensures 0 0 _ []) in
    record { n_in_bounds = r.0; n_bound = r.1.0; framed = r.1.1 }

pub redo_locks-requires : goal.redo_locks-requires
redo_locks-requires c = (asks (goal.at.redo_locks-requires c).Else-is_empty).marks

pub finish_edit-after-requires : goal.finish_edit-after-requires
finish_edit-after-requires c = record { finishable = (asks (goal.at.finish_edit-after-requires c).Else-is_empty).storage; curve_fits = c.requires.1 c.if-no-ne0.false }

pub record_length-requires : goal.record_length-requires
record_length-requires c = (asks (goal.at.record_length-requires c).Else-is_empty).short

pub after_push-requires : goal.after_push-requires
after_push-requires c = let f = asks (goal.at.after_push-requires c).Else-is_empty in record { n_bound = omega (arith, f.room, f.permitted, c.record_length.ensures); position_le_offset = f.before }

pub returns : goal.returns
returns c w h =
    done-push _ _ _ _ _ c.if-no-ne0.false (sym (empty (goal.at.returns c).After-is_empty) ∙ c.if-is_empty.false)
    (finished-is _ _ _ _ _ _ _ _ _ _ _ (c.finish_edit-after.ensures w h) c.redo_locks.ensures (c.fill_edit-filled.ensures w h _ _) c.write_around.ensures c.record_length.ensures c.after_push.ensures)
