-- `merge_entries`: 1 to 3, 18, 24, then the remap. Assumes nothing.
use mathlib.Core.Path.{◌∙◌}
use native.Mathlib.Omega.{arith}
use Rattle.base.proofs.First.{no_zero}
use Rattle.sheet.specs.Sheet.{sheet_of}
use Rattle.sheet.specs.Checks.{Marked}
use Rattle.palette_model.specs.Removal.{merge_entries_of}
use Rattle.palette_model.proofs.RemoveAnswers.{remove-refused, remove-past, merge-sheet, merge-from, merge_into, merge-same, merge-locked, merge-fine}
use Rattle.palette_remove.proofs.remap.merge_entries.Goals as goal
use Rattle.palette_remove.proofs.remap.merge_entries.Goals.{Else-no-ne0}

-- past the first test the sheet is well-formed, and there are 255 marks
past : (c : Else-no-ne0) → let a = c.args in Marked (sheet_of a.w a.h a.k a.palette.now a.lab.now a.indices.now) a.locks.now
past c = c.check_marked-no.ensures.fine c.if-no-ne0.false

pub returns-then-no-ne0 : goal.returns-then-no-ne0
unfolding merge_entries_of
returns-then-no-ne0 c = remove-refused _ _ _ _ _ _ _ _ _ (merge-sheet _ _ _ _ _ c.check_marked-no.ensures c.if-no-ne0.true) c.if-no-ne0.true

pub returns-then-k-from : goal.returns-then-k-from
unfolding merge_entries_of
returns-then-k-from c = remove-refused _ _ _ _ _ _ _ _ _ (merge-from _ _ _ _ _ c.check_marked-no.ensures c.if-no-ne0.false c.if-k-from.true) (no_zero (omega arith))

pub returns-then-k-into : goal.returns-then-k-into
unfolding merge_entries_of
returns-then-k-into c = remove-refused _ _ _ _ _ _ _ _ _ (merge_into _ _ _ _ _ c.check_marked-no.ensures c.if-no-ne0.false c.if-k-into.true) (no_zero (omega arith))

pub returns-then-from-into : goal.returns-then-from-into
unfolding merge_entries_of
returns-then-from-into c = remove-refused _ _ _ _ _ _ _ _ _ (merge-same _ _ _ _ _ c.check_marked-no.ensures c.if-no-ne0.false c.if-from-into.true) (no_zero (omega arith))

pub bounds-locks-from : goal.bounds-locks-from
bounds-locks-from c = let m = past (goal.at.bounds-locks-from c).Else-no-ne0 in omega (arith, m.marks, m.formed.limits.k-small)

pub returns-then-locks-from : goal.returns-then-locks-from
unfolding merge_entries_of
returns-then-locks-from c =
    remove-refused _ _ _ _ _ _ _ _ _
    (merge-locked _ _ _ _ _ c.check_marked-no.ensures c.if-no-ne0.false c.if-k-from.false c.if-k-into.false c.if-from-into.false c.if-locks-from.true)
    (no_zero (omega arith))

pub remove_to-requires : goal.remove_to-requires
remove_to-requires c = let l = (past (goal.at.remove_to-requires c).Else-no-ne0).formed.limits in (l.w-small, l.h-small, l.indices-length, l.palette-length, omega arith, omega arith)

pub returns : goal.returns
unfolding merge_entries_of
returns c =
    c.remove_to.ensures
    ∙ remove-past _ _ _ _ _ _ _ _
    (merge-fine _ _ _ _ _ c.check_marked-no.ensures c.if-no-ne0.false c.if-k-from.false c.if-k-into.false c.if-from-into.false c.if-locks-from.false)
