-- `check_list_in`: by kinds of list. Assumes nothing.
use mathlib.Core.Path.{sym}
use Rattle.edit.specs.Checks.{change_checks}
use Rattle.edit_checks.specs.Marks.{Markable, ClearFor, MarksFor}
use Rattle.edit_list.proofs.NoChecks.{no-checks}
use Rattle.journal_read.proofs.list.check_list_in.Goals as goal

pub mark_remap_in-requires : goal.mark_remap_in-requires
unfolding Markable
mark_remap_in-requires c =
    let p = c.requires in
    let m = rw c.in-RemapList.is at p.checkable.markable in
    (m.0, p.checkable.pixels, m.1, p.n_in_bounds)

pub returns-in-NoList : goal.returns-in-NoList
unfolding change_checks MarksFor
returns-in-NoList c = (rw c.in-NoList.is (sym (no-checks _)), λ _ _. rw c.in-NoList.is tt)

pub returns-in-PixelList : goal.returns-in-PixelList
unfolding change_checks MarksFor
returns-in-PixelList c = let e = c.in-PixelList.is in (rw e (c.pixels_no_in.ensures _), λ _ _. rw e tt)

pub returns-in-RemapList : goal.returns-in-RemapList
unfolding change_checks ClearFor MarksFor
returns-in-RemapList c =
    let e = c.in-RemapList.is in
    let called = c.mark_remap_in.ensures in
    (rw e called.0, λ z clear. rw e (called.1 z (rw e at clear)))
