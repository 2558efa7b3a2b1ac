-- `check_one`: by kinds of list. Assumes nothing.
use mathlib.Core.Path.{refl}
use Rattle.base.specs.Checks.{first_of}
use Rattle.edit.specs.Checks.{change_checks}
use Rattle.edit_checks.specs.Marks.{Markable}
use Rattle.struct_edit.specs.Walk.{mark_one}
use Rattle.struct_edit.proofs.check_one.Goals as goal

pub mark_move-requires : goal.mark_move-requires
unfolding Markable
mark_move-requires c = let p = c.requires in let m = rw c.in-RemapList.is at p.markable in (m.0, p.pixels, m.1)

pub returns-in-NoList : goal.returns-in-NoList
unfolding change_checks mark_one first_of
returns-in-NoList c = let e = c.in-NoList.is in (rw e refl, rw e refl)
