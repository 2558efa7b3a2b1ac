-- `left_no`: by kinds of list. Assumes nothing.
use Rattle.base.specs.Checks.{first_of}
use Rattle.edit.specs.Checks.{left_checks}
use Rattle.edit_checks.specs.Marks.{MarksFor}
use borrow.Author.Rules.{rules}
use Rattle.edit_checks.proofs.marks.left_no.Goals as goal

pub returns-in-NoList : goal.returns-in-NoList
unfolding left_checks first_of
returns-in-NoList c = search rules

pub returns-then-any_left : goal.returns-then-any_left
unfolding left_checks first_of MarksFor
returns-then-any_left c cs m = let e = c.in-RemapList.is in rw (e, ← c.any_left.ensures cs (rw c.requires.pixels (rw e at m)), c.if-any_left.true)

pub returns-else-any_left : goal.returns-else-any_left
unfolding left_checks first_of MarksFor
returns-else-any_left c cs m = let e = c.in-RemapList.is in rw (e, ← c.any_left.ensures cs (rw c.requires.pixels (rw e at m)), c.if-any_left.false)
