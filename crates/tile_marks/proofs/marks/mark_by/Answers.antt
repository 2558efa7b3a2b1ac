-- `mark_by`: class and mark are the two parts of a number. Assumes nothing.
use native.Mathlib.Omega.{arith}
use Rattle.tile_marks.specs.Marks.{mark_by, marked_by}
use borrow.Author.Rules.{rules}
use Rattle.tile_marks.proofs.marks.mark_by.Goals as goal

pub place_of-q-requires : goal.place_of-q-requires
place_of-q-requires c = omega (arith, c.requires.by_index c.args.i c.requires.i_in_bounds.0)

pub returns : goal.returns
unfolding marked_by mark_by
returns c = rw (c.one-several.ensures.0, c.is_elsewhere.ensures, c.place_of-q.ensures)
