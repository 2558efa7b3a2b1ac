-- `is_empty`: by kinds of list. Assumes nothing.
use Rattle.edit.specs.List.{empty_pixels}
use borrow.Author.Rules.{rules}
use Rattle.edit.proofs.is_empty.Goals as goal

pub returns-in-NoList : goal.returns-in-NoList
unfolding empty_pixels
returns-in-NoList c = rw c.in-NoList.is

pub returns-in-PixelList : goal.returns-in-PixelList
unfolding empty_pixels
returns-in-PixelList c = rw c.in-PixelList.is

pub returns-in-RemapList : goal.returns-in-RemapList
unfolding empty_pixels
returns-in-RemapList c = rw c.in-RemapList.is
