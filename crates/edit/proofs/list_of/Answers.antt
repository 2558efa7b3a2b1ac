-- `list_of`: by kinds. Assumes nothing.
use borrow.Author.Rules.{rules}
use Rattle.edit.proofs.list_of.Goals as goal

pub returns-in-PaletteRemove : goal.returns-in-PaletteRemove
returns-in-PaletteRemove c = rw c.in-PaletteRemove.is
