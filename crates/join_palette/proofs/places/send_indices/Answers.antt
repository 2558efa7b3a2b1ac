-- `send_indices`: the table is filled, and no index is looked up that it has not. Assumes nothing.
use Rattle.sheet.specs.Sheet.{stray}
use Rattle.sheet.proofs.Strays.{stray-more}
use Rattle.join_model.proofs.Shown.{map-but}
use mathlib.Core.Path.{◌∙◌}
use borrow.Author.Rules.{rules}
use Rattle.join_palette.proofs.places.send_indices.Goals as goal

pub move_indices-requires : goal.move_indices-requires
move_indices-requires c = (stray-more _ 255 _ c.requires.2 c.requires.4, search rules)

pub returns : goal.returns
returns c = c.move_indices.ensures ∙ map-but (stray c.args.k) _ _ c.fill_places.ensures.moves _ c.requires.4
