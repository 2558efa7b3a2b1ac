-- `flood_all`: the marks, and what they give. Assumes nothing.
use mathlib.Core.Path.{◌≡◌, ◌∙◌}
use lib.IntN.{pos}
use lib.ListN.{get_or}
use mir.Syntax.{w16}
use mir.Facts.{to_z-of_z}
use Rattle.base.proofs.Back.{back}
use Rattle.tool_fill_model.specs.Cells.{pair_of}
use Rattle.tool_fill_model.proofs.Flooded.{is-flood}
use borrow.Author.Rules.{rules}
use Rattle.tool_flood.proofs.flood.flood_all.Goals as goal

pub returns : goal.returns
returns c =
    let s = c.args in
    let e : c.pair_of-pair.result ≡ pair_of (get_or s.indices.now s.start (pos 0)) s.index =
    rw (back w16 (get_or s.indices.now s.start (pos 0)) (search rules), to_z-of_z c.ranges.index) at c.pair_of-pair.ensures.0 in
    rw (← is-flood _ _ _ _ _ _ _ (c.reach.auto.s ∙ c.requires.cells) c.reach.ensures e) c.emit.ensures
