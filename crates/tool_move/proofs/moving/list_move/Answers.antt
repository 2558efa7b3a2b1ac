-- `list_move`: its rows laid out, cleared, painted; then what differs. Assumes nothing.
use mir.Facts.{to_z-of_z}
use Rattle.tool_paste_model.specs.Blocks.{landing}
use Rattle.tool_paste_model.proofs.Landings.{offset_of}
use Rattle.tool_paste_model.specs.Moves.{MoveRows}
use Rattle.tool_paste_model.proofs.MovePlacing.{clear-fits, lands-again, move-has-rows, move-front}
use borrow.Author.Rules.{rules}
use Rattle.tool_move.proofs.moving.list_move.Goals as goal
use Rattle.tool_move.proofs.moving.list_move.Goals.{After-move_rows-rows}

-- the rows that it can change
rows : (c : After-move_rows-rows) → let a = c.args in
    MoveRows a.h a.s (landing a.s.y a.s.h (offset_of a.dy) a.h) c.move_rows-rows.result
rows c = rw (to_z-of_z c.ranges.dy) at c.move_rows-rows.ensures

pub lay_rows-requires : goal.lay_rows-requires
lay_rows-requires c = move-has-rows c.requires (rows (goal.at.lay_rows-requires c).After-move_rows-rows) (search rules)

pub clear_rows-requires : goal.clear_rows-requires
clear_rows-requires c = clear-fits c.requires (search rules)

pub land-requires : goal.land-requires
land-requires c =
    rw (to_z-of_z c.ranges.dx, to_z-of_z c.ranges.dy) (lands-again c.requires (search rules))

pub differences-requires : goal.differences-requires
differences-requires c =
    move-has-rows c.requires (rows (goal.at.differences-requires c).After-move_rows-rows) (search rules)

pub returns : goal.returns
returns c =
    let is = rw (to_z-of_z c.ranges.dx, to_z-of_z c.ranges.dy) at c.land.ensures in
    move-front c.requires (rows (goal.at.returns c).After-move_rows-rows) _ _ _ c.lay_rows.ensures c.clear_rows.ensures is c.differences.ensures
