-- `list_paste`: the rows that the clip lands on laid out and painted; then what differs. Assumes nothing.
use mathlib.Core.Path.{◌≡◌}
use mir.Facts.{to_z-of_z}
use Rattle.selection.specs.Selection.{all}
use Rattle.base.proofs.Back.{by_value}
use Rattle.tool_paste_model.specs.Blocks.{landing}
use Rattle.tool_paste_model.proofs.Landings.{offset_of}
use Rattle.tool_paste_model.proofs.Pasting.{clip-lands, paste-rows, paste-front}
use borrow.Author.Rules.{rules}
use Rattle.tool_paste.proofs.list_paste.Goals as goal
use Rattle.tool_paste.proofs.list_paste.Goals.{After-landing_on}

-- where the clip's rows land
lands : (c : After-landing_on) → let a = c.args in c.landing_on.result ≡ landing 0 a.clip_h (offset_of a.y) a.h
lands c = let a = c.args in by_value (λ z. landing 0 a.clip_h (offset_of z) a.h) c.ranges.y c.landing_on.ensures

pub lay_rows-requires : goal.lay_rows-requires
lay_rows-requires c = paste-rows c.requires (lands (goal.at.lay_rows-requires c).After-landing_on) c.landed_rows-rows.ensures (search rules)

pub land-requires : goal.land-requires
unfolding all
land-requires c =
    rw (to_z-of_z c.ranges.x, to_z-of_z c.ranges.y) (clip-lands c.requires (search rules))

pub differences-requires : goal.differences-requires
differences-requires c =
    paste-rows c.requires (lands (goal.at.differences-requires c).After-landing_on) c.landed_rows-rows.ensures (search rules)

pub returns : goal.returns
unfolding all
returns c =
    let is = rw (to_z-of_z c.ranges.x, to_z-of_z c.ranges.y) at c.land.ensures in
    paste-front c.requires (lands (goal.at.returns c).After-landing_on) c.landed_rows-rows.ensures _ _ _ c.lay_rows.ensures is c.differences.ensures
