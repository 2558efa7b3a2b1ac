-- `land`: the two axes, then the rows. Assumes nothing.
use mir.Facts.{to_z-of_z}
use mathlib.Core.Path.{◌≡◌}
use Rattle.tool_paste_model.specs.Blocks.{landing}
use Rattle.tool_paste_model.proofs.Landings.{offset_of}
use Rattle.tool_paste_model.proofs.Placing.{land-rows, land-painted}
use borrow.Author.Rules.{rules}
use Rattle.tool_block.proofs.land.Goals as goal
use Rattle.tool_block.proofs.land.Goals.{After-landing_on-x, After-landing_on-y}

across : (c : After-landing_on-x) → c.landing_on-x.result ≡ landing c.args.s.x c.args.s.w (offset_of c.args.dx) c.args.w
across c = rw (to_z-of_z c.ranges.dx) at c.landing_on-x.ensures

down : (c : After-landing_on-y) → c.landing_on-y.result ≡ landing c.args.s.y c.args.s.h (offset_of c.args.dy) c.args.h
down c = rw (to_z-of_z c.ranges.dy) at c.landing_on-y.ensures

pub write_rows-requires : goal.write_rows-requires
write_rows-requires c = land-rows c.requires (across (goal.at.write_rows-requires c).After-landing_on-x) (down (goal.at.write_rows-requires c).After-landing_on-y)

pub returns : goal.returns
returns c = λ p l. land-painted c.requires (across (goal.at.returns c).After-landing_on-x) (down (goal.at.returns c).After-landing_on-y) _ _ _ (c.write_rows.ensures p) l
