-- `pasted_selection`: each axis, as `from_corners` has it. Assumes nothing.
use mathlib.Core.Path.{◌≡◌}
use mir.Facts.{to_z-of_z}
use Rattle.tool_paste_model.specs.Blocks.{landing}
use Rattle.tool_paste_model.proofs.Landings.{offset_of}
use Rattle.tool_paste_model.proofs.Spans.{placed-is, placed-fits}
use borrow.Author.Rules.{rules}
use Rattle.tool_paste.proofs.pasted_selection.Goals as goal
use Rattle.tool_paste.proofs.pasted_selection.Goals.{After-landing_on, After-landing_on-2}

across : (c : After-landing_on) → c.landing_on.result ≡ landing 0 c.args.clip_w (offset_of c.args.x) c.args.w
across c = rw (to_z-of_z c.ranges.x) at c.landing_on.ensures

down : (c : After-landing_on-2) → c.landing_on-2.result ≡ landing 0 c.args.clip_h (offset_of c.args.y) c.args.h
down c = rw (to_z-of_z c.ranges.y) at c.landing_on-2.ensures

pub placed-requires : goal.placed-requires
placed-requires c = placed-fits _ _ _ _ _ _ c.requires.0 c.requires.1 (across (goal.at.placed-requires c).After-landing_on) (down c) c.requires.4 c.requires.5

pub returns : goal.returns
returns c = placed-is _ _ _ _ _ _ c.requires.0 c.requires.1 (across (goal.at.returns c).After-landing_on) (down (goal.at.returns c).After-landing_on-2) c.placed.ensures
