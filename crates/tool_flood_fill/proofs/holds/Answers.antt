-- `holds`: by what `contains_i` answers. Assumes nothing.
use mir.Facts.{to_z-of_z}
use Rattle.tool_fill_model.proofs.Points.{by-inside, by-outside, by-refused}
use borrow.Author.Rules.{rules}
use Rattle.tool_flood_fill.proofs.holds.Goals as goal

pub returns-in-Inside : goal.returns-in-Inside
returns-in-Inside c = by-inside _ _ _ c.requires.0 c.requires.1 (rw (to_z-of_z c.ranges.x, to_z-of_z c.ranges.y) at c.contains_i.ensures) c.in-Inside.is

pub returns-in-Outside : goal.returns-in-Outside
returns-in-Outside c = by-outside _ _ _ c.requires.0 c.requires.1 (rw (to_z-of_z c.ranges.x, to_z-of_z c.ranges.y) at c.contains_i.ensures) c.in-Outside.is

pub returns-in-Refused : goal.returns-in-Refused
returns-in-Refused c = by-refused _ _ _ c.requires.0 c.requires.1 (rw (to_z-of_z c.ranges.x, to_z-of_z c.ranges.y) at c.contains_i.ensures) c.in-Refused.is
