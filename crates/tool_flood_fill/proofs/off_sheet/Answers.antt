-- `off_sheet`: by what `region` answers. Assumes nothing.
use Rattle.tool_fill_model.proofs.Regions.{by_part, by-nothing, by-refused}
use borrow.Author.Rules.{rules}
use Rattle.tool_flood_fill.proofs.off_sheet.Goals as goal

pub returns-in-Part : goal.returns-in-Part
returns-in-Part c = by_part _ _ _ c.requires.0 c.requires.1 c.region.ensures c.in-Part.is

pub returns-in-Nothing : goal.returns-in-Nothing
returns-in-Nothing c = by-nothing _ _ _ c.requires.0 c.requires.1 c.region.ensures c.in-Nothing.is

pub returns-in-Refused : goal.returns-in-Refused
returns-in-Refused c = by-refused _ _ _ c.requires.0 c.requires.1 c.region.ensures c.in-Refused.is
