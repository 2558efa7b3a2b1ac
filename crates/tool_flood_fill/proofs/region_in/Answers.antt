-- `region_in`: by the two cases. Assumes nothing.
use Rattle.selection.specs.Selection.{all}
use Rattle.selection.specs.Region.{region_in}
use borrow.Author.Rules.{rules}
use Rattle.tool_flood_fill.proofs.region_in.Goals as goal

pub returns-in-Whole : goal.returns-in-Whole
unfolding region_in all
returns-in-Whole c = rw c.in-Whole.is

pub returns-in-Part : goal.returns-in-Part
unfolding region_in
returns-in-Part c = rw c.in-Part.is
