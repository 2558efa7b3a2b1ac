-- `stamp_run`: the numbers of both ends fit, and are the definition's. Assumes nothing.
use mathlib.Core.Path.{◌∙◌}
use Rattle.tool_stamp.proofs.Stamps.{sub-fits, add-fits, run-clipped}
use borrow.Author.Rules.{rules}
use Rattle.tool_stamp.proofs.stamp.stamp_run.Goals as goal

pub overflow_sub-first-2 : goal.overflow_sub-first-2
overflow_sub-first-2 c = sub-fits c.requires.0 _ c.requires.1

pub overflow_add-first : goal.overflow_add-first
overflow_add-first c = add-fits c.requires.0 _ c.requires.1

pub returns : goal.returns
returns c = c.clip.ensures ∙ run-clipped c.requires.0 _ c.requires.1 _ _
