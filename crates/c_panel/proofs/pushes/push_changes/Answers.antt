-- `push_changes`: the list read, then the core's push. Assumes nothing.
use mathlib.Core.Path.{◌∙◌}
use Rattle.c_panel.proofs.Limits.{changes-are}
use Rattle.c_panel.proofs.pushes.push_changes.Goals as goal

pub returns : goal.returns
returns c = c.push_fit.ensures ∙ changes-are _ _ _ _ _ c.take_list.ensures c.requires.1
