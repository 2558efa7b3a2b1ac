-- `undo_found`: the record that was found, or none. Assumes nothing.
use mathlib.Core.Path.{sym, ◌∙◌}
use Rattle.history_model.proofs.Over.{step-none}
use Rattle.history_model.proofs.Answers.{leaves-refused}
use Rattle.history_undo.proofs.Back.{back}
use borrow.Author.Rules.{rules}
use Rattle.history_undo.proofs.moving.undo_found.Goals as goal

pub undo_at-requires : goal.undo_at-requires
undo_at-requires c = record { standing = c.requires.standing; position_nonzero = c.requires.position_nonzero; journal_value = sym c.requires.found_value ∙ c.in-Record.is }

pub returns-in-Record : goal.returns-in-Record
returns-in-Record c = c.undo_at.ensures

pub returns-in-Unsound : goal.returns-in-Unsound
returns-in-Unsound c = leaves-refused _ _ _ _ _ _ _ _ _ _ _ c.refused.ensures ∙ step-none (back _ c.requires.standing) (sym c.requires.found_value ∙ c.in-Unsound.is)
