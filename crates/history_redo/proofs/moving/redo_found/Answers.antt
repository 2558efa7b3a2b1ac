-- `redo_found`: the record that was found, or none. Assumes nothing.
use mathlib.Core.Path.{sym, ◌∙◌}
use Rattle.history_model.proofs.Over.{step-none}
use Rattle.history_model.proofs.Answers.{leaves-refused}
use Rattle.history_redo.proofs.Forth.{forth}
use borrow.Author.Rules.{rules}
use Rattle.history_redo.proofs.moving.redo_found.Goals as goal

pub redo_at-requires : goal.redo_at-requires
redo_at-requires c = record { standing = c.requires.standing; position_lt_count = c.requires.position_lt_count; journal_value = sym c.requires.found_value ∙ c.in-Record.is }

pub returns-in-Record : goal.returns-in-Record
returns-in-Record c = c.redo_at.ensures

pub returns-in-Unsound : goal.returns-in-Unsound
returns-in-Unsound c = leaves-refused _ _ _ _ _ _ _ _ _ _ _ c.refused.ensures ∙ step-none (forth _ _ c.requires.standing) (sym c.requires.found_value ∙ c.in-Unsound.is)
