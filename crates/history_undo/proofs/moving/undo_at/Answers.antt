-- `undo_at`: the handle after the step, then the record; then it is undone. Assumes nothing.
use mathlib.Core.Path.{sym, ◌∙◌}
use borrow.Author.Tests.{not-true, not-false}
use Rattle.history_model.proofs.Over.{step-lies, step-unsound}
use Rattle.history_model.proofs.Answers.{leaves-refused}
use Rattle.history_undo.proofs.Back.{back_inside, back, kept-fits, kept-undoable, back-not, back_done}
use borrow.Author.Rules.{rules}
use Rattle.history_undo.proofs.moving.undo_at.Goals as goal

pub stepped_back-next-requires : goal.stepped_back-next-requires
stepped_back-next-requires c = record { n_le_offset = back_inside _ c.requires.standing _ _ _ _ c.requires.journal_value; position_nonzero = c.requires.position_nonzero }

pub returns-then-not-sound : goal.returns-then-not-sound
returns-then-not-sound c = leaves-refused _ _ _ _ _ _ _ _ _ _ _ c.refused.ensures ∙ step-unsound (back _ c.requires.standing) c.requires.journal_value _ c.stepped_back-next.ensures (sym c.sound.ensures ∙ c.if-not-sound.true)

pub can_undo-requires : goal.can_undo-requires
can_undo-requires c = record { lies = step-lies (back _ c.requires.standing) c.requires.journal_value; well_formed = c.requires.standing.fits; locks_len = c.requires.standing.marks }

pub returns-then-not-can_undo : goal.returns-then-not-can_undo
returns-then-not-can_undo c = leaves-refused _ _ _ _ _ _ _ _ _ _ _ c.refused-then-not-can_undo.ensures ∙ back-not _ c.requires.standing _ c.can_undo.ensures.indices_unchanged _ _ _ _ c.requires.journal_value (sym c.can_undo.ensures.result_value ∙ c.if-not-can_undo.true)

pub undo_record-k-requires : goal.undo_record-k-requires
undo_record-k-requires c = record {
  lies = step-lies (back _ c.requires.standing) c.requires.journal_value;
  well_formed = (kept-fits c.args.form c.requires.standing _ c.can_undo.ensures.indices_unchanged, c.requires.standing.marks);
  count_value = kept-undoable _ c.requires.standing _ c.can_undo.ensures.indices_unchanged _ _ _ (sym c.can_undo.ensures.result_value ∙ c.if-not-can_undo.false);
}

pub returns : goal.returns
returns c = back_done _ c.requires.standing _ c.can_undo.ensures.indices_unchanged _ _ _ _ c.requires.journal_value _ c.stepped_back-next.ensures (sym c.sound.ensures ∙ c.if-not-sound.false) (sym c.can_undo.ensures.result_value ∙ c.if-not-can_undo.false) c.undo_record-k.ensures.indices_after c.undo_record-k.ensures.locks_after
