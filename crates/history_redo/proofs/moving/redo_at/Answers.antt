-- `redo_at`: the handle after the step, then push's checks; then the record is redone. Assumes nothing.
use mathlib.Core.Path.{sym, ◌∙◌}
use borrow.Author.Tests.{not-true, not-false}
use Rattle.base.specs.declared.Lab.{Lab}
use Rattle.base.specs.declared.Rgb.{Rgb}
use Rattle.color_curve.specs.Curve.{curve_of, lab_by}
use Rattle.journal_redo.proofs.RedoneAt.{may-redo}
use Rattle.history_model.proofs.Over.{step-lies, step-unsound, step-not, step-done}
use Rattle.history_model.proofs.Answers.{leaves-refused}
use Rattle.history_redo.proofs.Forth.{forth-inside, forth, forth-makes}
use borrow.Author.Rules.{rules}
use Rattle.history_redo.proofs.moving.redo_at.Goals as goal
use Rattle.history_redo.proofs.moving.redo_at.Goals.{Start}

-- the LAB of a colour in this session
abbrev curve : Start → Rgb → Lab
curve c = lab_by (curve_of c.args.loaded c.args.curve.now)

pub stepped_forth-next-requires : goal.stepped_forth-next-requires
stepped_forth-next-requires c = record { n_bound = forth-inside _ (curve (goal.at.stepped_forth-next-requires c).Start) c.requires.standing _ _ _ _ c.requires.journal_value; position_lt_count = c.requires.position_lt_count.0 }

pub returns-then-not-sound : goal.returns-then-not-sound
returns-then-not-sound c =
    leaves-refused _ _ _ _ _ _ _ _ _ _ _ c.refused.ensures
    ∙ step-unsound (forth _ _ c.requires.standing) c.requires.journal_value _ c.stepped_forth-next.ensures (sym c.sound.ensures ∙ c.if-not-sound.true)

pub can_redo-requires : goal.can_redo-requires
can_redo-requires c =
    let p = c.requires in
    let l = p.standing.fits.limits in
    record {
      lies = step-lies (forth _ (curve (goal.at.can_redo-requires c).Start) p.standing) p.journal_value;
      k_bound = (l.k-small, l.palette-length, p.standing.marks);
      indices_len = (l.indices-length, rw l.indices-length at p.position_lt_count.1);
    }

pub returns-then-not-can_redo : goal.returns-then-not-can_redo
returns-then-not-can_redo c =
    leaves-refused _ _ _ _ _ _ _ _ _ _ _ c.refused-then-not-can_redo.ensures
    ∙ step-not (forth _ _ c.requires.standing) c.requires.journal_value (sym (c.can_redo.ensures _) ∙ c.if-not-can_redo.true)

pub redo_record-k-requires : goal.redo_record-k-requires
redo_record-k-requires c =
    record {
      lies = step-lies (forth _ (curve (goal.at.redo_record-k-requires c).Start) c.requires.standing) c.requires.journal_value;
      redoable = may-redo _ c.args.h _ _ _ _ _ _ _ c.requires.standing.fits (sym (c.can_redo.ensures _) ∙ c.if-not-can_redo.false);
      locks_len = (c.requires.standing.marks, c.requires.position_lt_count.2);
    }

pub returns : goal.returns
returns c =
    step-done (forth _ _ c.requires.standing) c.requires.journal_value _ c.stepped_forth-next.ensures (sym c.sound.ensures ∙ c.if-not-sound.false)
    (sym (c.can_redo.ensures _) ∙ c.if-not-can_redo.false) (forth-makes c.args.form _ c.requires.standing _ _ (c.redo_record-k.ensures.by_index _) c.redo_record-k.ensures.locks_after)
