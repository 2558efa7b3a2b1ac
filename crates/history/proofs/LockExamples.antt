-- Document 02's locks in examples, all at once: antt computes them. Assumes nothing.
use mathlib.Core.Path.{refl}
use mathlib.Core.List.{flat_map}
use Rattle.base.specs.Checks.{first_of, refused_or}
use Rattle.base.specs.Lists as lists
use Rattle.color_doubles.specs.Finite.{unfit}
use Rattle.sheet.specs.Sheet.{view, stray}
use Rattle.sheet.specs.Checks.{limit_checks, permitted_checks, mark_checks, index_checks, lab_checks, sheet_checks}
use Rattle.edit.specs.List.{empty_pixels, filled_list, painted_list}
use Rattle.edit.specs.Checks.{barred, head_checks, left_checks, own_checks}
use Rattle.edit.specs.Storage as storage
use Rattle.edit.specs.Locks.{locks_done, locks_back, bears}
use Rattle.edit.specs.Apply.{filled_edit, filled_changes, restDone, redone, reverted, can_revert}
use Rattle.journal_record.specs.Bytes.{le, unle, le_at}
use Rattle.journal_record.specs.Record as record-forms
use Rattle.journal_read.specs.Sound.{undoable}
use Rattle.history_ledger.specs.Handle.{clauses, sound}
use Rattle.history_ledger.specs.Calls.{play}
use Rattle.history_ledger.specs.Journal.{written, pushed, pushOf, stepOver, undoOf}
use Rattle.history_model.specs.Editing.{too_long, undone_by}
use Rattle.history.specs.LockExamples.{LockExamples}

pub lock-examples : LockExamples
unfolding first_of refused_or lists.some unfit view stray limit_checks permitted_checks mark_checks index_checks lab_checks sheet_checks barred head_checks own_checks storage.stored_by locks_done locks_back bears filled_edit filled_list filled_changes restDone redone can_revert le unle le_at record-forms.body_of record-forms.record_length record-forms.record_of record-forms.by_kind record-forms.contents record-forms.closed record-forms.agreed record-forms.read_forth record-forms.of_length record-forms.read_back undoable clauses sound play written pushed pushOf stepOver undoOf empty_pixels too_long undone_by flat_map left_checks painted_list reverted
lock-examples =
    record {
      lock-done = refl;
      lock-bytes = refl;
      lock-marks = refl;
      lock-in-7 = refl;
      lock-past = refl;
      again-done = refl;
      again-bytes = refl;
      lock-and-undo = refl;
    }
