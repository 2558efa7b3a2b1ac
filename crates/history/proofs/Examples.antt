-- Document 01's starred examples, all at once: antt computes them. Assumes nothing.
use mathlib.Core.Path.{refl}
use mathlib.Core.List.{flat_map}
use lib.Ieee.{span, climb, odd, units, of_fields, of_bits, to_bits, size}
use Rattle.base.specs.Checks.{first_of, refused_or}
use Rattle.base.specs.Lists as lists
use Rattle.color_doubles.specs.Finite.{unfit}
use Rattle.base.specs.Triples.{lab_at, rgb_at}
use Rattle.base.specs.Ints.{eq_z}
use Rattle.sheet.specs.Sheet.{view, stray}
use Rattle.sheet.specs.Checks.{limit_checks, permitted_checks, mark_checks, index_checks, lab_checks, sheet_checks}
use Rattle.edit.specs.Change.{unpacked, place, outside, painted, filled_in}
use Rattle.edit.specs.List.{empty_pixels, filled_list, painted_list}
use Rattle.edit.specs.Checks.{barred, pixel_checks, misdirected, remap_checks, named, left_from, head_checks, change_checks, left_checks, own_checks}
use Rattle.edit.specs.Storage as storage
use Rattle.edit.specs.Locks.{locks_done, locks_back, bears}
use Rattle.edit.specs.Apply.{filled_edit, filled_changes, restDone, redone, reverted, can_revert}
use Rattle.journal_record.specs.Bytes.{le, unle, le_at}
use Rattle.journal_record.specs.Record as record-forms
use Rattle.journal_read.specs.Sound.{undoable}
use Rattle.history_ledger.specs.Handle.{clauses, sound, saved_position}
use Rattle.history_ledger.specs.Calls.{play}
use Rattle.history_ledger.specs.Journal.{written, pushed, pushOf, stepOver, undoOf, mark_of}
use Rattle.history_model.specs.Editing.{too_long, undone_by}
use Rattle.history.specs.Examples.{Examples}

pub examples : Examples
unfolding flat_map span climb odd units of_fields of_bits to_bits size pixel_checks first_of refused_or lists.some unfit lab_at eq_z view stray limit_checks permitted_checks mark_checks index_checks lab_checks sheet_checks rgb_at unpacked place outside painted filled_in barred misdirected remap_checks named left_from head_checks change_checks left_checks own_checks storage.stored_by storage.closed_by storage.reinserted_by storage.lowered storage.raised locks_done locks_back bears filled_edit filled_list filled_changes painted_list restDone redone reverted can_revert le unle le_at record-forms.change_bytes record-forms.lab_bytes record-forms.list_bytes record-forms.body_of record-forms.record_length record-forms.record_of record-forms.rgb_in record-forms.double_in record-forms.lab_in record-forms.change_in record-forms.changes_in record-forms.by_kind record-forms.contents record-forms.closed record-forms.agreed record-forms.read_forth record-forms.of_length record-forms.read_back undoable clauses sound saved_position play written pushed pushOf stepOver undoOf mark_of empty_pixels too_long undone_by
examples =
    record {
      removed-done = refl;
      removed-indices = refl;
      undone-done = refl;
      undone-indices = refl;
      last_entry = refl;
      add-at-254 = refl;
      add-at-255 = refl;
      in-8 = refl;
      bytes_8 = refl;
      in-7 = refl;
      all_done = refl;
      no-mark = refl;
    }
