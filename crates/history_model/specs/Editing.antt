-- Document 01's sheet, edits and records, with document 02's lock marks, as the algebra that `history_ledger` speaks of: its functions are those that the contracts of this crate's calls name.
-- Definitions only. Assumes nothing.
use Rattle.std.specs.Prelude.{◌≡◌, Bool, false, not, cond, List, [], ◌∷◌, map, ℕ, ◌*◌, ltb, leb, eqb, Float, length}
use Rattle.std.proofs.Math.Option.{Option, none, some}
use Rattle.std.specs.Float.{binary64}
use Rattle.std.specs.Float.Ieee.{fits}
use Rattle.base.specs.Limits.{max_side, max_entries, max_changes}
use Rattle.base.specs.Numbers.{bad_sheet, stray_index, unfit_lab}
use Rattle.base.specs.Checks.{Check, ◌when◌, first_of}
use Rattle.base.specs.declared.Form.{Form}
use Rattle.base.specs.declared.Form.TheVariants.{Coordinates}
use Rattle.base.specs.declared.Rgb.{Rgb}
use Rattle.base.specs.declared.Lab.{Lab}
use Rattle.base.specs.Lists as lists
use Rattle.color_doubles.specs.Finite.{unfit}
use Rattle.color_curve.specs.Curve.{Curve, srgb, lab_by, curve_checks}
use Rattle.sheet.specs.Sheet.{Sheet, Picture, stray}
use Rattle.sheet.specs.Checks.{permitted_checks}
use Rattle.base.specs.declared.Edit.{Edit}
use Rattle.edit.specs.Change.{Change, unpacked}
use Rattle.edit.specs.Checks.{Permitted, permitted_of, own_checks, as_sheet}
use Rattle.edit.specs.Accepted.{NewBytes}
use Rattle.edit.specs.List.{list_of, empty_pixels}
use Rattle.edit.specs.Apply.{filled_edit, filled_changes}
use Rattle.journal_write.specs.Fit.{FitChanges}
use Rattle.journal_record.specs.Record as records
use Rattle.journal_record.specs.Record.{record_length, record_of, read_forth, read_back}
use Rattle.journal_read.specs.Sound.{undoable, redoable}
use Rattle.history_ledger.specs.Algebra.{Algebra, Taken}
use Rattle.history_model.specs.Document.{Document, Shown, shown, document_checks, document_done, document_back, next_shown}

-- ---- what a push is given: "edit, permitted colours", the edit beside its list
pub record Given : Type 0 where
  pub permitted : Permitted
  pub edit : Edit
  pub changes : List Change

abbrev pub given_of : Bool → List ℕ → Edit → List ℕ → Given
given_of limited permitted edit list = record { permitted = permitted_of limited permitted; edit = edit; changes = map unpacked list }

-- ---- numbers in the range of their types: bytes and doubles of 64 bits in storage, bytes in a new colour, 16 bits in a change
pub record TypedSheet (s : Sheet) : Type 0 where
  pub palette : lists.some (leb 256) s.palette ≡ false
  pub lab : lists.some (λ (v : Float). not (fits binary64 v)) s.lab ≡ false

pub record TypedGiven (g : Given) : Type 0 where
  pub new-bytes : NewBytes g.edit
  pub changes-fit : FitChanges g.changes

-- ---- 1 to 3 of a picture, as the ledger has them: "A sheet is well-formed where none of 1 to 3 applies"
unfoldable pub picture_checks : Picture → List Check
picture_checks p =
    bad_sheet when ltb max_side p.w
    ∷ bad_sheet when ltb max_side p.h
    ∷ bad_sheet when ltb max_entries p.k
    ∷ bad_sheet when not (eqb (length p.colours) (3 * p.k))
    ∷ bad_sheet when not (eqb (length p.labs) (3 * p.k))
    ∷ bad_sheet when not (eqb (length p.indices) (p.w * p.h))
    ∷ stray_index when lists.some (stray p.k) p.indices
    ∷ unfit_lab when lists.some unfit p.labs
    ∷ []

-- with a mark for each of its entries
unfoldable pub shown_checks : Shown → List Check
shown_checks p = bad_sheet when not (eqb (length p.locks) p.picture.k) ∷ picture_checks p.picture

-- 21: "list too long: over the limit"
unfoldable pub too_long : List Change → Bool
too_long cs = ltb max_changes (length cs)

-- ---- a record that was read, where undo or redo takes it: its length, and sheet and marks on its other side
abbrev pub taken : Bool → ℕ → Document → Option (Taken Document)
taken ok n d = cond ok (some (record { length = n; sheet = d })) none

unfoldable pub undone_by : Document → records.Reading → Option (Taken Document)
undone_by d none = none
undone_by d (some r) = taken (undoable d.sheet d.locks r.1 r.2) r.0 (document_back d r.1 r.2)

unfoldable pub redone_by : (Rgb → Lab) → Document → records.Reading → Option (Taken Document)
redone_by curve d none = none
redone_by curve d (some r) = taken (redoable d.sheet d.locks r.1 r.2) r.0 (document_done curve d r.1 r.2)

-- in the form of a history, and with the curve of a session for the LAB of a colour: document 02, E9, "A history is in one form throughout"; E6, "In a loaded
-- session every call of a list gets the loaded curve, which stays constant, and the ledger uses it throughout"
abbrev pub editing_by : Form → Curve → Algebra
editing_by f c =
    record {
      Sheet = Document;
      Picture = Shown;
      Edit = Given;
      SheetTyped = λ d. TypedSheet d.sheet;
      EditTyped = TypedGiven;
      view = shown;
      places = λ p. p.picture.w * p.picture.h;
      first_check = λ g. 0;
      curve_check = first_of (curve_checks c);
      sheet_check = λ d. first_of (document_checks d);
      picture_check = λ p. first_of (shown_checks p);
      given_check = λ g. first_of (permitted_checks g.permitted.limited g.permitted.colours);
      own_check = λ p g. first_of (own_checks false (as_sheet p.picture) p.locks g.permitted g.edit g.changes);
      is_empty = λ g. empty_pixels (list_of g.edit) (length g.changes);
      is_long = λ g. too_long g.changes;
      make = λ d g. document_done (lab_by c) d g.edit g.changes;
      encode = λ d g. record_of f d.sheet.w (filled_edit d.sheet d.locks g.edit) (filled_changes d.sheet g.edit g.changes);
      size = λ g. record_length f g.edit (length g.changes);
      back = λ bytes d. undone_by d (read_back f d.sheet.w bytes);
      forth = λ bytes d. redone_by (lab_by c) d (read_forth f d.sheet.w bytes);
      paint = λ p g. next_shown (lab_by c) p g.edit g.changes;
    }

-- document 01's: its records, and sRGB's curve
abbrev pub editing : Algebra
editing = editing_by Coordinates srgb
