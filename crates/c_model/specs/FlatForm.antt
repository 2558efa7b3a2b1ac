-- "the buffer afterwards is the flat form of the core's sheet", of every byte: document 02, E12. What the buffer of a
-- call that is done holds is the sheet that the core leaves, its storage past the entries included, since the core
-- leaves that storage ("A call leaves storage past the larger of k before and after; a removal or undone add leaves the
-- last old entry's storage"). Doubles have one NaN in this logic: of a NaN it is said here that it is one; that its
-- bytes keep is `nan-kept` in c_form's proofs/Placing.antt. Proved: `flat-form` in proofs/FlatForm.antt. Definitions
-- only. Assumes nothing.
use Rattle.std.specs.Prelude.{◌≡◌, false, List, ℕ}
use Rattle.std.proofs.Math.Option.{some}
use Rattle.history_ledger.specs.Algebra.{Taken, WellFormedIn}
use Rattle.history_ledger.specs.Laws.{Accepts}
use Rattle.history_model.specs.Document.{Document}
use Rattle.c_form.specs.Flat.{sheet_misfits}
use Rattle.c_model.specs.Asked.{Asked, flat_editing}
use Rattle.c_model.specs.Step.{sheet_in, flat_over}

-- the buffer that a sheet was written over holds that sheet
abbrev pub Holds : List ℕ → Document → Type 0
Holds b d = sheet_in (flat_over d b) ≡ d

pub record FlatForm : Type 0 where
  -- a push that no check refuses
  pub pushed : (b : List ℕ) → sheet_misfits b ≡ false → (a : Asked) → Accepts flat_editing (sheet_in b) a
      → Holds b (flat_editing.make (sheet_in b) a)
  -- any record that undo or redo takes on a sheet that none of 1 to 3 refuses, and that leads to such a sheet
  pub undone : (b : List ℕ) → sheet_misfits b ≡ false → flat_editing.sheet_check (sheet_in b) ≡ 0
      → (bytes : List ℕ) (r : Taken Document) → flat_editing.back bytes (sheet_in b) ≡ some r
      → WellFormedIn flat_editing r.sheet → Holds b r.sheet
  pub redone : (b : List ℕ) → sheet_misfits b ≡ false → flat_editing.sheet_check (sheet_in b) ≡ 0
      → (bytes : List ℕ) (r : Taken Document) → flat_editing.forth bytes (sheet_in b) ≡ some r
      → WellFormedIn flat_editing r.sheet → Holds b r.sheet
