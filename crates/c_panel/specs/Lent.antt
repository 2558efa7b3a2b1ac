-- What the functions of this crate hand to each other: buffers that hold a flat sheet apart, and what a call of the
-- core leaves. Definitions only. Assumes nothing.
use Rattle.std.specs.Prelude.{◌≡◌, false, cond, List, [], ℕ, ◌*◌, ◌/◌, ltb, eqb, length}
use Rattle.base.specs.Numbers.{bad_sheet, list_too_long, flat_misfit}
use Rattle.base.specs.Answer.{answer_told}
use Rattle.base.specs.Answer.Told.{result, alone}
use Rattle.base.specs.declared.Answer as base
use Rattle.base.specs.declared.Moved.{Moved}
use Rattle.history_ledger.specs.Calls as calls
use Rattle.history_ledger.specs.Calls.{Outcome, refused}
use Rattle.history_ledger.specs.Journal.{State, pushOf}
use Rattle.history_model.specs.Document.{Document}
use Rattle.base.specs.declared.Edit.{Edit}
use Rattle.history_model.specs.Editing.{Given, given_of, editing}
use Rattle.c_form.specs.Flat.{width_in, height_in, count_in, flat_length, numbers_in, list_misfits}
use Rattle.c_model.specs.Asked.{Asked, given_by, misfit_of, is_longer, sides_over}
use Rattle.c_model.specs.Step.{Flat, flat_of, flat_over, state_in, moved, flat_room}

-- the lengths of buffers that hold a sheet and its marks apart
pub record Apart (palette lab locks : ℕ) : Type 0 where
  pub palette-length : palette ≡ 765
  pub lab-length : lab ≡ 765
  pub locks-length : locks ≡ 255

-- a flat sheet of w by h with k entries, and a place for each pixel
pub record Sized (w h k places : ℕ) (sheet : List ℕ) : Type 0 where
  pub width : w ≡ width_in sheet
  pub height : h ≡ height_in sheet
  pub count : k ≡ count_in sheet
  pub size : places ≡ w * h
  pub suits : length sheet ≡ flat_length places

-- what a call answers, as the enum that the core has for it, and leaves
abbrev pub flat_moved : base.Answer → List ℕ → List ℕ → List ℕ → Outcome Flat
flat_moved a sheet journal handle = record { answer = answer_told a; leaves = flat_of sheet journal handle }

-- where the answer is "done", a sheet over its buffer
unfoldable pub sheet_left : List ℕ → calls.Answer → Document → List ℕ
sheet_left b (result d) t = flat_over t b
sheet_left b (alone n) t = b

-- what a call of the core leaves of a flat sheet, with its answer and its handle
pub record Settles (m : Moved) (before after journal : List ℕ) (o : Outcome (State Document)) : Type 0 where
  pub answers : answer_told m.answer ≡ o.answer
  pub sheet : after ≡ sheet_left before o.answer o.leaves.sheet
  pub journal-is : journal ≡ o.leaves.journal
  pub handle-is : m.handle ≡ o.leaves.handle

-- a push of the core on a flat sheet, 1 for a side over 64
unfoldable pub push_fit : Flat → Given → Outcome (State Document)
push_fit s g =
    cond (sides_over (width_in s.sheet) (height_in s.sheet)) (refused (state_in s) bad_sheet) (pushOf editing flat_room (state_in s) g)

-- 28 of the buffers, then that push of an edit with a list of numbers, one a change
unfoldable pub list_fit : Flat → Edit → List ℕ → Outcome Flat
list_fit s e list = moved s (push_fit s (given_of false [] e list))

-- 21 where a push of no pixels is "still"
unfoldable pub long_number : ℕ → ℕ
long_number n = cond (eqb n 255) list_too_long n

-- a push whose list is in these bytes
pub record Listed (a : Asked) (e : Edit) (bytes : List ℕ) : Type 0 where
  pub given_is : given_of false [] e (numbers_in bytes) ≡ given_by a
  pub misfit-is : misfit_of a ≡ cond (list_misfits bytes) flat_misfit 0
  pub longer-is : is_longer a ≡ ltb 4096 (length bytes / 8)
