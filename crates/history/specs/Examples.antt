-- Document 01's starred examples of edits and the journal, said of the definitions that the calls' contracts name. Proved together: proofs/Examples.antt.
-- Definitions only. Assumes nothing.
use Rattle.std.specs.Prelude.{◌≡◌, false, List, [], ◌∷◌, ℕ, ℤ, pos, Float, replicate}
use Rattle.std.proofs.Math.Option.{none}
use Rattle.std.specs.Float.{fin}
use Rattle.base.specs.declared.Rgb.{Rgb}
use Rattle.base.specs.declared.Lab.{Lab}
use Rattle.base.specs.Answer.{Done}
use Rattle.base.specs.Answer.Told.{alone}
use Rattle.base.specs.declared.Edit.{Edit}
use Rattle.base.specs.declared.Edit.TheVariants.{Pixels, PaletteAdd, PaletteRemove}
use Rattle.edit.specs.Change.{Change}
use Rattle.edit.specs.Checks.{permitted_of}
use Rattle.history_ledger.specs.Handle.{saved_position}
use Rattle.history_ledger.specs.Calls.{Outcome, Played, play}
use Rattle.history_ledger.specs.Calls.Call.{push, undo, mark}
use Rattle.history_ledger.specs.Journal.{State, opened, pushOf, undoOf, step}
use Rattle.history_model.specs.Document.{Document, document_of}
use Rattle.history_model.specs.Editing.{Given, editing}

-- a sheet of one row, its storage black, no entry locked; an empty journal of n bytes
abbrev nought : Float
nought = fin false 0 (pos 0)

abbrev pub row_of : ℕ → List ℤ → ℕ → Document
row_of w indices k = document_of w 1 k (replicate 765 0) (replicate 765 nought) indices (replicate 255 false)

abbrev pub opened_in : ℕ → Document → State Document
opened_in n d = opened editing d (replicate n 0)

-- an edit, any colour permitted
abbrev pub any_of : Edit → List Change → Given
any_of e cs = record { permitted = permitted_of false []; edit = e; changes = cs }

abbrev pub black : Rgb
black = record { r = 0; g = 0; b = 0 }

abbrev pub no_lab : Lab
no_lab = record { l = nought; a = nought; b = nought }

abbrev pub removal : ℕ → List Change → Given
removal i cs = any_of (PaletteRemove i black no_lab) cs

abbrev pub add : Rgb → Given
add c = any_of (PaletteAdd c) []

-- "Indices 0,1,2, remove 1 into 2"
abbrev pub zero_one_two : Document
zero_one_two = row_of 3 (pos 0 ∷ pos 1 ∷ pos 2 ∷ []) 3

abbrev pub one_into_two : Given
one_into_two = removal 1 (record { x = 1; y = 0; old = pos 1; new = pos 2 } ∷ [])

abbrev pub removed : Outcome (State Document)
removed = pushOf editing 3 (opened_in 45 zero_one_two) one_into_two

-- "Add 10 20 30 (hexadecimal)"
abbrev pub blue_grey : Given
blue_grey = add (record { r = 0x10; g = 0x20; b = 0x30 })

abbrev pub added_in : ℕ → Outcome (State Document)
added_in n = pushOf editing 0 (opened_in n (row_of 0 [] 0)) blue_grey

-- "Push, mark, undo, push"
abbrev pub paint : ℕ → Given
paint i = any_of (Pixels 0) (record { x = 0; y = 0; old = pos 0; new = pos i } ∷ [])

abbrev pub pushed_again : Played (State Document)
pushed_again = play (step editing 3) (opened_in 18 zero_one_two) (push (paint 1) ∷ mark ∷ undo ∷ push (paint 2) ∷ [])

pub record Examples : Type 0 where
  -- "remove 1 into 2: 0,1,1; undone 0,1,2"
  pub removed-done : removed.answer ≡ Done
  pub removed-indices : removed.leaves.sheet.sheet.indices ≡ pos 0 ∷ pos 1 ∷ pos 1 ∷ []
  pub undone-done : (undoOf editing removed.leaves).answer ≡ Done
  pub undone-indices : (undoOf editing removed.leaves).leaves.sheet.sheet.indices ≡ pos 0 ∷ pos 1 ∷ pos 2 ∷ []
  -- "k 1: removal gives 9"
  pub last_entry : (pushOf editing 0 (opened_in 64 (row_of 0 [] 1)) (removal 0 [])).answer ≡ alone 9
  -- "k 254: add done; 255: 8"
  pub add-at-254 : (pushOf editing 0 (opened_in 64 (row_of 0 [] 254)) blue_grey).answer ≡ Done
  pub add-at-255 : (pushOf editing 0 (opened_in 64 (row_of 0 [] 255)) blue_grey).answer ≡ alone 8
  -- "in 8 bytes: 03 10 20 30 08 00 00 00; in 7: 14"
  pub in-8 : (added_in 8).answer ≡ Done
  pub bytes_8 : (added_in 8).leaves.journal ≡ 0x03 ∷ 0x10 ∷ 0x20 ∷ 0x30 ∷ 0x08 ∷ 0x00 ∷ 0x00 ∷ 0x00 ∷ []
  pub in-7 : (added_in 7).answer ≡ alone 14
  -- "Push, mark, undo, push: no saved mark"
  pub all_done : pushed_again.answers ≡ Done ∷ Done ∷ Done ∷ Done ∷ []
  pub no-mark : saved_position pushed_again.ends.handle ≡ none
