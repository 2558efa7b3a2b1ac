-- Document 02's locks (E5) in examples, said of the definitions that the calls' contracts name. Proved together: proofs/LockExamples.antt. Definitions only.
-- Assumes nothing.
use Rattle.std.specs.Prelude.{◌≡◌, Bool, true, false, [], ◌∷◌, ℕ, take, drop}
use Rattle.base.specs.Answer.{Done}
use Rattle.base.specs.Answer.Told.{alone}
use Rattle.base.specs.declared.Edit.TheVariants.{PaletteSet, PaletteLock}
use Rattle.history_ledger.specs.Calls.{Outcome, Played, play}
use Rattle.history_ledger.specs.Calls.Call.{push, undo}
use Rattle.history_ledger.specs.Journal.{State, pushOf, step}
use Rattle.history_model.specs.Document.{Document}
use Rattle.history_model.specs.Editing.{Given, editing}
use Rattle.history.specs.Examples.{opened_in, any_of, black, no_lab, zero_one_two, one_into_two}

-- an entry locked or unlocked, its old mark always said to be false; an entry set to black
abbrev pub lock : ℕ → Bool → Given
lock i new = any_of (PaletteLock i false new) []

abbrev pub recolour : ℕ → Given
recolour i = any_of (PaletteSet i black black no_lab) []

-- entry 1 of three locked, in an empty journal of n bytes; locked again; and locked, set, removed, unlocked by undo, and set
abbrev pub locked_in : ℕ → Outcome (State Document)
locked_in n = pushOf editing 3 (opened_in n zero_one_two) (lock 1 true)

abbrev pub locked_twice : Outcome (State Document)
locked_twice = pushOf editing 3 (locked_in 16).leaves (lock 1 true)

abbrev pub locked_and_undone : Played (State Document)
locked_and_undone = play (step editing 3) (opened_in 64 zero_one_two) (push (lock 1 true) ∷ push (recolour 1) ∷ push one_into_two ∷ undo ∷ push (recolour 1) ∷ [])

pub record LockExamples : Type 0 where
  -- "kind 5, index, old mark, new mark, length, 8 bytes"; "An index past the palette gets 7"
  pub lock-done : (locked_in 8).answer ≡ Done
  pub lock-bytes : (locked_in 8).leaves.journal ≡ 0x05 ∷ 0x01 ∷ 0x00 ∷ 0x01 ∷ 0x08 ∷ 0x00 ∷ 0x00 ∷ 0x00 ∷ []
  pub lock-marks : take 3 (locked_in 8).leaves.sheet.locks ≡ false ∷ true ∷ false ∷ []
  pub lock-in-7 : (locked_in 7).answer ≡ alone 14
  pub lock-past : (pushOf editing 3 (opened_in 8 zero_one_two) (lock 3 true)).answer ≡ alone 7
  -- locked again, which changes nothing: recorded, with the mark that was there for the caller's
  pub again-done : locked_twice.answer ≡ Done
  pub again-bytes : drop 8 locked_twice.leaves.journal ≡ 0x05 ∷ 0x01 ∷ 0x01 ∷ 0x01 ∷ 0x08 ∷ 0x00 ∷ 0x00 ∷ 0x00 ∷ []
  -- "Set and remove of a locked entry are refused"; the lock undone, the entry is set
  pub lock-and-undo : locked_and_undone.answers ≡ Done ∷ alone 24 ∷ alone 24 ∷ Done ∷ Done ∷ []
