-- The calls that the lines of a session ask for, so that demand 3 (history_model/specs/Demand3.antt) speaks of the
-- program's states. Proved: proofs/Played.antt, `session-played`. Definitions only. Assumes nothing.
use Rattle.std.specs.Prelude.{ℕ, List, [], ◌∷◌, ◌++◌, map, false}
use Rattle.base.specs.Checks.{first_of, refused_or}
use Rattle.base.specs.Triples.{rgb_at}
use Rattle.base.specs.declared.Edit.TheVariants as edit
use Rattle.edit.specs.Change.{packed}
use Rattle.edit_entries.specs.Unfilled.{no_lab}
use Rattle.palette_model.specs.Removal.{remap_of, merge_checks}
use Rattle.history_ledger.specs.Calls.{Call, play}
use Rattle.history_ledger.specs.Calls.Call.{push, undo, redo, mark}
use Rattle.history_ledger.specs.Journal.{State, step}
use Rattle.history_model.specs.Document.{Document}
use Rattle.history_model.specs.Editing.{Given, given_of, editing}
use Rattle.panel_frames.specs.Reading.{frame_of, changes_from}
use Rattle.panel_frames.specs.declared.Frame.{Frame}
use Rattle.panel_frames.specs.declared.Frame.TheVariants.{Open, Pixels, Set, Add, Merge, Undo, Redo, Mark, Malformed}
use Rattle.panel_calls.specs.Panel.{Panel, room, given, step_of}

-- what a frame asks of the history over the state that it meets: one call, or none where 22 or 18 refuses it
unfoldable pub asked : State Document → Frame → List ℕ → List (Call Given)
asked st (Open w h k) bs = []
asked st (Pixels tool n) bs = push (given (edit.Pixels tool) (changes_from bs 2 n)) ∷ []
asked st (Set i c) bs = push (given (edit.PaletteSet i c c no_lab) []) ∷ []
asked st (Add c) bs = push (given (edit.PaletteAdd c) []) ∷ []
asked st (Merge from into) bs =
    let s = st.sheet.sheet in
    refused_or (first_of (merge_checks s st.sheet.locks from into)) (λ n. [])
    (push (given_of false [] (edit.PaletteRemove from (rgb_at s.palette from) no_lab) (map packed (remap_of s.w s.indices from into))) ∷ [])
asked st Undo bs = undo ∷ []
asked st Redo bs = redo ∷ []
asked st Mark bs = mark ∷ []
asked st Malformed bs = []

-- a line's
unfoldable pub asked_by : State Document → List ℕ → List (Call Given)
asked_by st line = asked st (frame_of line).frame (frame_of line).bytes

-- all lines', each in the state that those before it left
unfoldable pub calls_of : State Document → List (List ℕ) → List (Call Given)
calls_of st [] = []
calls_of st (line ∷ lines) = asked_by st line ++ calls_of (play (step editing room) st (asked_by st line)).ends lines

-- the state after lines
unfoldable pub after : Panel → List (List ℕ) → Panel
after p [] = p
after p (line ∷ lines) = after (step_of p line).state lines
