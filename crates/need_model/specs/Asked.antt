-- What a line of `panel` asks of the history whose picture it meets: document 02, E11, "a list of calls as `panel` frames". By the picture alone, so that the
-- ledger, too, can be asked. Definitions only. Assumes nothing.
use Rattle.std.specs.Prelude.{ℕ, Bool, true, false, ◌||◌, List, [], ◌∷◌, map, leb, eqb}
use Rattle.std.proofs.Math.Option.{Option, none, some}
use Rattle.base.specs.Numbers.{bad_merge, entry_locked}
use Rattle.base.specs.Checks.{Check, ◌when◌, first_of, refused_or}
use Rattle.base.specs.Triples.{rgb_at}
use Rattle.base.specs.declared.Edit.TheVariants as edit
use Rattle.edit.specs.Change.{packed}
use Rattle.edit.specs.Locks.{lock_at}
use Rattle.edit_entries.specs.Unfilled.{no_lab}
use Rattle.palette_model.specs.Removal.{remap_of}
use Rattle.history_ledger.specs.Calls.{Call}
use Rattle.history_ledger.specs.Calls.Call.{push, undo, redo, mark}
use Rattle.history_model.specs.Document.{Shown}
use Rattle.history_model.specs.Editing.{Given, given_of}
use Rattle.panel_frames.specs.Reading.{frame_of, changes_from}
use Rattle.panel_frames.specs.declared.Frame.{Frame}
use Rattle.panel_frames.specs.declared.Frame.TheVariants.{Open, Pixels, Set, Add, Merge, Undo, Redo, Mark, Malformed}
use Rattle.panel_model.specs.Acts.{given}

-- a merge's own: 18, and 24 "after 18 in a merge", of the entry that goes
unfoldable pub merge_own : Shown → ℕ → ℕ → List Check
merge_own p from into =
    bad_merge when (leb p.picture.k from || (leb p.picture.k into || eqb from into))
    ∷ entry_locked when lock_at p.locks from
    ∷ []

-- a frame with its bytes: one call, or none where 18 or 24 refuses a merge; nothing is asked by what is no call, which 22 refuses before the play
unfoldable pub ask_of : Frame → List ℕ → Shown → Option (Call Given)
ask_of (Open w h k) bs p = none
ask_of (Pixels tool n) bs p = some (push (given (edit.Pixels tool) (changes_from bs 2 n)))
ask_of (Set i c) bs p = some (push (given (edit.PaletteSet i c c no_lab) []))
ask_of (Add c) bs p = some (push (given (edit.PaletteAdd c) []))
ask_of (Merge from into) bs p =
    refused_or (first_of (merge_own p from into)) (λ n. none)
    (some (push (given_of false [] (edit.PaletteRemove from (rgb_at p.picture.colours from) no_lab) (map packed (remap_of p.picture.w p.picture.indices from into)))))
ask_of Undo bs p = some undo
ask_of Redo bs p = some redo
ask_of Mark bs p = some mark
ask_of Malformed bs p = none

-- a line's, and a session's
abbrev pub line_asks : List ℕ → Shown → Option (Call Given)
line_asks line = ask_of (frame_of line).frame (frame_of line).bytes

unfoldable pub script_of : List (List ℕ) → List (Shown → Option (Call Given))
script_of [] = []
script_of (line ∷ lines) = line_asks line ∷ script_of lines

-- 22: "one that `panel` would call malformed, or an opening frame"
abbrev pub no_call : Frame → Bool
no_call (Open w h k) = true
no_call (Pixels tool n) = false
no_call (Set i c) = false
no_call (Add c) = false
no_call (Merge from into) = false
no_call Undo = false
no_call Redo = false
no_call Mark = false
no_call Malformed = true

unfoldable pub unread : List ℕ → Bool
unread line = no_call (frame_of line).frame
