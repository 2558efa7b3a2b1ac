-- Document 01's "Program `panel`": what a line does, and what it prints. Definitions only. Assumes nothing. A state
-- after the opening is one of demand 3 (history_model/specs/Demand3.antt), and a frame asks for a call of demand 3:
-- `step editing` (history_ledger/specs/Journal.antt) answers it.
use Rattle.std.specs.Prelude.{ℕ, false, cond, List, [], map, eqb, replicate}
use Rattle.std.proofs.Math.Option.{Option, none, some}
use Rattle.base.specs.Limits.{max_entries}
use Rattle.base.specs.Numbers.{unread_frame}
use Rattle.base.specs.Answer.{Told, number, Done}
use Rattle.base.specs.Answer.Told.{result, alone}
use Rattle.sheet.specs.Sheet.{Sheet}
use Rattle.sheet.specs.Document.{new_lab}
use Rattle.base.specs.Triples.{rgb_at}
use Rattle.base.specs.declared.Edit.{Edit}
use Rattle.base.specs.declared.Edit.TheVariants as edit
use Rattle.edit.specs.Change.{Change, packed}
use Rattle.edit.specs.Checks.{permitted_of}
use Rattle.edit_entries.specs.Unfilled.{no_lab}
use Rattle.palette_model.specs.Removal.{remap_of, merge_checks}
use Rattle.history_ledger.specs.Handle.{dirty}
use Rattle.history_ledger.specs.Calls.{Answer, Outcome, refused, guarded}
use Rattle.history_ledger.specs.Calls.Call.{push, undo, redo, mark}
use Rattle.history_ledger.specs.Journal.{State, opened, step}
use Rattle.history_model.specs.Document.{Document, document_of}
use Rattle.history_model.specs.Editing.{Given, given_of, editing}
use Rattle.panel_frames.specs.Reading.{frame_of, changes_from}
use Rattle.panel_frames.specs.Opening.{opened_or, sheet_in}
use Rattle.panel_frames.specs.Writing.{line_of, number_line}
use Rattle.panel_frames.specs.declared.Frame.{Frame}
use Rattle.panel_frames.specs.declared.Frame.TheVariants.{Open, Pixels, Set, Add, Merge, Undo, Redo, Mark, Malformed}
use Rattle.panel_lines.specs.Lines.{Said, said, answers}

-- nothing before the opening; then sheet and marks, journal and handle
abbrev pub Panel : Type 0
Panel = Option (State Document)

-- "Journal 4,096 bytes", and places of scratch, more than a sheet of 64 by 64 has
abbrev pub journal_bytes : ℕ
journal_bytes = 4096

abbrev pub room : ℕ
room = 8192

-- ---- the calls

-- "no colour list"
abbrev pub given : Edit → List Change → Given
given e cs = record { permitted = permitted_of false []; edit = e; changes = cs }

-- "04 from into": 18 comes first, then what the push of the merge answers
unfoldable pub merged_of : State Document → ℕ → ℕ → Outcome (State Document)
merged_of st from into =
    let s = st.sheet.sheet in
    guarded st (merge_checks s st.sheet.locks from into)
    (step editing room st (push (given_of false [] (edit.PaletteRemove from (rgb_at s.palette from) no_lab)
    (map packed (remap_of s.w s.indices from into)))))

-- what a frame asks of the history; push fills in old colour and old LAB. 22 for "a second opening" and for a "malformed line"
unfoldable pub call_of : State Document → Frame → List ℕ → Outcome (State Document)
call_of st (Open w h k) bs = refused st unread_frame
call_of st (Pixels tool n) bs = step editing room st (push (given (edit.Pixels tool) (changes_from bs 2 n)))
call_of st (Set i c) bs = step editing room st (push (given (edit.PaletteSet i c c no_lab) []))
call_of st (Add c) bs = step editing room st (push (given (edit.PaletteAdd c) []))
call_of st (Merge from into) bs = merged_of st from into
call_of st Undo bs = step editing room st undo
call_of st Redo bs = step editing room st redo
call_of st Mark bs = step editing room st mark
call_of st Malformed bs = refused st unread_frame

-- "It prints .. answer (00 done, FF still, else number), position (2), dirty, k, indices"
unfoldable pub whole_line : Answer → State Document → List ℕ
whole_line a st = line_of (number a) st.handle.position (dirty st.handle) st.sheet.sheet.k st.sheet.sheet.indices

-- "22 .. prints the number only"; "Every other refusal prints the whole line"
unfoldable pub shown : Outcome (State Document) → Said Panel
shown o =
    said (some o.leaves)
    (cond (eqb (number o.answer) unread_frame) (number_line unread_frame) (whole_line o.answer o.leaves))

-- ---- the opening

-- LAB of the k entries worked out, no entry locked (no frame locks one), and the journal zero
unfoldable pub begun : Sheet → State Document
begun s =
    opened editing (document_of s.w s.h s.k s.palette (new_lab s) s.indices (replicate max_entries false))
    (replicate journal_bytes 0)

-- "a failed opening (.. the sheet stays unopened) .. prints the number only"
unfoldable pub opens_as : Told Sheet → Said Panel
opens_as (result s) = said (some (begun s)) (whole_line Done (begun s))
opens_as (alone n) = said none (number_line n)

abbrev pub open_of : Sheet → Said Panel
open_of s = opens_as (opened_or [] s)

-- 22 for a "call before opening" and for a "malformed line"
unfoldable pub unopened_of : Frame → List ℕ → Said Panel
unopened_of f bs = opens_as (sheet_in [] f bs)

-- ---- a line, and all of them

unfoldable pub act_of : Panel → Frame → List ℕ → Said Panel
act_of none f bs = unopened_of f bs
act_of (some st) f bs = shown (call_of st f bs)

unfoldable pub step_of : Panel → List ℕ → Said Panel
step_of p line = act_of p (frame_of line).frame (frame_of line).bytes

-- what the program prints to each of its lines
unfoldable pub panel_of : List (List ℕ) → List (List ℕ)
panel_of lines = answers step_of none lines
