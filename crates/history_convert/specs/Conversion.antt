-- "there and back restores the used bytes and the handle"; "A user who undoes after conversion finds the same pictures": document 02, E9. Statements only.
-- Assumes nothing. Proved: `there_and_back` and `same-pictures` in proofs/Theorems.antt.
use Rattle.std.specs.Prelude.{ℕ, ◌≤◌, ◌≡◌, List, map, length, take}
use Rattle.base.specs.Limits.{max_journal}
use Rattle.base.specs.Numbers.{journal_full}
use Rattle.base.specs.Answer.{Done}
use Rattle.base.specs.Answer.Told.{alone}
use Rattle.base.specs.Lists as lists
use Rattle.base.specs.declared.Form.{Form}
use Rattle.base.specs.declared.Handle.{Handle}
use Rattle.color_curve.specs.Curve.{Curve}
use Rattle.history_ledger.specs.Calls.{Answer, Call, Played, play, lend}
use Rattle.history_ledger.specs.Journal.{State, stepLent}
use Rattle.history_model.specs.Document.{Document}
use Rattle.history_model.specs.Editing.{editing_by}
use Rattle.history_model.specs.Handed.{HandedSheet, HandedPush, sheet_by, call_by}
use Rattle.history_model.specs.Calls.{state_of}
use Rattle.journal_raw.specs.Raw.{other, AllBytes}
use Rattle.history_convert.specs.Convert.{convert_of}

-- ---- converted, and converted back with room enough
abbrev pub ThereAndBack : Type 0
ThereAndBack =
    (f : Form) (w h : ℕ) (journal : List ℕ) (handle : Handle) (out back : List ℕ) → AllBytes journal
    → (convert_of f w h journal handle out).answer ≡ Done
    → handle.end ≤ length back → length back ≤ max_journal
    → let there = convert_of f w h journal handle out in
    let again = convert_of (other f) w h there.leaves.out there.leaves.handle back in
    (again.answer ≡ Done) × (again.leaves.handle ≡ handle) × (take handle.end again.leaves.out ≡ take handle.end journal)

-- ---- a user who pushes, undoes, redoes and marks
-- none of these answers is 14
abbrev pub NeverFull : List Answer → Type 0
NeverFull answers = lists.All (λ (a : Answer). ¬ (a ≡ alone journal_full)) answers

-- "the same pictures": the same answers, numbers included, and afterwards the same sheet and marks and the same standing
pub record Alike (one two : Played (State Document)) : Type 0 where
  pub answers : one.answers ≡ two.answers
  pub document : one.ends.sheet ≡ two.ends.sheet
  pub position : one.ends.handle.position ≡ two.ends.handle.position
  pub count : one.ends.handle.count ≡ two.ends.handle.count
  pub saved : one.ends.handle.saved ≡ two.ends.handle.saved

-- for every list of calls, each with its own scratch, call number i with `scratch i` places: on a journal that converts, and on its conversion. A list in which
-- either answers 14 is left out, since "journal full" uses the lengths of the form in use. At a call `stepLent` is what the contracts of `push`, `undo`, `redo`
-- and `mark_saved` say (history_model/specs/Demand3.antt). The curve may be any, also one that is answered with 25
abbrev pub SamePictures : Type 0
SamePictures =
    (f : Form) (c : Curve) (lent : HandedSheet) (journal : List ℕ) (handle : Handle) (out : List ℕ) → AllBytes journal
    → let d = sheet_by lent in
    let there = convert_of f d.sheet.w d.sheet.h journal handle out in
    there.answer ≡ Done
    → (scratch : ℕ → ℕ) (handed : List (Call HandedPush))
    → let calls = lend scratch (map call_by handed) in
    let one = play (stepLent (editing_by f c)) (state_of d journal handle) calls in
    let two = play (stepLent (editing_by (other f) c)) (state_of d there.leaves.out there.leaves.handle) calls in
    NeverFull one.answers → NeverFull two.answers → Alike one two
