-- Demand 3, stated over any algebra of edits. Proved of every algebra that keeps specs/Laws.antt: `whole-history` in proofs/Whole.antt and `full-exactly` in
-- proofs/Full.antt. Definitions only. Assumes nothing.
use Rattle.std.specs.Prelude.{◌≡◌, ◌↔◌, Bool, true, false, cond, List, [], ◌∷◌, ℕ, ◌+◌, ◌≤◌, ◌<◌, length, eqb}
use Rattle.base.specs.Limits.{max_journal}
use Rattle.base.specs.Numbers.{journal_full}
use Rattle.base.specs.Answer.Told.{result, alone}
use Rattle.history_ledger.specs.Handle.{saved_position, sound}
use Rattle.history_ledger.specs.Calls.{Call, Answer, Played, play, lend}
use Rattle.history_ledger.specs.Calls.Call.{push, undo, redo, mark}
use Rattle.history_ledger.specs.Algebra.{Algebra, WellFormedIn}
use Rattle.history_ledger.specs.Journal.{State, opened, step, stepLent}
use Rattle.history_ledger.specs.Ledger.{Ledger, begun, standing, enter}

-- a call with the answer "journal full" is struck
abbrev pub is_full : Answer → Bool
is_full (result done) = false
is_full (alone n) = eqb n journal_full

-- "the calls not struck", from the calls and their answers; and, in the same way, the answers of these calls
unfoldable pub unstruck : {X : Type 0} → List X → List Answer → List X
unstruck [] answers = []
unstruck (x ∷ xs) [] = []
unstruck (x ∷ xs) (a ∷ answers) = cond (is_full a) (unstruck xs answers) (x ∷ unstruck xs answers)

module _ (A : Algebra) where
  open A use {Sheet, Edit, EditTyped, view, places, first_check, curve_check, sheet_check, given_check, own_check}
  open A use {is_empty, is_long, size}

  -- the numbers of each push are in the range of their types
  abbrev pub TypedCall : Call Edit → Type 0
  TypedCall (push e) = EditTyped e
  TypedCall undo = Unit {0}
  TypedCall redo = Unit {0}
  TypedCall mark = Unit {0}

  abbrev pub TypedCalls : List (Call Edit) → Type 0
  TypedCalls [] = Unit {0}
  TypedCalls (c ∷ cs) = TypedCall c × TypedCalls cs

  -- "sheet, standing position and saved position with the ledger's standing picture and positions"
  pub record Matches (st : State Sheet) (l : Ledger A) : Type 0 where
    pub picture : view st.sheet ≡ standing A l
    pub position : st.handle.position ≡ l.position
    pub saved : saved_position st.handle ≡ l.saved

  -- "Compared are these calls' answers, numbers included, in order, and afterwards" what `Matches` says
  pub record SameHistory (answers : List Answer) (first second : Played (State Sheet)) (ledger : Played (Ledger A)) : Type 0 where
    pub second-answers : second.answers ≡ answers
    pub ledger-answers : ledger.answers ≡ answers
    pub first_ends : Matches first.ends ledger.ends
    pub second-ends : Matches second.ends ledger.ends

  -- Demand 3, "a statement about the whole list at once": for every list of calls, from every well-formed sheet, in any
  -- two permitted journals of which the second is not the shorter ("At the start journal and scratch have any
  -- contents"). Each call of either run has scratch of its own, of w × h places at least: in the first run call number
  -- i has `rooms i` places, in the second `rooms' i`. "Both runs and the ledger start from the same sheet; the second
  -- run and the ledger get only the calls not struck."
  abbrev pub WholeHistory : Type 0
  WholeHistory =
      (s : Sheet) → WellFormedIn A s
      → (shorter longer : List ℕ) → length shorter ≤ length longer → length longer ≤ max_journal
      → (rooms rooms' : ℕ → ℕ) → ((i : ℕ) → places (view s) ≤ rooms i) → ((i : ℕ) → places (view s) ≤ rooms' i)
      → (calls : List (Call Edit)) → TypedCalls calls
      → let first = play (stepLent A) (opened A s shorter) (lend rooms calls) in
      let left = unstruck calls first.answers in
      let second = play (stepLent A) (opened A s longer) (lend rooms' left) in
      let ledger = play (enter A) (begun A (view s)) left in
      SameHistory (unstruck first.answers first.answers) first second ledger

  -- 14 is the first check to apply to a push: none of 28, 1 to 4 and 25 does, nor 21, 16 or one of its own, nor is it
  -- "still"; and "standing offset + record length > journal length"
  pub record FullFirst (room : ℕ) (st : State Sheet) (e : Edit) : Type 0 where
    pub first_passes : first_check e ≡ 0
    pub permitted : length st.journal ≤ max_journal
    pub given-passes : given_check e ≡ 0
    pub sheet-passes : sheet_check st.sheet ≡ 0
    pub handle-sound : sound (length st.journal) st.handle ≡ true
    pub curve-passes : curve_check ≡ 0
    pub not-empty : is_empty e ≡ false
    pub not-long : is_long e ≡ false
    pub scratch : places (view st.sheet) ≤ room
    pub own-passes : own_check (view st.sheet) e ≡ 0
    pub does-not-fit : length st.journal < st.handle.offset + size e

  -- no other call has the check
  abbrev pub FullCall : ℕ → State Sheet → Call Edit → Type 0
  FullCall room st (push e) = FullFirst room st e
  FullCall room st undo = ⊥
  FullCall room st redo = ⊥
  FullCall room st mark = ⊥

  -- "journal full" is answered exactly where 14 is the first check to apply, empty pixel lists apart: by every call, in every state
  abbrev pub FullExactly : Type 0
  FullExactly = (room : ℕ) (st : State Sheet) (c : Call Edit) → ((step A room st c).answer ≡ alone journal_full) ↔ FullCall room st c
