-- Document 01's "Journal": push, undo, redo and mark over a sheet, a journal and a handle, each with its checks in order. Definitions only. Assumes nothing.
use Rattle.std.specs.Prelude.{Bool, cond, not, List, [], ◌∷◌, ◌++◌, ℕ, ◌+◌, ◌-◌, length, take, drop, ltb, leb, eqb}
use Rattle.std.proofs.Math.Option.{Option, none, some}
use Rattle.base.specs.Limits.{max_journal}
use Rattle.base.specs.Numbers.{bad_sheet, journal_damaged, journal_full, no_space, list_too_long}
use Rattle.base.specs.Checks.{Check, ◌when◌}
use Rattle.base.specs.declared.Handle.{Handle}
use Rattle.history_ledger.specs.Handle.{fresh, sound, after_push, stepped_back, stepped_forth, marked}
use Rattle.history_ledger.specs.Calls.{Call, Outcome, Lent, done, still, refused, guarded, group}
use Rattle.history_ledger.specs.Calls.Call.{push, undo, redo, mark}
use Rattle.history_ledger.specs.Algebra.{Algebra, Taken}

-- 1: "A journal has at most 2,147,483,647 bytes", this one n
abbrev pub long_journal : ℕ → Check
long_journal n = bad_sheet when ltb max_journal n

-- 4: "handle or record unsound", here the handle
abbrev pub unsound : ℕ → Handle → Check
unsound n h = journal_damaged when not (sound n h)

-- ---- mark: 1 and 4; it looks at no sheet
unfoldable pub mark_of : ℕ → Handle → Outcome Handle
mark_of n h = guarded h (long_journal n ∷ unsound n h ∷ []) (done (marked h))

-- "the record is written into the part of the journal that starts at the standing offset, other bytes keep"
unfoldable pub written : List ℕ → ℕ → List ℕ → List ℕ
written journal offset r = take offset journal ++ (r ++ drop (offset + length r) journal)

-- what a call is lent, and returns or leaves; of the algebra it has the sheet alone
pub record State (Sheet : Type 0) : Type 0 where
  pub sheet : Sheet
  pub journal : List ℕ
  pub handle : Handle

module _ (A : Algebra) where
  open A use {Sheet, Edit, view, places, first_check, curve_check, sheet_check, given_check, own_check}
  open A use {is_empty, is_long, make, encode, size, back, forth}

  -- a fresh history over a sheet and a journal
  abbrev pub opened : Sheet → List ℕ → State Sheet
  opened s journal = record { sheet = s; journal = journal; handle = fresh }

  -- 16: "scratch under w × h places", this one of `room` places
  abbrev pub shortScratch : ℕ → State Sheet → Check
  shortScratch room st = no_space when ltb room (places (view st.sheet))

  -- ---- push: 28 "before all others", 1, 2, 3, 4, 25; "still" for an empty pixel list; 21, 16, its own, 14
  abbrev pub entry_checks : State Sheet → Edit → List Check
  entry_checks st e =
      group (first_check e)
      ∷ long_journal (length st.journal)
      ∷ group (given_check e)
      ∷ group (sheet_check st.sheet)
      ∷ unsound (length st.journal) st.handle
      ∷ group curve_check
      ∷ []

  -- 14: "standing offset + record length > journal length"
  abbrev pub pushChecks : ℕ → State Sheet → Edit → List Check
  pushChecks room st e =
      list_too_long when is_long e
      ∷ shortScratch room st
      ∷ group (own_check (view st.sheet) e)
      ∷ journal_full when ltb (length st.journal) (st.handle.offset + size e)
      ∷ []

  unfoldable pub pushed : State Sheet → Edit → State Sheet
  pushed st e =
      record {
        sheet = make st.sheet e;
        journal = written st.journal st.handle.offset (encode st.sheet e);
        handle = after_push (size e) st.handle;
      }

  unfoldable pub pushOf : ℕ → State Sheet → Edit → Outcome (State Sheet)
  pushOf room st e =
      guarded st (entry_checks st e)
      (cond (is_empty e) (still st)
      (guarded st (pushChecks room st e)
      (done (pushed st e))))

  -- ---- one step over a record, as undo and redo read it: "A record is sound if it is inside the used part .., the
  -- handle after the step is sound", and the reading is one
  unfoldable pub stepOver : State Sheet → Option (Taken Sheet) → (ℕ → Bool) → (ℕ → Handle → Handle) → Outcome (State Sheet)
  stepOver st none inside stepped = refused st journal_damaged
  stepOver st (some r) inside stepped =
      let handle = stepped r.length st.handle in
      guarded st (journal_damaged when not (inside r.length) ∷ unsound (length st.journal) handle ∷ [])
      (done (record { sheet = r.sheet; journal = st.journal; handle = handle }))

  -- 1, 2, 3, 4
  abbrev pub move_checks : State Sheet → List Check
  move_checks st = long_journal (length st.journal) ∷ group (sheet_check st.sheet) ∷ unsound (length st.journal) st.handle ∷ []

  -- ---- undo: 1, 2, 3, 4; "still" at position 0; 4 for the record
  unfoldable pub undoOf : State Sheet → Outcome (State Sheet)
  undoOf st =
      let offset = st.handle.offset in
      guarded st (move_checks st)
      (cond (eqb st.handle.position 0) (still st)
      (stepOver st (back (take offset st.journal) st.sheet) (λ n. leb n offset) stepped_back))

  -- 25 "after 1 to 4", "in each later call that takes a curve": undo takes none, since a record has the LAB of its colours
  abbrev pub redoChecks : State Sheet → List Check
  redoChecks st = move_checks st ++ (group curve_check ∷ [])

  -- ---- redo: 1, 2, 3, 4, 25; "still" at the last; 16; 4 for the record
  unfoldable pub redoOf : ℕ → State Sheet → Outcome (State Sheet)
  redoOf room st =
      let offset = st.handle.offset in
      let end = st.handle.end in
      guarded st (redoChecks st)
      (cond (eqb st.handle.position st.handle.count) (still st)
      (guarded st (shortScratch room st ∷ [])
      (stepOver st (forth (take (end - offset) (drop offset st.journal)) st.sheet) (λ n. leb (offset + n) end) stepped_forth)))

  -- ---- a call, with `room` places of scratch
  abbrev pub step : ℕ → State Sheet → Call Edit → Outcome (State Sheet)
  step room st (push e) = pushOf room st e
  step room st undo = undoOf st
  step room st redo = redoOf room st
  step room st mark =
      let o = mark_of (length st.journal) st.handle in
      record { answer = o.answer; leaves = record { sheet = st.sheet; journal = st.journal; handle = o.leaves } }

  -- the same, with the places that it is lent
  abbrev pub stepLent : State Sheet → Lent (Call Edit) → Outcome (State Sheet)
  stepLent st c = step c.room st c.call
