-- What a maker asks of a history without changing its sheet: history.rs, `is_dirty`, `can_undo`, `can_redo`, `next_undo`, `next_redo` and `applied`. Each looks
-- at the journal's length (1) and the handle (4), at no sheet. Definitions only. Assumes nothing.
use Rattle.std.specs.Prelude.{◌≡◌, Bool, not, cond, List, [], ◌∷◌, ℕ, zero, suc, ◌+◌, ◌-◌, ◌*◌, leb, eqb, length, take, drop}
use Rattle.std.proofs.Math.Option.{Option, none, some}
use Rattle.base.specs.Numbers.{journal_damaged}
use Rattle.base.specs.Checks.{◌when◌, checked}
use Rattle.base.specs.Answer.{Told, Shown, shown_as}
use Rattle.base.specs.Answer.Told.{result, alone}
use Rattle.base.specs.declared.Edit.{Edit}
use Rattle.base.specs.declared.Form.{Form}
use Rattle.edit.specs.Change.{Change}
use Rattle.journal_record.specs.Record.{Reading, stride, read_forth, read_back}
use Rattle.base.specs.declared.Handle.{Handle}
use Rattle.history_ledger.specs.Handle.{stepped_back, stepped_forth}
use Rattle.history_ledger.specs.Journal.{unsound}
use Rattle.history_model.specs.Calls.{handle_checks}

-- ---- questions
unfoldable pub asked : ℕ → Handle → Bool → Told Bool
asked n h b = checked (handle_checks n h) alone (result b)

-- "Undo: at 0 "still"", "Redo: at the last "still"": else there is a record
abbrev pub undo_left : Handle → Bool
undo_left h = not (eqb h.position 0)

abbrev pub redo_left : Handle → Bool
redo_left h = not (eqb h.position h.count)

-- ---- a record that is shown. A look is told no sheet: length, edit and count are the same at any width, and of the changes only the count is shown
abbrev pub any_width : ℕ
any_width = 0

abbrev pub shows : Edit → ℕ → ℕ → ℕ → ℕ → Told (Option Shown)
shows edit start length list count = result (some (shown_as edit start length list count))

-- a record that was read from `start` on: its edit, where it lies, and where its changes lie, which stand before the last 4 bytes
unfoldable pub shown : Form → ℕ → ℕ × Edit × List Change → Told (Option Shown)
shown f start r = let n = length r.2 in shows r.1 start r.0 (start + r.0 - 4 - stride f * n) n

-- the record that one step goes over: "A record is sound if it is inside the used part .., the handle after the step is sound", as `over`
-- (history_ledger/specs/Journal.antt) tests it; what it holds is judged by undo and redo, on a sheet
unfoldable pub step_shown : Form → ℕ → Handle → Reading → (ℕ → ℕ) → (ℕ → Bool) → (ℕ → Handle → Handle) → Told (Option Shown)
step_shown f n h none start inside stepped = alone journal_damaged
step_shown f n h (some r) start inside stepped =
    checked (journal_damaged when not (inside r.0) ∷ unsound n (stepped r.0 h) ∷ []) alone (shown f (start r.0) r)

-- ---- `next_undo`: "The op undo would revert", `next_redo`: "The op redo would apply"
unfoldable pub next_undo_of : Form → List ℕ → Handle → Told (Option Shown)
next_undo_of f journal h =
    let offset = h.offset in
    checked (handle_checks (length journal) h) alone
    (cond (eqb h.position 0) (result none)
    (step_shown f (length journal) h (read_back f any_width (take offset journal)) (λ n. offset - n) (λ n. leb n offset) stepped_back))

unfoldable pub next_redo_of : Form → List ℕ → Handle → Told (Option Shown)
next_redo_of f journal h =
    let offset = h.offset in
    let end = h.end in
    checked (handle_checks (length journal) h) alone
    (cond (eqb h.position h.count) (result none)
    (step_shown f (length journal) h (read_forth f any_width (take (end - offset) (drop offset journal))) (λ n. offset) (λ n. leb (offset + n) end) stepped_forth))

-- ---- `applied`: "The applied ops, oldest first", by number: what `next_redo` would show after that many steps, were
-- every applied record undone and none past them there. So the journal is read from its first byte, record by record
abbrev pub rewound : Handle → Handle
rewound h = record { offset = 0; end = h.offset; position = 0; count = h.position; saved = 0 }

-- what comes after a record that is shown, by its length
unfoldable pub past : Told (Option Shown) → (ℕ → Told (Option Shown)) → Told (Option Shown)
past (result (some r)) more = more r.length
past (result none) more = result none
past (alone number) more = alone number

unfoldable pub shown_after : Form → List ℕ → ℕ → Handle → Told (Option Shown)
shown_after f journal zero h = next_redo_of f journal h
shown_after f journal (suc n) h = past (next_redo_of f journal h) (λ m. shown_after f journal n (stepped_forth m h))

unfoldable pub applied_of : Form → List ℕ → Handle → ℕ → Told (Option Shown)
applied_of f journal h number =
    checked (handle_checks (length journal) h) alone
    (cond (leb h.position number) (result none)
    (shown_after f journal number (rewound h)))

-- the chain of the records that end before `end` or at it: the oldest starts at 0, each next one where the one before ends. `applied` shows a record of it
-- (`applied-chained` in proofs/Chained), in a history that was pushed the pushed ones (`applied-pushed` in proofs/Pushed)
pub data Starts (f : Form) (journal : List ℕ) (end : ℕ) : ℕ → ℕ → Type 0 where
  oldest : Starts f journal end 0 0
  after : {n at : ℕ} (r : ℕ × Edit × List Change) → Starts f journal end n at
      → read_forth f any_width (take (end - at) (drop at journal)) ≡ some r → Starts f journal end (suc n) (at + r.0)
