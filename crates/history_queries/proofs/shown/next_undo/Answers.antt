-- `next_undo`: 1 and 4, then the record that ends at the standing offset. Assumes nothing.
use mathlib.Core.Path.{◌≡◌, sym, ◌∙◌}
use native.Mathlib.Omega.{arith}
use lib.ListN.{length}
use Rattle.base.specs.Checks.{first_of}
use Rattle.history_ledger.specs.Handle.{sound, stepped_back}
use Rattle.history_ledger.proofs.Soundness.{Sound}
use Rattle.history_model.specs.Calls.{handle_checks}
use Rattle.history_queries.proofs.NextFound.{handle-sound, SeenBack, seen_back}
use Rattle.journal_read.proofs.Searched.{unread-before}
use Rattle.history_queries.proofs.NextShown.{undo-refused, undo-nothing, undo-unread, undo-unsound, undo-shown}
use Rattle.history_queries.proofs.shown.next_undo.Goals as goal
use Rattle.history_queries.proofs.shown.next_undo.Goals.{After-sound, Else-no-ne0, In-Record}

-- past the first test the handle is sound
fine : (c : Else-no-ne0) → let a = c.args in first_of (handle_checks (length a.journal.now) a.handle) ≡ 0
fine c = sym c.handle_no-no.ensures ∙ c.if-no-ne0.false

sound-here : (c : Else-no-ne0) → let a = c.args in Sound (length a.journal.now) a.handle
sound-here c = handle-sound _ _ (fine c)

-- what was found
seen : (c : In-Record) → let a = c.args in let g = c.in-Record in SeenBack a.form a.journal.now a.handle.offset g.kind g.start g.length g.count
seen c = seen_back _ _ _ _ _ _ _ (let s = handle-sound (length c.args.journal.now) c.args.handle (sym c.handle_no-no.ensures ∙ c.if-no-ne0.false) in omega (arith, s.ends, s.fits)) (sym (c.find_back.ensures _) ∙ c.in-Record.is)

-- the handle after the step
after : (c : After-sound) → let a = c.args in c.sound.result ≡ sound (length a.journal.now) (stepped_back c.in-Record.length a.handle)
after c = rw c.stepped_back.ensures at c.sound.ensures

pub returns-then-no-ne0 : goal.returns-then-no-ne0
returns-then-no-ne0 c = undo-refused _ _ _ _ c.handle_no-no.ensures c.if-no-ne0.true

pub returns-then-handle-eq0 : goal.returns-then-handle-eq0
returns-then-handle-eq0 c = undo-nothing _ _ _ (fine (goal.at.returns-then-handle-eq0 c).Else-no-ne0) c.if-handle-eq0.true

pub find_back-requires : goal.find_back-requires
find_back-requires c = let s = sound-here (goal.at.find_back-requires c).Else-no-ne0 in omega (arith, s.ends, s.fits)

pub stepped_back-requires : goal.stepped_back-requires
stepped_back-requires c = record { n_le_offset = (seen (goal.at.stepped_back-requires c).In-Record).fits; position_nonzero = omega (arith, c.if-handle-eq0.false) }

pub returns-then-not-sound : goal.returns-then-not-sound
returns-then-not-sound c = undo-unsound _ _ _ (fine (goal.at.returns-then-not-sound c).Else-no-ne0) c.if-handle-eq0.false (seen (goal.at.returns-then-not-sound c).In-Record) (sym (after (goal.at.returns-then-not-sound c).After-sound) ∙ c.if-not-sound.true)

pub record_at-requires : goal.record_at-requires
record_at-requires c = let f = (seen (goal.at.record_at-requires c).In-Record).found in (f.lies, f.inside, f.room)

pub returns-else-not-sound : goal.returns-else-not-sound
returns-else-not-sound c = c.record_at.ensures ∙ undo-shown _ _ _ (fine (goal.at.returns-else-not-sound c).Else-no-ne0) c.if-handle-eq0.false (seen (goal.at.returns-else-not-sound c).In-Record) (sym (after (goal.at.returns-else-not-sound c).After-sound) ∙ c.if-not-sound.false)

pub returns-in-Unsound : goal.returns-in-Unsound
returns-in-Unsound c = undo-unread _ _ _ (fine (goal.at.returns-in-Unsound c).Else-no-ne0) c.if-handle-eq0.false (unread-before _ _ (sym (c.find_back.ensures _) ∙ c.in-Unsound.is))
