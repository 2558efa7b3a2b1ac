-- `next_redo`: 1 and 4, then the record that starts at the standing offset. Assumes nothing.
use mathlib.Core.Path.{◌≡◌, sym, ◌∙◌}
use native.Mathlib.Omega.{arith}
use lib.ListN.{length}
use Rattle.base.specs.Checks.{first_of}
use Rattle.history_ledger.specs.Handle.{sound, stepped_forth}
use Rattle.history_ledger.proofs.Soundness.{Sound}
use Rattle.history_model.specs.Calls.{handle_checks}
use Rattle.history_queries.proofs.NextFound.{handle-sound, SeenForth, seen-forth}
use Rattle.journal_read.proofs.Searched.{unread-at}
use Rattle.history_queries.proofs.NextShown.{redo-refused, redo-nothing, redo-unread, redo-unsound, redo-shown}
use Rattle.history_queries.proofs.shown.next_redo.Goals as goal
use Rattle.history_queries.proofs.shown.next_redo.Goals.{After-sound, Else-no-ne0, In-Record}

-- past the first test the handle is sound
fine : (c : Else-no-ne0) → let a = c.args in first_of (handle_checks (length a.journal.now) a.handle) ≡ 0
fine c = sym c.handle_no-no.ensures ∙ c.if-no-ne0.false

sound-here : (c : Else-no-ne0) → let a = c.args in Sound (length a.journal.now) a.handle
sound-here c = handle-sound _ _ (fine c)

-- what was found
seen : (c : In-Record) → let a = c.args in let g = c.in-Record in SeenForth a.form a.journal.now a.handle.offset a.handle.end g.kind g.start g.length g.count
seen c = seen-forth _ _ _ _ _ _ _ _ (handle-sound (length c.args.journal.now) c.args.handle (sym c.handle_no-no.ensures ∙ c.if-no-ne0.false)).ends (handle-sound (length c.args.journal.now) c.args.handle (sym c.handle_no-no.ensures ∙ c.if-no-ne0.false)).fits (sym (c.find_forth.ensures _) ∙ c.in-Record.is)

-- the handle after the step
after : (c : After-sound) → let a = c.args in c.sound.result ≡ sound (length a.journal.now) (stepped_forth c.in-Record.length a.handle)
after c = rw c.stepped_forth.ensures at c.sound.ensures

pub returns-then-no-ne0 : goal.returns-then-no-ne0
returns-then-no-ne0 c = redo-refused _ _ _ _ c.handle_no-no.ensures c.if-no-ne0.true

pub returns-then-handle : goal.returns-then-handle
returns-then-handle c = redo-nothing _ _ _ (fine (goal.at.returns-then-handle c).Else-no-ne0) c.if-handle.true

pub find_forth-requires : goal.find_forth-requires
find_forth-requires c = let s = sound-here (goal.at.find_forth-requires c).Else-no-ne0 in (s.ends, s.fits)

pub stepped_forth-requires : goal.stepped_forth-requires
stepped_forth-requires c = let s = sound-here (goal.at.stepped_forth-requires c).Else-no-ne0 in let f = seen (goal.at.stepped_forth-requires c).In-Record in record { n_bound = omega (arith, f.ends, f.starts); position_lt_count = omega (arith, s.stands, c.if-handle.false) }

pub returns-then-not-sound : goal.returns-then-not-sound
returns-then-not-sound c = redo-unsound _ _ _ (fine (goal.at.returns-then-not-sound c).Else-no-ne0) c.if-handle.false (seen (goal.at.returns-then-not-sound c).In-Record) (sym (after (goal.at.returns-then-not-sound c).After-sound) ∙ c.if-not-sound.true)

pub record_at-requires : goal.record_at-requires
record_at-requires c = let f = (seen (goal.at.record_at-requires c).In-Record).found in (f.lies, f.inside, f.room)

pub returns-else-not-sound : goal.returns-else-not-sound
returns-else-not-sound c = c.record_at.ensures ∙ redo-shown _ _ _ (fine (goal.at.returns-else-not-sound c).Else-no-ne0) c.if-handle.false (seen (goal.at.returns-else-not-sound c).In-Record) (sym (after (goal.at.returns-else-not-sound c).After-sound) ∙ c.if-not-sound.false)

pub returns-in-Unsound : goal.returns-in-Unsound
returns-in-Unsound c = redo-unread _ _ _ (fine (goal.at.returns-in-Unsound c).Else-no-ne0) c.if-handle.false (unread-at _ _ (sym (c.find_forth.ensures _) ∙ c.in-Unsound.is))
