-- `replay`: the checks; then the list is painted and the rest done. Assumes nothing.
use mathlib.Core.Path.{◌≡◌, sym, ◌∙◌}
use mathlib.Core.List.{map}
use lib.ListN.{length}
use Rattle.base.specs.Checks.{first_of}
use Rattle.color_curve.specs.Curve.{curve_of}
use Rattle.edit.specs.Change.{unpacked}
use Rattle.edit.specs.Checks.{permitted_of}
use Rattle.edit_apply.specs.Redoable.{Redoable}
use Rattle.edit_apply.proofs.Redoing.{redoable-paints}
use Rattle.history_model.specs.Document.{document_of}
use Rattle.history_model.specs.Replay.{replay_checks}
use Rattle.history_model.proofs.ReplayChecks.{replayable}
use Rattle.history_replay.proofs.Replaying.{refused-done, done-either, replay-is, replay-finishes}
use borrow.Author.Rules.{rules}
use Rattle.history_replay.proofs.replay.Goals as goal
use Rattle.history_replay.proofs.replay.Goals.{Else-no-ne0}

-- past the test no check applies
none-applies : (c : Else-no-ne0) → let a = c.args in first_of (replay_checks (curve_of a.loaded a.curve.now) (length a.scratch.now) (document_of a.w a.h a.k a.palette.now a.lab.now a.indices.now a.locks.now) (permitted_of a.limited a.permitted.now) a.edit (map unpacked a.list.now)) ≡ 0
none-applies c = sym c.replay_no-no.ensures ∙ c.if-no-ne0.false

can : (c : Else-no-ne0) → let a = c.args in Redoable a.w a.k a.palette.now a.lab.now a.indices.now a.edit (map unpacked a.list.now)
can c = (replayable _ _ _ _ _ _ _ _ _ _ _ _ (none-applies c)).can

pub returns-then-no-ne0 : goal.returns-then-no-ne0
returns-then-no-ne0 c = record { locks_after = refused-done _ _ _ c.if-no-ne0.true ∙ replay-is _ _ _ _ _ _ _ c.replay_no-no.ensures; scratch_len_unchanged = search rules }

pub paint_list-requires : goal.paint_list-requires
paint_list-requires c = rw c.list_of.ensures (redoable-paints _ (can (goal.at.paint_list-requires c).Else-no-ne0))

pub finish_replay-requires : goal.finish_replay-requires
finish_replay-requires c = λ _. replay-finishes _ _ _ _ _ _ _ _ _ _ _ _ (none-applies (goal.at.finish_replay-requires c).Else-no-ne0)

pub returns : goal.returns
returns c =
    let a = c.args in
    let painted = rw c.list_of.ensures at c.paint_list.ensures in
    let zero = c.if-no-ne0.false in record {
      locks_after = c.finish_replay.ensures a.w a.h
          ∙ done-either _ _ _ _ _ _ a.indices.now a.locks.now _ (map unpacked a.list.now) _ _ (λ _. painted) (λ h. absurd (h zero))
          ∙ replay-is (curve_of a.loaded a.curve.now) (length a.scratch.now) (document_of a.w a.h a.k a.palette.now a.lab.now a.indices.now a.locks.now) _ _ _ _ c.replay_no-no.ensures;
      scratch_len_unchanged = search rules;
    }
