-- `replay`: the number, then the edit done where it is 0. Assumes nothing.
use mathlib.Core.Path.{sym, ◌∙◌}
use lib.ListN.{length}
use Rattle.color_curve.specs.Curve.{curve_of}
use Rattle.edit.specs.Checks.{permitted_of}
use Rattle.edit_apply.proofs.Redoing.{redoable-paints}
use Rattle.history_model.specs.Document.{document_of}
use Rattle.history_model.proofs.ReplayChecks.{replayable}
use Rattle.history_replay.proofs.Replaying.{replay-is, replay-finishes}
use Rattle.struct_edit.specs.Walk.{flat_all}
use Rattle.struct_replay.proofs.op.replay.Goals as goal

pub redo_list-s-requires : goal.redo_list-s-requires
redo_list-s-requires c = (
  λ z. redoable-paints _ (replayable _ _ _ _ _ _ _ _ _ _ _ _ (sym c.replay_no-no.ensures ∙ z)).can,
  λ z. replay-finishes _ _ _ _ _ _ _ _ _ _ _ _ (sym c.replay_no-no.ensures ∙ z),
)

pub returns : goal.returns
returns c =
    let a = c.args in (
      c.redo_list-s.ensures a.h
          ∙ replay-is (curve_of a.loaded a.curve.now) (length a.scratch.now) (document_of a.w a.h a.k.now a.palette.now a.lab.now a.indices.now a.locks.now) (permitted_of a.limited a.permitted.now) a.edit (flat_all a.list.now) _ c.replay_no-no.ensures,
      c.replay_no-no.auto.marks,
    )
