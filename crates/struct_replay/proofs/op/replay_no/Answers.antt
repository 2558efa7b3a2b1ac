-- `replay_no`: the steps before the list, the list, and the step after it. Assumes nothing.
use mathlib.Core.Path.{◌∙◌}
use lib.ListN.{length}
use Rattle.color_curve.specs.Curve.{curve_of}
use Rattle.edit.specs.Checks.{permitted_of}
use Rattle.history_model.specs.Document.{document_of}
use Rattle.history_replay.specs.Steps.{ReplayBegun}
use Rattle.struct_edit.specs.Walk.{flat_all}
use Rattle.struct_edit.proofs.Told.{told-length}
use Rattle.struct_replay.proofs.Listed.{list-asks, left-asks, numbered}
use Rattle.struct_replay.proofs.op.replay_no.Goals as goal
use Rattle.struct_replay.proofs.op.replay_no.Goals.{After-open_replay-opened}

-- what the steps before the list left
opened : (c : After-open_replay-opened) → let a = c.args in
    ReplayBegun (curve_of a.loaded a.curve.now) (length a.marks.now) (document_of a.w a.h a.k a.palette.now a.lab.now a.indices.now a.locks.now) (permitted_of a.limited a.permitted.now) a.edit (flat_all a.list.now)
    c.open_replay-opened.result c.open_replay-opened.new.marks
opened c = c.open_replay-opened.ensures (flat_all c.args.list.now) (told-length c.args.list.now)

pub check_list-checked-requires : goal.check_list-checked-requires
check_list-checked-requires c =
    list-asks _ _ _ _ _ _ _ _ _ _ _ c.args.list.now _ c.list_of-kind.ensures _ _ (opened (goal.at.check_list-checked-requires c).After-open_replay-opened) _ c.open_replay-opened.auto.marks

pub left_after-requires : goal.left_after-requires
left_after-requires c =
    left-asks _ _ _ _ _ _ _ _ _ _ _ c.args.list.now _ c.list_of-kind.ensures _ _ (opened (goal.at.left_after-requires c).After-open_replay-opened) _ _ c.check_list-checked.ensures _
    (c.check_list-checked.auto.marks ∙ c.open_replay-opened.auto.marks)

pub returns : goal.returns
returns c =
    numbered _ _ _ _ _ _ _ _ _ _ _ c.args.list.now _ c.list_of-kind.ensures _ _ (opened (goal.at.returns c).After-open_replay-opened) _ _ c.check_list-checked.ensures c.open_replay-opened.auto.marks _
    c.left_after.ensures
