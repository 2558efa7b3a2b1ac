-- `push_no`: the steps before the list, the list, and the steps after it. Assumes nothing.
use mathlib.Core.Path.{◌∙◌}
use lib.ListN.{length, length-map}
use Rattle.color_curve.specs.Curve.{curve_of}
use Rattle.history_model.specs.Document.{document_of}
use Rattle.history_model.specs.Calls.{state_of}
use Rattle.history_model.specs.Editing.{given_of}
use Rattle.history_push_checks.specs.Steps.{Begun}
use Rattle.struct_change.specs.Struct.{packed_of}
use Rattle.struct_edit.specs.Walk.{packed_all}
use Rattle.struct_push_checks.proofs.Listed.{list-asks, settle-asks, numbered}
use Rattle.struct_push_checks.proofs.push_no.Goals as goal
use Rattle.struct_push_checks.proofs.push_no.Goals.{After-begin-begun}

-- what the steps before the list left
begun : (c : After-begin-begun) → let a = c.args in
    Begun a.form (curve_of a.loaded a.curve.now) (length a.marks.now) (state_of (document_of a.w a.h a.k a.palette.now a.lab.now a.indices.now a.locks.now) a.journal.now a.handle)
    (given_of a.limited a.permitted.now a.edit (packed_all a.list.now)) c.begin-begun.result c.begin-begun.new.marks
begun c = c.begin-begun.ensures c.args.form (packed_all c.args.list.now) (length-map c.args.list.now packed_of)

pub check_list-checked-requires : goal.check_list-checked-requires
check_list-checked-requires c =
    list-asks _ _ _ _ _ _ _ _ _ _ _ _ _ _ _ c.args.list.now _ c.list_of-kind.ensures _ _ (begun (goal.at.check_list-checked-requires c).After-begin-begun) _ c.begin-begun.auto.marks

pub settle-requires : goal.settle-requires
settle-requires c =
    settle-asks _ _ _ _ _ _ _ _ _ _ _ _ _ _ _ c.args.list.now _ c.list_of-kind.ensures _ _ (begun (goal.at.settle-requires c).After-begin-begun) _ _ c.check_list-checked.ensures _
    (c.check_list-checked.auto.marks ∙ c.begin-begun.auto.marks)

pub returns : goal.returns
returns c =
    numbered _ _ _ _ _ _ _ _ _ _ _ _ _ _ _ c.args.list.now _ c.list_of-kind.ensures _ _ (begun (goal.at.returns c).After-begin-begun) _ _ c.check_list-checked.ensures c.begin-begun.auto.marks _
    c.settle.ensures
