-- `lent::stroke`: the pencil's changes fit the list, and are what push is given. Assumes nothing.
use mathlib.Core.Path.{◌≡◌, sym, ap, ◌∙◌}
use native.Mathlib.Omega.{arith}
use mathlib.Core.List.{map}
use lib.IntN.{pos}
use lib.ListN.{length}
use lib.Seq.{length-take-le}
use Rattle.struct_change.specs.Struct.{packed_of}
use Rattle.sheet.specs.Sheet.{sheet_of}
use Rattle.tool_draw.specs.Calls.{pencil_call}
use Rattle.history_ledger.specs.Journal.{pushOf}
use Rattle.color_curve.specs.Curve.{curve_of}
use mathlib.Core.Bool.{false}
use Rattle.history_model.specs.Document.{document_of}
use Rattle.history_model.specs.Editing.{editing_by, given_of}
use Rattle.history_model.specs.Calls.{state_of}
use Rattle.example_structs.proofs.Drawn.{drawn-fits, drawn-is}
use Rattle.example_structs.proofs.lent.stroke.Goals as goal

pub slice_bounds-list-end : goal.slice_bounds-list-end
slice_bounds-list-end c =
    let f = drawn-fits _ _ _ _ _ _ c.pencil-drawn.result _ c.blank-list.result c.count-n.result c.pencil-drawn.ensures.0 c.count-n.ensures in
    omega (arith, f, c.pencil-drawn.auto.out)

pub slice_bounds-recorded-end : goal.slice_bounds-recorded-end
slice_bounds-recorded-end c =
    let f = drawn-fits _ _ _ _ _ _ c.pencil-drawn.result _ c.blank-list.result c.count-n.result c.pencil-drawn.ensures.0 c.count-n.ensures in
    sym (length-take-le _ _ (omega (arith, f, c.pencil-drawn.auto.out)))

pub returns : goal.returns
returns c =
    let a = c.args in
    let call = pencil_call (sheet_of 6 4 a.k a.palette.now a.lab.now a.indices.now) a.area a.points.now 1 (pos 1) (length a.scratch.now) in
    c.recorded.ensures
    ∙ ap (λ cs. pushOf (editing_by a.form (curve_of false a.curve.now)) (length a.marks.now) (state_of (document_of 6 4 a.k a.palette.now a.lab.now a.indices.now a.locks.now) a.journal.now a.handle) (given_of false a.permitted.now a.edit cs))
    (drawn-is call c.pencil-drawn.result c.pencil-drawn.new.out c.blank-list.result _ c.count-n.result c.pencil-drawn.ensures.0 c.count-n.ensures c.blank-list.ensures)
