-- `redo_list`: the list of an edit that was not refused is painted, then the rest is done. Assumes nothing.
use mathlib.Core.Path.{◌∙◌}
use Rattle.color_curve.specs.Curve.{curve_of, lab_by}
use Rattle.struct_replay.proofs.Listed.{paints-ask, redone-list}
use Rattle.struct_replay.proofs.op.redo_list.Goals as goal

pub paint_list-requires : goal.paint_list-requires
paint_list-requires c =
    let a = c.args in
    paints-ask (lab_by (curve_of a.loaded a.curve.now)) a.w a.k a.palette.now a.lab.now a.indices.now a.locks.now a.edit a.list.now _ c.list_of-kind.ensures a.no _ c.walked-m.ensures c.requires.0

pub returns : goal.returns
returns c h =
    let a = c.args in
    c.finish_replay.ensures a.w h
    ∙ redone-list (lab_by (curve_of a.loaded a.curve.now)) a.w a.k a.palette.now a.lab.now a.indices.now a.locks.now a.edit a.list.now _ c.list_of-kind.ensures a.no _ c.walked-m.ensures h _
    c.paint_list.ensures
