-- `carry_out`: what the loops ask, and that what they and `finish` leave is what a push leaves. Assumes nothing.
use mathlib.Core.Path.{◌∙◌}
use Rattle.color_curve.specs.Curve.{curve_of}
use Rattle.struct_push.proofs.Carrying.{puts-ask, paints-ask, finish-asks, carried-out}
use Rattle.struct_push.proofs.recording.carry_out.Goals as goal

pub put_list-requires : goal.put_list-requires
put_list-requires c =
    let a = c.args in
    puts-ask a.form a.w a.h a.k a.palette.now a.lab.now a.indices.now a.locks.now a.journal.now a.handle a.edit a.list.now _ c.list_of-kind.ensures a.no _ c.walked-m.ensures c.requires.0 c.requires.1

pub paint_list-requires : goal.paint_list-requires
paint_list-requires c =
    let a = c.args in
    paints-ask a.form a.w a.h a.k a.palette.now a.lab.now a.indices.now a.locks.now a.journal.now a.handle a.edit a.list.now _ c.list_of-kind.ensures a.no _ c.walked-m.ensures c.requires.0 c.requires.1

pub finish-requires : goal.finish-requires
finish-requires c =
    let a = c.args in
    (finish-asks a.form a.w a.h a.k a.palette.now a.lab.now a.indices.now a.locks.now a.journal.now a.handle a.edit a.list.now _ c.list_of-kind.ensures a.no _ c.walked-m.ensures c.requires.0 c.requires.1 _ c.put_list.auto.journal, c.requires.2)

pub returns : goal.returns
returns c =
    let a = c.args in
    λ limited permitted. c.finish.ensures a.w a.h
    ∙ carried-out a.form a.w a.h a.k a.palette.now a.lab.now a.indices.now a.locks.now a.journal.now a.handle a.edit a.list.now _ c.list_of-kind.ensures a.no _ c.walked-m.ensures c.requires.0 c.requires.1 (curve_of a.loaded a.curve.now) limited permitted _ _ c.paint_list.ensures c.put_list.ensures
