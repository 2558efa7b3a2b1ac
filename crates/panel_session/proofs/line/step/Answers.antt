-- `step`: the frame, then what it does. Assumes nothing.
use Rattle.panel_session.proofs.Steps.{step_by, act-shut}
use Rattle.panel_open.specs.Memory.{panel_in}
use Rattle.panel_session.proofs.line.step.Goals as goal

pub returns-then-core : goal.returns-then-core
returns-then-core c =
    let a = c.args in
    rw (step_by (panel_in a.core a.palette.now a.lab.now a.indices.now a.locks.now a.journal.now) a.line.now c.decode-frame.result _ c.decode-frame.ensures.bytes_after) c.act.ensures

pub returns : goal.returns
returns c =
    let a = c.args in
    rw (step_by (panel_in a.core a.palette.now a.lab.now a.indices.now a.locks.now a.journal.now) a.line.now c.decode-frame.result _ c.decode-frame.ensures.bytes_after, act-shut a.core a.palette.now a.lab.now a.indices.now a.locks.now a.journal.now c.decode-frame.result _ c.if-core.false) c.unopened.ensures
