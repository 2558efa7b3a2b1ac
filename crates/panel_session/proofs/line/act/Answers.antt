-- `act`: the call, then the line. Assumes nothing.
use Rattle.panel_open.proofs.Texts.{told-steps}
use Rattle.panel_session.proofs.Steps.{act-state, act-number, act-whole, part-front}
use native.Mathlib.Omega.{arith}
use Prim.Native.Nat.{◌*◌}
use Rattle.panel_session.proofs.line.act.Goals as goal

pub returns-then-no-eq-UNREAD_FRAME : goal.returns-then-no-eq-UNREAD_FRAME
returns-then-no-eq-UNREAD_FRAME c =
    let a = c.args in
    let f = c.requires.fits in
    let m = c.call-moved in
    let front = part-front m.new.indices a.indices.now (a.core.w * a.core.h) (omega (arith, f.small, f.indices-length)) m.auto.indices in
    told-steps _ _ _ _ _ _ _ _ _ _ _ _ c.number.ensures (act-number a.core a.palette.now a.lab.now a.indices.now a.locks.now a.journal.now a.frame a.bytes.now m.result _ _ _ _ _ _ c.requires.opened_value m.ensures front _ c.number-no.ensures c.if-no-eq-UNREAD_FRAME.true) (act-state a.core a.palette.now a.lab.now a.indices.now a.locks.now a.journal.now a.frame a.bytes.now m.result _ _ _ _ _ _ c.requires.opened_value m.ensures front) f.small

pub returns : goal.returns
returns c =
    let a = c.args in
    let f = c.requires.fits in
    let m = c.call-moved in
    let front = part-front m.new.indices a.indices.now (a.core.w * a.core.h) (omega (arith, f.small, f.indices-length)) m.auto.indices in
    told-steps _ _ _ _ _ _ _ _ _ _ _ _ c.whole.ensures (act-whole a.core a.palette.now a.lab.now a.indices.now a.locks.now a.journal.now a.frame a.bytes.now m.result _ _ _ _ _ _ c.requires.opened_value m.ensures front _ c.number-no.ensures c.if-no-eq-UNREAD_FRAME.false) (act-state a.core a.palette.now a.lab.now a.indices.now a.locks.now a.journal.now a.frame a.bytes.now m.result _ _ _ _ _ _ c.requires.opened_value m.ensures front) f.small
