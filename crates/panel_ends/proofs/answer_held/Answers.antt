-- `answer_held`: a line is held, or none. Assumes nothing.
use Rattle.panel_ends.proofs.Held.{some-held, none-held}
use Rattle.panel_open.specs.Memory.{panel_in}
use native.Mathlib.Omega.{arith}
use Rattle.panel_ends.proofs.answer_held.Goals as goal

pub returns-then-len-gt0 : goal.returns-then-len-gt0
returns-then-len-gt0 c =
    let a = c.args in
    some-held c.step-s.result (panel_in a.t.core a.palette.now a.lab.now a.indices.now a.locks.now a.journal.now) _ a.line.now a.out.now _ a.t.len c.step-s.ensures (omega (arith, c.if-len-gt0.true)) (omega (arith, c.requires.holds.0.line-length, c.requires.holds.0.within))

pub returns : goal.returns
returns c =
    let a = c.args in
    none-held (panel_in a.t.core a.palette.now a.lab.now a.indices.now a.locks.now a.journal.now) a.line.now a.out.now a.t.len c.if-len-gt0.false
