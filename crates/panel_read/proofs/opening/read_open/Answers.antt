-- `read_open`: the checks, the room, then the parts. Assumes nothing.
use native.Mathlib.Omega.{arith}
use Rattle.panel_read.proofs.Taking.{read-refused, read_short, read_done}
use Rattle.panel_read.proofs.opening.read_open.Goals as goal

pub returns-then-no-ne0 : goal.returns-then-no-ne0
returns-then-no-ne0 c = read-refused _ _ _ _ _ _ _ _ c.open_no-no.ensures c.if-no-ne0.true

pub returns-then-indices-n : goal.returns-then-indices-n
returns-then-indices-n c = read_short _ _ _ _ _ _ _ _ c.open_no-no.ensures c.if-no-ne0.false c.if-indices-n.true

pub returns : goal.returns
returns c =
    let e = c.take_sheet.ensures in
    read_done _ _ _ _ _ _ _ _ c.open_no-no.ensures c.if-no-ne0.false (omega (arith, c.requires)) c.if-indices-n.false _ _ _ e.0 e.1 e.2
