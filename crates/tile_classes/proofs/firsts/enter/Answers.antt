-- `enter`: the code written, and the table where the cell is the first of its class. Assumes nothing.
use Rattle.tile_classes.proofs.Entering.{entered-old, entered-new}
use Rattle.tile_classes.proofs.firsts.enter.Goals as goal

-- the table's place

pub returns-then-f-eq0 : goal.returns-then-f-eq0
returns-then-f-eq0 c =
    let p = c.requires in
    let a = c.args in
    rw c.class_in.ensures (entered-new a.w a.t a.indices.now a.n a.c a.s.now p.entered p.tiled.2 _
    c.code-v.ensures (rw c.class_in.ensures at c.if-f-eq0.true))

pub returns-else-f-eq0 : goal.returns-else-f-eq0
returns-else-f-eq0 c =
    let p = c.requires in
    let a = c.args in
    entered-old a.w a.t a.indices.now a.n a.c a.s.now p.entered p.tiled.2 _ c.code-v.ensures
    (rw c.class_in.ensures at c.if-f-eq0.false)
