-- `code`: from what the table has. Assumes nothing.
use mathlib.Core.Path.{◌≡◌}
use Prim.Native.Nat.{◌+◌, ◌-◌, ◌*◌, ◌<◌}
use native.Mathlib.Omega.{arith}
use Rattle.tile_cells.specs.Cells.{cell_count, code_of}
use Rattle.tile_cells.proofs.Corners.{fits, corner-small, corner-lies, count_small, area, order_is}
use Rattle.tile_cells.proofs.Firsts.{code-small}
use Rattle.tile_classes.proofs.Entering.{code-none, code-some, some-inside}
use Rattle.tile_classes.proofs.firsts.code.Goals as goal
use Rattle.tile_classes.proofs.firsts.code.Goals.{After-order_to-order, Else-f-eq0}

past : (c : Else-f-eq0) → c.args.f ≡ c.args.f - 1 + 1
past c = omega (arith, c.if-f-eq0.false)

below : (c : Else-f-eq0) → let a = c.args in a.f - 1 < cell_count a.w a.h a.t
below c =
    let a = c.args in
    omega (arith, some-inside a.w a.t a.indices.now a.c (a.f - 1) c.requires.2 (past c), c.requires.1)

found : (c : After-order_to-order) → let a = c.args in
    (a.f - 1) * 4 + c.order_to-order.result ≡ code_of a.w a.t a.indices.now a.c
found c =
    let a = c.args in
    code-some a.w a.t a.indices.now a.c (a.f - 1) c.requires.2 (past (goal.at.After-order_to-order c).Else-f-eq0)
    (order_is a.w a.t a.indices.now a.c (a.f - 1) c.corner_of.ensures c.corner_of-2.ensures
    c.order_to-order.ensures)

pub overflow_mul-result : goal.overflow_mul-result
overflow_mul-result c = let d = c.requires.0 in omega (arith, c.requires.1, count_small d, area d)

pub returns-then-f-eq0 : goal.returns-then-f-eq0
returns-then-f-eq0 c = let a = c.args in code-none a.w a.t a.indices.now a.c c.requires.2 c.if-f-eq0.true

pub corner_of-requires : goal.corner_of-requires
corner_of-requires c = let p = c.requires in (p.0.side, fits p.0 p.1, corner-small p.0 p.1)

pub corner_of-requires-2 : goal.corner_of-requires-2
corner_of-requires-2 c = let d = c.requires.0 in (d.side, fits d (below (goal.at.corner_of-requires-2 c).Else-f-eq0), corner-small d (below (goal.at.corner_of-requires-2 c).Else-f-eq0))

pub order_to-order-requires : goal.order_to-order-requires
order_to-order-requires c =
    let p = c.requires in
    (rw c.corner_of.ensures (corner-lies p.0 p.1), rw c.corner_of-2.ensures (corner-lies p.0 (below (goal.at.order_to-order-requires c).Else-f-eq0)))

pub overflow_mul-result-2 : goal.overflow_mul-result-2
overflow_mul-result-2 c = let d = c.requires.0 in omega (arith, below (goal.at.overflow_mul-result-2 c).Else-f-eq0, count_small d, area d)

pub overflow_add-result : goal.overflow_add-result
overflow_add-result c =
    let a = c.args in
    let d = c.requires.0 in
    omega (arith, found c, code-small a.w a.t a.indices.now a.c, c.requires.1, count_small d, area d)

pub returns : goal.returns
returns c = found c
