-- `find`: along the chain, the first cells met so far are ruled out, and every step takes one of those left. Assumes nothing.
use mathlib.Core.Path.{◌≡◌}
use lib.ListN.{get_or}
use Rattle.tile_chain.specs.Table.{next_in}
use Prim.Native.Nat.{ℕ, suc, ◌+◌, ◌-◌, ◌*◌, ◌<◌, ◌≤◌, ◌^◌}
use native.Mathlib.Omega.{arith}
use borrow.Author.Rules.{rules}
use Rattle.tile_cells.specs.Cells.{cell_count, order_of}
use Rattle.tile_chain.proofs.Chains.{walk_start, walk-below, walk-found, walk-less, walk-next, walk_end}
use Rattle.tile_cells.proofs.Corners.{fits, corner-small, corner-lies, count_small, area, order_is}
use Rattle.tile_chain.proofs.find.Goals as goal
use Rattle.tile_chain.proofs.find.Goals.{After-order_to-order, Else-p-eq0}

past : (c : Else-p-eq0) → c.loop.p ≡ suc (c.loop.p - 1)
past c = let h : 1 ≤ c.loop.p = search rules in omega arith

below : (c : Else-p-eq0) → let a = c.args in c.loop.p - 1 < cell_count a.w a.h a.t
below c =
    let a = c.args in
    omega (
      arith,
      walk-below a.w a.t a.indices.now (cell_count a.w a.h a.t) a.c c.loop.p (c.loop.p - 1) c.loop.invariant.0 (past c),
      c.requires.tiled.1,
    )

small : (c : Else-p-eq0) → (c.loop.p - 1) * 4 + 4 ≤ 2 ^ 22
small c = let d = c.requires.tiled.0 in omega (arith, below c, count_small d, area d)

found : (c : After-order_to-order) → let a = c.args in
    c.order_to-order.result ≡ order_of a.w a.t a.indices.now a.c (c.loop.p - 1)
found c =
    let a = c.args in
    order_is a.w a.t a.indices.now a.c (c.loop.p - 1)
    c.corner_of-at.ensures c.corner_of.ensures c.order_to-order.ensures

less : (c : Else-p-eq0) {p' : ℕ} → let a = c.args in p' ≡ next_in (get_or a.s.now (c.loop.p - 1) 0) → p' < c.loop.p
less c z =
    let a = c.args in
    walk-less a.w a.t a.indices.now (cell_count a.w a.h a.t) a.c c.loop.p
    (c.loop.p - 1) c.loop.invariant.0 (past c) c.requires.chained z

pub corner_of-at-requires : goal.corner_of-at-requires
corner_of-at-requires c = let d = c.requires.tiled.0 in let b = c.requires.tiled.1 in (d.side, fits d b, corner-small d b)

pub loop-init : goal.loop-init
loop-init c =
    let a = c.args in
    let k = walk_start a.w a.t a.indices.now (cell_count a.w a.h a.t) a.c _ c.requires.p_value in
    (k, omega (arith, k.low))

pub corner_of-requires : goal.corner_of-requires
corner_of-requires c = let d = c.requires.tiled.0 in let b = below c in (d.side, fits d b, corner-small d b)

pub order_to-order-requires : goal.order_to-order-requires
order_to-order-requires c =
    let p = c.requires.tiled in (
      rw c.corner_of-at.ensures (corner-lies p.0 p.1),
      rw c.corner_of.ensures (corner-lies p.0 (below (goal.at.order_to-order-requires c).Else-p-eq0)),
    )

pub returns-then-order-lt-NONE : goal.returns-then-order-lt-NONE
returns-then-order-lt-NONE c =
    let a = c.args in
    let at = (goal.at.returns-then-order-lt-NONE c).Else-p-eq0 in
    record {
      value = λ h. walk-found a.w a.t a.indices.now (cell_count a.w a.h a.t) a.c c.loop.p
          (c.loop.p - 1) c.loop.invariant.0
          (past at) (found (goal.at.returns-then-order-lt-NONE c).After-order_to-order) c.if-order-lt-NONE.true;
      most_lt_c = λ h. absurd (omega (arith, small at, c.if-order-lt-NONE.true));
    }

pub loop-preserved : goal.loop-preserved
loop-preserved c =
    let a = c.args in
    let at = (goal.at.loop-preserved c).Else-p-eq0 in (
      walk-next a.w a.t a.indices.now (cell_count a.w a.h a.t) a.c c.loop.p
          (c.loop.p - 1) c.loop.invariant.0
          (past at) (found (goal.at.loop-preserved c).After-order_to-order) c.if-order-lt-NONE.false
          c.requires.chained c.next_in-p.ensures,
      omega (arith, less at c.next_in-p.ensures, c.loop.invariant.1),
    )

pub returns-then-p-eq0-2 : goal.returns-then-p-eq0-2
returns-then-p-eq0-2 c =
    let a = c.args in
    let d = c.requires.tiled.0 in record {
      value = λ h. walk_end a.w a.t a.indices.now (cell_count a.w a.h a.t) a.c _ c.loop.invariant.0 c.if-p-eq0-2.true;
      most_lt_c = λ h. absurd (omega (arith, c.requires.tiled.1, count_small d, area d));
    }
