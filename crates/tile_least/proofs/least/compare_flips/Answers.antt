-- `compare_flips`: the first y rows are the same. Assumes nothing.
use mathlib.Core.List.{List, flat_map}
use mathlib.Core.Path.{◌≡◌, refl, sym}
use native.Mathlib.Omega.{arith}
use borrow.Author.Rules.{rules}
use lib.IntN.{ℤ}
use Rattle.base.specs.Lists.{range}
use Rattle.tile_cells.specs.Seen.{row_of, tile_seen}
use Rattle.tile_least.specs.Least.{compared}
use Rattle.tile_least.proofs.Seeing.{rows_are, row_same, row-decides}
use Rattle.tile_least.proofs.least.compare_flips.Goals as goal
use Rattle.tile_least.proofs.least.compare_flips.Goals.{After-compare_rows-n, At-loop-y}

-- the two rows of a turn
abbrev one : At-loop-y → List ℤ
one i = let a = i.args in row_of a.src.now a.corner a.stride a.t a.ph a.pv i.loop-y.y

abbrev other : At-loop-y → List ℤ
other i = let a = i.args in row_of a.src.now a.corner a.stride a.t a.qh a.qv i.loop-y.y

read : (c : After-compare_rows-n)
    → c.compare_rows-n.result ≡ compared (one c.before.before.before.before) (other c.before.before.before.before)
read c =
    let a = c.args in
    rows_are a.src.now a.corner a.stride a.t a.ph a.pv a.qh a.qv c.loop-y.y
    c.compare_rows-n.ensures c.turn.ensures.0 c.turn-in-loop-y.ensures.0

pub loop-y-init : goal.loop-y-init
unfolding compared range flat_map
loop-y-init c = refl

pub returns-then-n-ne0 : goal.returns-then-n-ne0
returns-then-n-ne0 c =
    let a = c.args in
    let i = c.loop-y in
    row-decides a.src.now a.corner a.stride a.t a.ph a.pv a.qh a.qv i.y i.invariant (read (goal.at.returns-then-n-ne0 c).After-compare_rows-n)
    c.loop-y-test.true (search rules)

pub loop-y-preserved : goal.loop-y-preserved
loop-y-preserved c =
    let a = c.args in
    let i = c.loop-y in
    row_same a.src.now a.corner a.stride a.t a.ph a.pv a.qh a.qv i.y i.invariant (read (goal.at.loop-y-preserved c).After-compare_rows-n) (search rules)

pub returns : goal.returns
unfolding tile_seen
returns c = let e : c.loop-y.y ≡ c.args.t = omega arith in sym (rw e at c.loop-y.invariant)
