-- `compare_rows`: the first x indices are the same. Assumes nothing.
use mathlib.Core.Path.{◌≡◌, refl, sym}
use native.Mathlib.Omega.{arith}
use borrow.Author.Rules.{rules}
use lib.IntN.{ℤ}
use mir.Syntax.{w16}
use Rattle.base.proofs.Back.{back}
use Rattle.base.specs.Lists.{range}
use Rattle.tile_cells.specs.Seen.{in_row, row_seen}
use Rattle.tile_cells.proofs.Lying.{in-row}
use Rattle.tile_least.specs.Least.{compared_z, compared}
use Rattle.tile_least.proofs.Seeing.{indices-are, index_same, index-decides}
use Rattle.tile_least.proofs.least.compare_rows.Goals as goal
use Rattle.tile_least.proofs.least.compare_rows.Goals.{After-compare-n, At-loop-x}

-- the two indices of a turn

abbrev one : At-loop-x → ℤ
one i = let a = i.args in in_row a.src.now a.p a.t a.ph i.loop-x.x

abbrev other : At-loop-x → ℤ
other i = let a = i.args in in_row a.src.now a.q a.t a.qh i.loop-x.x

read : (c : After-compare-n)
    → c.compare-n.result ≡ compared_z (one c.before.before.before.before.before.before) (other c.before.before.before.before.before.before)
read c =
    let a = c.args in
    let x = c.loop-x.x in
    indices-are a.src.now a.p a.q a.t a.ph a.qh x c.compare-n.ensures
    (in-row a.src.now a.p a.t a.ph x (back w16 _ (search rules)) c.turn.ensures.0)
    (in-row a.src.now a.q a.t a.qh x (back w16 _ (search rules)) c.turn-in-loop-x.ensures.0)

pub loop-x-init : goal.loop-x-init
unfolding compared range
loop-x-init c = refl

pub returns-then-n-ne0 : goal.returns-then-n-ne0
returns-then-n-ne0 c =
    let a = c.args in
    let i = c.loop-x in
    index-decides a.src.now a.p a.q a.t a.ph a.qh i.x i.invariant (read (goal.at.returns-then-n-ne0 c).After-compare-n) c.loop-x-test.true (search rules)

pub loop-x-preserved : goal.loop-x-preserved
loop-x-preserved c =
    let a = c.args in
    let i = c.loop-x in
    index_same a.src.now a.p a.q a.t a.ph a.qh i.x i.invariant (read (goal.at.loop-x-preserved c).After-compare-n) (search rules)

pub returns : goal.returns
unfolding row_seen
returns c = let e : c.loop-x.x ≡ c.args.t = omega arith in sym (rw e at c.loop-x.invariant)
