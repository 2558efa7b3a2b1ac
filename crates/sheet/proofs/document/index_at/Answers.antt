-- `index_at`: the two coordinates on their axes. Assumes nothing.
use mathlib.Core.Path.{◌≡◌, ap, ◌∙◌}
use Prim.Native.Nat.{◌+◌, ◌*◌, ◌<◌}
use native.Mathlib.Omega.{arith}
use lib.IntN.{ℤ, pos}
use lib.ListN.{length, get_or}
use mir.Syntax.{w16}
use mir.Facts.{to_z-of_z}
use Rattle.base.specs.Ints.{on_axis}
use mir.Val.{SFits}
use borrow.Author.Rules.{rules}
use mathlib.Core.Option.{some}
use Rattle.base.specs.Answer.Told.{result}
use Rattle.sheet.proofs.Places.{place, index-inside, off-column, off-row}
use Rattle.sheet.proofs.document.index_at.Goals as goal
use Rattle.sheet.proofs.document.index_at.Goals.{After-on_axis-row, Then-row-h}

-- where the two coordinates fall
column : (c : After-on_axis-row) → c.on_axis-column.result ≡ on_axis c.args.x c.args.w
column c = rw (to_z-of_z c.ranges.x) at c.on_axis-column.ensures

row : (c : After-on_axis-row) → c.on_axis-row.result ≡ on_axis c.args.y c.args.h
row c = rw (to_z-of_z c.ranges.y) at c.on_axis-row.ensures

-- the place is one of the sheet's
here : (c : Then-row-h) → c.on_axis-row.result * c.args.w + c.on_axis-column.result < length c.args.indices.now
here c = omega (arith, place {w = c.args.w} c.if-row-h.true c.if-column-w.true)

pub overflow_mul-result : goal.overflow_mul-result
overflow_mul-result c = omega (arith, here c)

pub overflow_add-result : goal.overflow_add-result
overflow_add-result c = omega (arith, here c)

pub offset_bounds-indices-row : goal.offset_bounds-indices-row
offset_bounds-indices-row c = omega (arith, here c)

pub bounds-indices-row : goal.bounds-indices-row
bounds-indices-row c = here c

pub returns-then-row-h : goal.returns-then-row-h
returns-then-row-h c =
    let z : ℤ = get_or c.args.indices.now (c.on_axis-row.result * c.args.w + c.on_axis-column.result) (pos 0) in
    let fits : SFits w16 z = search rules in
    ap (λ (z : ℤ). result (some z)) (to_z-of_z fits)
    ∙ ap result (index-inside _ _ _ _ _ _ _ (column c.before.before.before) (row c.before.before.before) c.if-column-w.true c.if-row-h.true)

pub returns-else-row-h : goal.returns-else-row-h
returns-else-row-h c = ap result (off-row _ _ _ _ _ (rw (row c.before.before) at c.if-row-h.false))

pub returns-else-column-w : goal.returns-else-column-w
returns-else-column-w c = ap result (off-column _ _ _ _ _ (rw (column c.before) at c.if-column-w.false))
