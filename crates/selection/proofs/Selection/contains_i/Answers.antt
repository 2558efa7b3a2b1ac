-- `contains_i`: a negative coordinate is outside, and for the others `contains` decides. Assumes nothing.
use mathlib.Core.Path.{◌≡◌, sym, ◌∙◌}
use mathlib.Core.Bool.{false}
use borrow.Author.Rules.{rules}
use mir.Facts.{to_z-of_z}
use Rattle.base.specs.Checks.{first_of, refused_or}
use Rattle.base.specs.Ints.{from_zero}
use Rattle.base.proofs.Back.{by_value, by_values}
use Rattle.selection.specs.Selection.{contains, contains_i}
use Rattle.selection.specs.Calls.{far_away, contains_iof}
use Rattle.selection.proofs.Pointer.{left-of, above, unsigned}
use Rattle.selection.proofs.Selection.contains_i.Goals as goal
use Rattle.selection.proofs.Selection.contains_i.Goals.{After-contains, After-far_away, Else-far_away}

far-is : (c : After-far_away) → c.far_away.result ≡ far_away c.args.x c.args.y
far-is c = by_values far_away c.ranges.x c.ranges.y c.far_away.ensures

near : (c : Else-far_away) → far_away c.args.x c.args.y ≡ false
near c = sym (far-is c.before) ∙ c.if-far_away.false

held : (c : After-contains) → let s = c.args in c.contains.result ≡ contains_i s.self s.x s.y
held c =
    let fits = c.ranges in
    let x = by_value from_zero fits.x c.from_zero.ensures in
    let y = by_value from_zero fits.y c.from_zero-2.ensures in
    let right = rw (to_z-of_z fits.x) at c.if-x-lt0.false in
    let below = rw (to_z-of_z fits.y) at c.if-y-lt0.false in
    (rw (x, y) at c.contains.ensures) ∙ unsigned _ _ _ right below

pub returns-then-far_away : goal.returns-then-far_away
unfolding contains_iof first_of refused_or
returns-then-far_away c = rw (← far-is c.before, c.if-far_away.true)

pub returns-then-x-lt0 : goal.returns-then-x-lt0
unfolding contains_iof first_of refused_or
returns-then-x-lt0 c = rw (near c.before, left-of _ _ _ (rw (to_z-of_z c.ranges.x) at c.if-x-lt0.true))

pub returns-then-y-lt0 : goal.returns-then-y-lt0
unfolding contains_iof first_of refused_or
returns-then-y-lt0 c = rw (near c.before.before, above _ _ _ (rw (to_z-of_z c.ranges.y) at c.if-y-lt0.true))

pub returns-then-contains : goal.returns-then-contains
unfolding contains_iof first_of refused_or
returns-then-contains c = rw (near c.before.before.before.before.before.before, ← held c.before, c.if-contains.true)

pub returns : goal.returns
unfolding contains_iof first_of refused_or
returns c = rw (near c.before.before.before.before.before.before, ← held c.before, c.if-contains.false)
