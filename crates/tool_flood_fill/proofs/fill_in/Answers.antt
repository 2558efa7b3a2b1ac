-- `fill_in`: outside, filled already, or flooded. Assumes nothing.
use Prim.Native.Nat.{◌+◌, ◌*◌, ◌<◌, ◌≤◌}
use mathlib.Core.Path.{◌≡◌, sym, ◌∙◌}
use mathlib.Core.Bool.{true}
use native.Mathlib.Omega.{arith}
use native.Mathlib.Nat.{mul-le-mul}
use lib.IntN.{pos}
use lib.ListN.{length, get_or}
use mir.Syntax.{w16}
use mir.Facts.{to_z-of_z}
use borrow.Author.Tests.{not-true, not-false}
use Rattle.base.specs.Ints.{eq_z, from_zero}
use Rattle.base.proofs.Back.{back, by_value, by_values}
use Rattle.selection.specs.Selection.{contains_i}
use Rattle.tool_fill_model.specs.Fill.{start_of}
use Rattle.tool_fill_model.proofs.Points.{OnSheet, on-sheet, start-on, rows_few}
use Rattle.tool_fill_model.proofs.Results.{none-front, not-held, filled-already, is-filled}
use borrow.Author.Rules.{rules}
use Rattle.tool_flood_fill.proofs.fill_in.Goals as goal
use Rattle.tool_flood_fill.proofs.fill_in.Goals.{After-from_zero, After-from_zero-2, After-holds, After-same, Else-not-holds, Start}

-- whether the point is in the region, and where it is then
holds-is : (c : After-holds) → let a = c.args in c.holds.result ≡ contains_i a.region a.x a.y
holds-is c = by_values (contains_i c.args.region) c.ranges.x c.ranges.y c.holds.ensures

held : (c : Else-not-holds) → let a = c.args in contains_i a.region a.x a.y ≡ true
held c = sym (holds-is (goal.at.Else-not-holds c).After-holds) ∙ c.if-not-holds.false

on : (c : Else-not-holds) → let a = c.args in OnSheet a.w a.h a.x a.y
on c = on-sheet _ _ _ _ _ (held c) c.requires.on

row_is : (c : After-from_zero) → c.from_zero.result ≡ from_zero c.args.y
row_is c = by_value from_zero c.ranges.y c.from_zero.ensures

column-is : (c : After-from_zero-2) → c.from_zero-2.result ≡ from_zero c.args.x
column-is c = by_value from_zero c.ranges.x c.from_zero-2.ensures

start_is : (c : After-from_zero-2) → let a = c.args in c.from_zero.result * a.w + c.from_zero-2.result ≡ start_of a.w a.x a.y
start_is c = rw (row_is (goal.at.After-from_zero-2 c).After-from_zero, column-is c)

-- it is a place of the sheet
inside : (c : After-from_zero-2) → let a = c.args in c.from_zero.result * a.w + c.from_zero-2.result < length a.indices.now
inside c = let p = c.requires in rw p.size (start-on _ _ (on (goal.at.After-from_zero-2 c).Else-not-holds) (row_is (goal.at.After-from_zero-2 c).After-from_zero) (column-is c))

size : (c : Start) → length c.args.indices.now ≤ 1048576
size c = let p = c.requires in rw p.size (mul-le-mul p.narrow p.low)

-- whether it has the index
compared : (c : After-same) → let a = c.args in eq_z (get_or a.indices.now (start_of a.w a.x a.y) (pos 0)) a.index ≡ c.same.result
compared c =
    let a = c.args in
    let at = c.from_zero.result * a.w + c.from_zero-2.result in
    rw (← start_is (goal.at.After-same c).After-from_zero-2) (sym (rw (back w16 (get_or a.indices.now at (pos 0)) c.same-arg-1.given, to_z-of_z c.ranges.index) at c.same.ensures))

pub returns-then-not-holds : goal.returns-then-not-holds
returns-then-not-holds c = none-front _ _ (not-held _ _ _ _ _ _ (sym (holds-is (goal.at.returns-then-not-holds c).After-holds) ∙ c.if-not-holds.true))

pub overflow_mul-start : goal.overflow_mul-start
overflow_mul-start c = record { fits = (let o = (on (goal.at.overflow_mul-start c).Else-not-holds).row in let p = c.requires in let l = p.low in let k : c.from_zero.result ≤ 1024 = omega (arith, row_is c) in omega (arith, mul-le-mul k p.narrow)) }

pub overflow_add-start : goal.overflow_add-start
overflow_add-start c = record { fits = omega (arith, inside c, size (goal.at.overflow_add-start c).Start) }

pub offset_bounds-indices-start : goal.offset_bounds-indices-start
offset_bounds-indices-start c = record { fits = omega (arith, inside c, size (goal.at.offset_bounds-indices-start c).Start) }

pub bounds-indices-start : goal.bounds-indices-start
bounds-indices-start c = inside c

pub returns-then-same : goal.returns-then-same
returns-then-same c = none-front _ _ (filled-already _ _ _ _ _ _ (held (goal.at.returns-then-same c).Else-not-holds) (compared (goal.at.returns-then-same c).After-same ∙ c.if-same.true))

pub flood_in-requires : goal.flood_in-requires
flood_in-requires c = let p = c.requires in let o = (on (goal.at.flood_in-requires c).Else-not-holds).column in (omega arith, p.narrow, rw p.size (rows_few _ _ p.low), inside (goal.at.flood_in-requires c).After-from_zero-2, rw p.size p.space)

pub returns : goal.returns
returns c = rw (is-filled _ _ _ _ _ _ (held (goal.at.returns c).Else-not-holds) (compared (goal.at.returns c).After-same ∙ c.if-same.false)) (rw (start_is (goal.at.returns c).After-from_zero-2, to_z-of_z c.ranges.index) at c.flood_in.ensures)
