-- `fill_global`: 1 to 3, 15, 5, then the pixel at the position and the changes. Assumes nothing.
use mathlib.Core.Path.{◌≡◌, sym, ◌∙◌}
use mathlib.Core.Bool.{true, false}
use mathlib.Core.List.{[], ◌∷◌}
use Prim.Native.Nat.{◌+◌, ◌*◌, ◌<◌}
use native.Mathlib.Omega.{arith}
use borrow.Author.Rules.{rules}
use lib.ListN.{length}
use mir.Syntax.{w16}
use mir.Facts.{to_z-of_z}
use types.Run.{miss}
use Rattle.base.specs.Ints.{far, from_zero}
use Rattle.base.proofs.Back.{back}
use Rattle.sheet.specs.Sheet.{sheet_of}
use Rattle.sheet.specs.Checks.{WellFormed}
use Rattle.sheet.proofs.Places.{place}
use Rattle.selection.specs.Selection.{contains_i}
use Rattle.selection.specs.Calls.{held_told, contains_iof}
use Rattle.selection.proofs.Regions.{Found, region-found, region-none, fits-region}
use Rattle.tool_fill_model.proofs.Answers.{Pointed, pointed, held-inside, held-outside, global-sheet, global-far-x, global-far-y, global-off, global-outside, global-inside}
use Rattle.tool_replace.proofs.fill_global.Goals as goal
use Rattle.tool_replace.proofs.fill_global.Goals.{After-contains_i, After-from_zero, After-from_zero-2, After-is_far, After-is_far-2, Else-is_far, Else-is_far-2, Else-no-ne0, In-Inside, In-Part}

-- past the first test the sheet is well-formed
past : (c : Else-no-ne0) → let a = c.args in WellFormed (sheet_of a.w a.h a.k a.palette.now a.lab.now a.indices.now)
past c = c.check-no.ensures.fine c.if-no-ne0.false

-- what 15 finds
far-x : (c : After-is_far) → far c.args.x ≡ c.is_far.result
far-x c = sym (rw (to_z-of_z c.ranges.x) at c.is_far.ensures)

far-y : (c : After-is_far-2) → far c.args.y ≡ c.is_far-2.result
far-y c = sym (rw (to_z-of_z c.ranges.y) at c.is_far-2.ensures)

near-x : (c : Else-is_far) → far c.args.x ≡ false
near-x c = far-x (goal.at.Else-is_far c).After-is_far ∙ c.if-is_far.false

near-y : (c : Else-is_far-2) → far c.args.y ≡ false
near-y c = far-y (goal.at.Else-is_far-2 c).After-is_far-2 ∙ c.if-is_far-2.false

-- the region, and whether the position is in it
found : (c : In-Part) → let a = c.args in Found a.area a.w a.h c.in-Part.s
found c = let l = (past (goal.at.In-Part c).Else-no-ne0).limits in region-found _ _ l.w-small l.h-small _ _ c.region.ensures c.in-Part.is

held : (c : After-contains_i) → let a = c.args in held_told c.contains_i.result ≡ contains_iof c.in-Part.s a.x a.y
held c = rw (to_z-of_z c.ranges.x, to_z-of_z c.ranges.y) at c.contains_i.ensures

inside : (c : In-Inside) → let a = c.args in contains_i c.in-Part.s a.x a.y ≡ true
inside c = held-inside _ _ _ (near-x (goal.at.In-Inside c).Else-is_far) (near-y (goal.at.In-Inside c).Else-is_far-2) (held (goal.at.In-Inside c).After-contains_i) c.in-Inside.is

on : (c : In-Inside) → let a = c.args in Pointed a.w a.h a.indices.now a.x a.y
on c = pointed _ _ _ _ (found (goal.at.In-Inside c).In-Part).fits _ _ (inside c)

-- the position's row and column
row : (c : After-from_zero) → c.from_zero.result ≡ from_zero c.args.y
row c = rw (to_z-of_z c.ranges.y) at c.from_zero.ensures

column : (c : After-from_zero-2) → c.from_zero-2.result ≡ from_zero c.args.x
column c = rw (to_z-of_z c.ranges.x) at c.from_zero-2.ensures

below : (c : After-from_zero) → let a = c.args in c.from_zero.result * a.w + from_zero a.x < length a.indices.now
below c =
    let a = c.args in
    let down : c.from_zero.result < a.h = omega (arith, row c, (on (goal.at.After-from_zero c).In-Inside).row) in
    omega (arith, place {w = a.w} down (on (goal.at.After-from_zero c).In-Inside).column, (past (goal.at.After-from_zero c).Else-no-ne0).limits.indices-length)

here : (c : After-from_zero-2) → let a = c.args in c.from_zero.result * a.w + c.from_zero-2.result < length a.indices.now
here c = omega (arith, below (goal.at.After-from_zero-2 c).After-from_zero, column c)

pub returns-then-no-ne0 : goal.returns-then-no-ne0
returns-then-no-ne0 c = global-sheet _ _ _ _ _ _ _ c.check-no.ensures c.if-no-ne0.true

pub returns-then-is_far : goal.returns-then-is_far
returns-then-is_far c = global-far-x _ _ _ _ _ _ (past (goal.at.returns-then-is_far c).Else-no-ne0) (far-x (goal.at.returns-then-is_far c).After-is_far ∙ c.if-is_far.true)

pub returns-then-is_far-2 : goal.returns-then-is_far-2
returns-then-is_far-2 c = global-far-y _ _ _ _ _ _ (past (goal.at.returns-then-is_far-2 c).Else-no-ne0) (near-x (goal.at.returns-then-is_far-2 c).Else-is_far) (far-y (goal.at.returns-then-is_far-2 c).After-is_far-2 ∙ c.if-is_far-2.true)

pub returns-in_default : goal.returns-in_default
returns-in_default c =
    let f = past (goal.at.returns-in_default c).Else-no-ne0 in
    global-off _ _ _ _ _ _ f (near-x (goal.at.returns-in_default c).Else-is_far) (near-y (goal.at.returns-in_default c).Else-is_far-2)
    (region-none _ _ f.limits.w-small f.limits.h-small _ c.region.result c.region.ensures c.in_default.not-Part)

pub returns-in_default-contains_i : goal.returns-in_default-contains_i
returns-in_default-contains_i c =
    let f = found (goal.at.returns-in_default-contains_i c).In-Part in
    let x = near-x (goal.at.returns-in_default-contains_i c).Else-is_far in
    let y = near-y (goal.at.returns-in_default-contains_i c).Else-is_far-2 in
    global-outside _ _ _ _ _ _ (past (goal.at.returns-in_default-contains_i c).Else-no-ne0) x y f.unrefused _ f.value
    (held-outside _ _ _ x y c.contains_i.result (held (goal.at.returns-in_default-contains_i c).After-contains_i) c.in_default-contains_i.not-Inside)

pub overflow_mul-at : goal.overflow_mul-at
overflow_mul-at c = omega (arith, below c)

pub overflow_add-at : goal.overflow_add-at
overflow_add-at c = omega (arith, here c)

pub offset_bounds-indices-at : goal.offset_bounds-indices-at
offset_bounds-indices-at c = omega (arith, here c)

pub bounds-indices-at : goal.bounds-indices-at
bounds-indices-at c = here c

pub replace_in-requires : goal.replace_in-requires
replace_in-requires c = let l = (past (goal.at.replace_in-requires c).Else-no-ne0).limits in fits-region _ _ _ l.w-small l.h-small _ l.indices-length (found (goal.at.replace_in-requires c).In-Part).fits

pub returns : goal.returns
returns c =
    let f = found (goal.at.returns c).In-Part in
    (rw (back w16 _ c.from-1.given, to_z-of_z c.ranges.index, row (goal.at.returns c).After-from_zero, column (goal.at.returns c).After-from_zero-2) at c.replace_in.ensures)
    ∙ global-inside _ _ _ _ _ _ (past (goal.at.returns c).Else-no-ne0) (near-x (goal.at.returns c).Else-is_far) (near-y (goal.at.returns c).Else-is_far-2) f.unrefused _ f.value (inside (goal.at.returns c).In-Inside) (on (goal.at.returns c).In-Inside)
