-- `copy`: 1 to 3, 5, 16, then the region's indices. Assumes nothing.
use mathlib.Core.List.{[], ◌∷◌}
use Prim.Native.Nat.{◌≤◌}
use native.Mathlib.Nat.{mul-le-mul}
use native.Mathlib.Omega.{arith}
use borrow.Author.Rules.{rules}
use Rattle.sheet.specs.Sheet.{sheet_of}
use Rattle.sheet.specs.Checks.{WellFormed}
use Rattle.selection.proofs.Regions.{Found, region-found, region-none, fits-region}
use Rattle.tool_clip.proofs.Answers.{copy-sheet, copy-off, copy-short, copy_done}
use Rattle.tool_clip.proofs.copying.copy.Goals as goal
use Rattle.tool_clip.proofs.copying.copy.Goals.{Else-no-ne0, In-Part}

-- past the first test the sheet is well-formed
past : (c : Else-no-ne0) → let a = c.args in WellFormed (sheet_of a.w a.h a.k a.palette.now a.lab.now a.indices.now)
past c = c.check-no.ensures.fine c.if-no-ne0.false

-- the region
found : (c : In-Part) → let a = c.args in Found a.area a.w a.h c.in-Part.s
found c = let l = (past (goal.at.In-Part c).Else-no-ne0).limits in region-found _ _ l.w-small l.h-small _ _ c.region.ensures c.in-Part.is

pub returns-then-no-ne0 : goal.returns-then-no-ne0
returns-then-no-ne0 c = copy-sheet _ _ _ _ c.check-no.ensures c.if-no-ne0.true

pub returns-in_default : goal.returns-in_default
returns-in_default c =
    let f = past (goal.at.returns-in_default c).Else-no-ne0 in
    copy-off _ _ _ f (region-none _ _ f.limits.w-small f.limits.h-small _ c.region.result c.region.ensures c.in_default.not-Part)

pub overflow_mul-width : goal.overflow_mul-width
overflow_mul-width c =
    let s = c.in-Part.s in
    let across : s.w ≤ 65535 = omega arith in
    let down : s.h ≤ 65535 = omega arith in
    omega (arith, mul-le-mul {n₂ = 65535} {m₂ = 65535} across down)

pub returns-then-out-width : goal.returns-then-out-width
returns-then-out-width c = let f = found (goal.at.returns-then-out-width c).In-Part in copy-short _ _ _ (past (goal.at.returns-then-out-width c).Else-no-ne0) f.unrefused _ f.value c.if-out-width.true

pub copy_rows-requires : goal.copy_rows-requires
copy_rows-requires c =
    let l = (past (goal.at.copy_rows-requires c).Else-no-ne0).limits in
    (fits-region _ _ _ l.w-small l.h-small _ l.indices-length (found (goal.at.copy_rows-requires c).In-Part).fits, c.if-out-width.false)

pub returns : goal.returns
returns c = let f = found (goal.at.returns c).In-Part in copy_done _ _ _ (past (goal.at.returns c).Else-no-ne0) f.unrefused _ f.value c.if-out-width.false _ c.copy_rows.ensures
