-- `clip_rgba`: 1 to 3, 17, 16, then the bytes. Assumes nothing.
use native.Mathlib.Nat.{mul-le-mul}
use native.Mathlib.Omega.{arith}
use borrow.Author.Rules.{rules}
use Rattle.sheet.specs.Sheet.{sheet_of}
use Rattle.sheet.specs.Checks.{WellFormed}
use Rattle.tool_clip.proofs.Answers.{rgba-sheet, rgba-wide, rgba-high, rgba-odd, rgba-short, rgba-done}
use Rattle.tool_clip.proofs.rgba.clip_rgba.Goals as goal
use Rattle.tool_clip.proofs.rgba.clip_rgba.Goals.{Else-no-ne0}

-- past the first test the sheet is well-formed
past : (c : Else-no-ne0) → let a = c.args in WellFormed (sheet_of a.w a.h a.k a.palette.now a.lab.now a.indices.now)
past c = c.check-no.ensures.fine c.if-no-ne0.false

pub returns-then-no-ne0 : goal.returns-then-no-ne0
returns-then-no-ne0 c = rgba-sheet _ _ _ _ _ _ c.check-no.ensures c.if-no-ne0.true

pub returns-then-clip_w-gt-MAX_SIDE : goal.returns-then-clip_w-gt-MAX_SIDE
returns-then-clip_w-gt-MAX_SIDE c = rgba-wide _ _ _ _ _ (past (goal.at.returns-then-clip_w-gt-MAX_SIDE c).Else-no-ne0) c.if-clip_w-gt-MAX_SIDE.true

pub returns-then-clip_h-gt-MAX_SIDE : goal.returns-then-clip_h-gt-MAX_SIDE
returns-then-clip_h-gt-MAX_SIDE c = rgba-high _ _ _ _ _ (past (goal.at.returns-then-clip_h-gt-MAX_SIDE c).Else-no-ne0) c.if-clip_w-gt-MAX_SIDE.false c.if-clip_h-gt-MAX_SIDE.true

pub overflow_mul-clip_w : goal.overflow_mul-clip_w
overflow_mul-clip_w c = omega (arith, mul-le-mul c.if-clip_w-gt-MAX_SIDE.false c.if-clip_h-gt-MAX_SIDE.false)

pub returns-then-clip-clip_w : goal.returns-then-clip-clip_w
returns-then-clip-clip_w c = rgba-odd _ _ _ _ _ (past (goal.at.returns-then-clip-clip_w c).Else-no-ne0) c.if-clip_w-gt-MAX_SIDE.false c.if-clip_h-gt-MAX_SIDE.false c.if-clip-clip_w.true

pub overflow_mul-bytes : goal.overflow_mul-bytes
overflow_mul-bytes c = omega (arith, mul-le-mul c.if-clip_w-gt-MAX_SIDE.false c.if-clip_h-gt-MAX_SIDE.false, c.if-clip-clip_w.false)

pub returns-then-out-bytes : goal.returns-then-out-bytes
returns-then-out-bytes c = rgba-short _ _ _ _ _ (past (goal.at.returns-then-out-bytes c).Else-no-ne0) c.if-clip_w-gt-MAX_SIDE.false c.if-clip_h-gt-MAX_SIDE.false c.if-clip-clip_w.false c.if-out-bytes.true

pub put_clip-requires : goal.put_clip-requires
put_clip-requires c = let l = (past (goal.at.put_clip-requires c).Else-no-ne0).limits in (l.k-small, l.palette-length, c.if-out-bytes.false)

pub returns : goal.returns
returns c = rgba-done _ _ _ _ _ (past (goal.at.returns c).Else-no-ne0) c.if-clip_w-gt-MAX_SIDE.false c.if-clip_h-gt-MAX_SIDE.false c.if-clip-clip_w.false c.if-out-bytes.false _ c.put_clip.ensures
