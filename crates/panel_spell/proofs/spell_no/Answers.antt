-- `spell_no`: the sides, 1 to 3, then the room. Assumes nothing.
use native.Mathlib.Omega.{arith}
use Rattle.sheet.specs.Checks.{WellFormed}
use Rattle.sheet.specs.Sheet.{sheet_of}
use Rattle.panel_spell.proofs.Judging.{too_wide, too-tall, no-sheet, too_short, spellable}
use Rattle.panel_spell.proofs.spell_no.Goals as goal
use Rattle.panel_spell.proofs.spell_no.Goals.{Else-no-ne0}

-- past 1 to 3 the sheet is well-formed
past : (c : Else-no-ne0) → let a = c.args in WellFormed (sheet_of a.w a.h a.k a.palette.now a.lab.now a.indices.now)
past c = c.check-no.ensures.fine c.if-no-ne0.false

pub returns-then-w-gt-MAX_OPEN : goal.returns-then-w-gt-MAX_OPEN
returns-then-w-gt-MAX_OPEN c = too_wide _ _ c.if-w-gt-MAX_OPEN.true

pub returns-then-h-gt-MAX_OPEN : goal.returns-then-h-gt-MAX_OPEN
returns-then-h-gt-MAX_OPEN c = too-tall _ _ c.if-w-gt-MAX_OPEN.false c.if-h-gt-MAX_OPEN.true

pub returns-then-no-ne0 : goal.returns-then-no-ne0
returns-then-no-ne0 c = no-sheet _ _ c.if-w-gt-MAX_OPEN.false c.if-h-gt-MAX_OPEN.false _ c.check-no.ensures c.if-no-ne0.true

pub returns-then-room-line_length : goal.returns-then-room-line_length
returns-then-room-line_length c =
    too_short _ _ c.if-w-gt-MAX_OPEN.false c.if-h-gt-MAX_OPEN.false (past (goal.at.returns-then-room-line_length c).Else-no-ne0)
    (omega (arith, c.if-room-line_length.true, c.line_length.ensures))

pub returns : goal.returns
returns c =
    spellable _ _ c.if-w-gt-MAX_OPEN.false c.if-h-gt-MAX_OPEN.false (past (goal.at.returns c).Else-no-ne0)
    (omega (arith, c.if-room-line_length.false, c.line_length.ensures))
