-- `add_color`: 1 to 3, 8, 10. Assumes nothing.
use mathlib.Core.Path.{◌≡◌}
use mathlib.Core.List.{List, [], ◌++◌}
use borrow.Author.Tests.{le-leb, lt-leb}
use Rattle.base.specs.Checks.{Check, first_of, refused_or}
use Rattle.sheet.specs.Sheet.{sheet_of}
use Rattle.edit.specs.Checks.{permitted_of}
use Rattle.palette_model.specs.Colours.{palette_checks, add_color_of}
use Rattle.palette_model.proofs.Opening.{past-opened, refused-opened}
use Rattle.palette.proofs.colours.add_color.Goals as goal
use Rattle.palette.proofs.colours.add_color.Goals.{Else-no-ne0}

-- past the first test a call's own checks are left
past : (c : Else-no-ne0) → let a = c.args in (ds : List Check) → first_of (palette_checks [] (sheet_of a.w a.h a.k a.palette.now a.lab.now a.indices.now) (permitted_of a.limited a.permitted.now) ++ ds) ≡ first_of ds
past c = past-opened _ _ _ _ _ c.opened_no-no.ensures c.if-no-ne0.false

pub returns-then-no-ne0 : goal.returns-then-no-ne0
unfolding add_color_of
returns-then-no-ne0 c = refused-opened _ _ _ _ _ _ _ _ c.opened_no-no.ensures c.if-no-ne0.true

pub returns-then-k-ge-MAX_ENTRIES : goal.returns-then-k-ge-MAX_ENTRIES
unfolding add_color_of first_of refused_or
returns-then-k-ge-MAX_ENTRIES c = rw (past (goal.at.returns-then-k-ge-MAX_ENTRIES c).Else-no-ne0, le-leb _ _ c.if-k-ge-MAX_ENTRIES.true)

pub returns-then-check_color : goal.returns-then-check_color
unfolding add_color_of first_of refused_or
returns-then-check_color c = rw (past (goal.at.returns-then-check_color c).Else-no-ne0, lt-leb _ _ c.if-k-ge-MAX_ENTRIES.false, ← c.check_color.ensures, c.if-check_color.true)

pub returns : goal.returns
unfolding add_color_of first_of refused_or
returns c = rw (past (goal.at.returns c).Else-no-ne0, lt-leb _ _ c.if-k-ge-MAX_ENTRIES.false, ← c.check_color.ensures, c.if-check_color.false)
