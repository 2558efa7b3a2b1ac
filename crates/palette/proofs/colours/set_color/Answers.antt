-- `set_color`: 1 to 3 with the marks, 7, 24, 10. Assumes nothing.
use mathlib.Core.Path.{◌≡◌}
use mathlib.Core.List.{List, ◌++◌}
use native.Mathlib.Omega.{arith}
use borrow.Author.Tests.{le-leb, lt-leb}
use Rattle.base.specs.Checks.{Check, first_of, refused_or}
use Rattle.sheet.specs.Sheet.{sheet_of}
use Rattle.sheet.specs.Checks.{mark_checks}
use Rattle.edit.specs.Checks.{permitted_of}
use Rattle.palette_model.specs.Colours.{palette_checks, set_checks, set_color_of}
use Rattle.palette_model.proofs.Opening.{past-opened, refused-opened}
use Rattle.palette.proofs.colours.set_color.Goals as goal
use Rattle.palette.proofs.colours.set_color.Goals.{Else-no-ne0}

-- past the first test a call's own checks are left
past : (c : Else-no-ne0) → let a = c.args in (ds : List Check)
    → first_of (palette_checks (mark_checks a.locks.now) (sheet_of a.w a.h a.k a.palette.now a.lab.now a.indices.now) (permitted_of a.limited a.permitted.now) ++ ds) ≡ first_of ds
past c = past-opened _ _ _ _ _ c.marked_no-no.ensures c.if-no-ne0.false

pub returns-then-no-ne0 : goal.returns-then-no-ne0
unfolding set_color_of
returns-then-no-ne0 c = refused-opened _ _ _ _ _ _ _ _ c.marked_no-no.ensures c.if-no-ne0.true

pub returns-then-k-index : goal.returns-then-k-index
unfolding set_color_of set_checks first_of refused_or
returns-then-k-index c = rw (past (goal.at.returns-then-k-index c).Else-no-ne0, le-leb _ _ c.if-k-index.true)

pub bounds-locks-index : goal.bounds-locks-index
bounds-locks-index c = let m = c.marked_no-no.ensures.fine c.if-no-ne0.false in omega (arith, m.marks, m.formed.limits.k-small)

pub returns-then-locks-index : goal.returns-then-locks-index
unfolding set_color_of set_checks first_of refused_or
returns-then-locks-index c = rw (past (goal.at.returns-then-locks-index c).Else-no-ne0, lt-leb _ _ c.if-k-index.false, c.if-locks-index.true)

pub returns-then-check_color : goal.returns-then-check_color
unfolding set_color_of set_checks first_of refused_or
returns-then-check_color c =
    rw (past (goal.at.returns-then-check_color c).Else-no-ne0, lt-leb _ _ c.if-k-index.false, c.if-locks-index.false, ← c.check_color.ensures, c.if-check_color.true)

pub rgb_at-old-requires : goal.rgb_at-old-requires
rgb_at-old-requires c = let f = (c.marked_no-no.ensures.fine c.if-no-ne0.false).formed.limits in omega arith

pub returns : goal.returns
unfolding set_color_of set_checks first_of refused_or
returns c =
    rw (past (goal.at.returns c).Else-no-ne0, lt-leb _ _ c.if-k-index.false, c.if-locks-index.false, ← c.check_color.ensures, c.if-check_color.false, ← c.rgb_at-old.ensures, ← c.no_lab-old_lab.ensures)
