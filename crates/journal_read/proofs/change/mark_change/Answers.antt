-- `mark_change`: past the first check a change stands in the picture, so that it has a mark. Assumes nothing.
use mathlib.Core.Path.{◌≡◌, refl, sym, ◌∙◌}
use mathlib.Core.Bool.{false}
use native.Mathlib.Omega.{arith}
use Rattle.base.specs.Checks.{first_of}
use Rattle.edit.specs.Change.{outside}
use Rattle.edit.specs.Checks.{remap_checks}
use Rattle.edit_pixels.proofs.Inside.{inside}
use Rattle.journal_read.specs.Number.{change_of}
use Rattle.journal_read.proofs.Placed.{place_of, misdirected-of}
use Rattle.journal_read.proofs.change.mark_change.Goals as goal
use Rattle.journal_read.proofs.change.mark_change.Goals.{Else-is_off}

-- past the first test the change is on the sheet
on : (c : Else-is_off) → let a = c.args in outside a.w a.h (change_of a.form a.w a.c) ≡ false
on c = sym c.is_off.ensures ∙ c.if-is_off.false

pub returns-then-is_off : goal.returns-then-is_off
unfolding remap_checks first_of
returns-then-is_off c = (rw (sym c.is_off.ensures ∙ c.if-is_off.true), refl)

pub mark_inside-requires : goal.mark_inside-requires
mark_inside-requires c =
    let a = c.args in
    (c.requires.0, rw (c.row_width.ensures, ← place_of a.w a.c a.form) (inside a.w a.h _ c.requires.1 _ (on (goal.at.mark_inside-requires c).Else-is_off)), omega (arith, c.requires.1, c.requires.2))

pub returns : goal.returns
unfolding remap_checks first_of
returns c =
    let a = c.args in
    let row = c.row_width.ensures in
    let said = c.mark_inside.ensures in
    (rw (on (goal.at.returns c).Else-is_off, misdirected-of a.form a.w a.h, ← row) (said.0 a.h), rw (place_of a.w a.c a.form, ← row) said.1)
