-- `change_no`: the checks in order. Assumes nothing.
use mathlib.Core.Path.{◌≡◌, sym, ◌∙◌}
use mathlib.Core.Bool.{false}
use mir.Syntax.{w16}
use Rattle.base.specs.Checks.{first_of}
use Rattle.base.proofs.Back.{by_result}
use Rattle.sheet.specs.Sheet.{stray}
use Rattle.edit.specs.Change.{outside}
use Rattle.edit.specs.Checks.{pixel_checks}
use Rattle.journal_read.specs.Number.{change_of}
use Rattle.journal_read.proofs.Placed.{new-of}
use Rattle.journal_read.proofs.change.change_no.Goals as goal
use Rattle.journal_read.proofs.change.change_no.Goals.{After-is_stray, Else-is_off}

-- past the first test the change is on the sheet
on : (c : Else-is_off) → let a = c.args in outside a.w a.h (change_of a.form a.w a.c) ≡ false
on c = sym c.is_off.ensures ∙ c.if-is_off.false

-- what is said of its new
aimed : (c : After-is_stray) → let a = c.args in c.is_stray.result ≡ stray a.k (change_of a.form a.w a.c).new
aimed c =
    let a = c.args in
    rw (new-of a.w a.c a.form) (by_result w16 (stray a.k) c.new_of.type_inv c.new_of.ensures c.is_stray.ensures)

pub returns-then-is_off : goal.returns-then-is_off
unfolding pixel_checks first_of
returns-then-is_off c indices = rw (sym c.is_off.ensures ∙ c.if-is_off.true)

pub returns-then-is_stray : goal.returns-then-is_stray
unfolding pixel_checks first_of
returns-then-is_stray c indices = rw (on (goal.at.returns-then-is_stray c).Else-is_off, sym (aimed (goal.at.returns-then-is_stray c).After-is_stray) ∙ c.if-is_stray.true)

pub returns : goal.returns
unfolding pixel_checks first_of
returns c indices = rw (on (goal.at.returns c).Else-is_off, sym (aimed (goal.at.returns c).After-is_stray) ∙ c.if-is_stray.false)
