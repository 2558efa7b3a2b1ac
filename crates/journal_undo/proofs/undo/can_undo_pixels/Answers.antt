-- `can_undo_pixels`: the two tests are the definition's. Assumes nothing.
use mathlib.Core.Path.{◌≡◌, refl, sym, ◌∙◌}
use mathlib.Core.Bool.{false}
use native.Mathlib.Omega.{arith}
use Rattle.base.specs.Lists.{some}
use Rattle.edit.specs.Change.{outside}
use Rattle.edit_pixels.proofs.Inside.{none-past}
use Rattle.journal_record.specs.Record.{changes_in}
use Rattle.journal_undo.specs.UndoTests.{pixels_back}
use Rattle.journal_undo.proofs.undo.can_undo_pixels.Goals as goal
use Rattle.journal_undo.proofs.undo.can_undo_pixels.Goals.{Else-any_outside_in}

-- past the first test none is off the sheet
inside : (c : Else-any_outside_in) → let a = c.args in some (outside a.w a.h) (changes_in a.form a.w a.journal.now a.at a.count) ≡ false
inside c = sym c.any_outside_in.ensures ∙ c.if-any_outside_in.false

pub returns-then-any_outside_in : goal.returns-then-any_outside_in
unfolding pixels_back
returns-then-any_outside_in c = record { indices_unchanged = refl; value = rw (sym c.any_outside_in.ensures ∙ c.if-any_outside_in.true) }

pub olds_stray-requires : goal.olds_stray-requires
olds_stray-requires c = let pre = c.requires in record { n_in_bounds = (pre.0, omega arith); n_value = none-past _ _ _ pre.2 _ (inside (goal.at.olds_stray-requires c).Else-any_outside_in); indices_value = pre.3 }

pub returns : goal.returns
unfolding pixels_back
returns c = record { indices_unchanged = c.olds_stray.ensures.indices_unchanged; value = rw (inside (goal.at.returns c).Else-any_outside_in, ← c.olds_stray.ensures.value) }
