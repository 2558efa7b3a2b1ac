-- `can_undo_remove`: the tests are the definition's, in its order. Assumes nothing.
use mathlib.Core.Path.{◌≡◌, refl, sym, ◌∙◌}
use mathlib.Core.Bool.{true, false}
use Prim.Native.Nat.{◌+◌}
use native.Mathlib.Numerals.{add-one}
use native.Mathlib.Omega.{arith}
use borrow.Author.Tests.{le-leb, lt-leb, lt-ltb, le-ltb}
use lib.Dec.{leb}
use lib.ListN.{get_or}
use Rattle.base.specs.Lists.{some}
use Rattle.sheet.proofs.Strays.{stray-more}
use Rattle.edit.specs.Change.{outside}
use Rattle.journal_record.specs.Record.{changes_in}
use Rattle.edit_pixels.proofs.Inside.{none-past}
use Rattle.journal_undo.specs.UndoTests.{remove_back}
use Rattle.journal_undo.proofs.undo.can_undo_remove.Goals as goal
use Rattle.journal_undo.proofs.undo.can_undo_remove.Goals.{Else-any_outside_in, Else-k-index}

-- past the first test the entry is one of the palette's or behind it; past the second none is off the sheet
entry : (c : Else-k-index) → let a = c.args in leb (get_or a.journal.now (a.start + 1) 0) a.k ≡ true
entry c = rw (← c.entry_at-index.ensures.0) (le-leb _ _ c.if-k-index.false)

inside : (c : Else-any_outside_in) → let a = c.args in some (outside a.w a.h) (changes_in a.form a.w a.journal.now (a.start + 33) a.count) ≡ false
inside c = sym c.any_outside_in.ensures ∙ c.if-any_outside_in.false

pub returns-then-k-index : goal.returns-then-k-index
unfolding remove_back
returns-then-k-index c = record { indices_unchanged = refl; value = rw (← c.entry_at-index.ensures.0, lt-leb _ _ c.if-k-index.true) }

pub returns-then-any_outside_in : goal.returns-then-any_outside_in
unfolding remove_back
returns-then-any_outside_in c = record { indices_unchanged = refl; value = rw (entry (goal.at.returns-then-any_outside_in c).Else-k-index, ← c.any_outside_in.ensures, c.if-any_outside_in.true) }

pub returns-then-k-ge-MAX_ENTRIES : goal.returns-then-k-ge-MAX_ENTRIES
unfolding remove_back
returns-then-k-ge-MAX_ENTRIES c = record { indices_unchanged = refl; value = rw (entry (goal.at.returns-then-k-ge-MAX_ENTRIES c).Else-k-index, inside (goal.at.returns-then-k-ge-MAX_ENTRIES c).Else-any_outside_in, le-ltb _ _ c.if-k-ge-MAX_ENTRIES.true) }

pub returns-then-unfit_lab_in : goal.returns-then-unfit_lab_in
unfolding remove_back
returns-then-unfit_lab_in c = record { indices_unchanged = refl; value = rw (entry (goal.at.returns-then-unfit_lab_in c).Else-k-index, inside (goal.at.returns-then-unfit_lab_in c).Else-any_outside_in, lt-ltb _ _ c.if-k-ge-MAX_ENTRIES.false, ← c.unfit_lab_in.ensures, c.if-unfit_lab_in.true) }

pub olds_stray-requires : goal.olds_stray-requires
olds_stray-requires c =
    let pre = c.requires in
    record { n_in_bounds = (pre.0, omega arith); n_value = none-past _ _ _ pre.2 _ (inside (goal.at.olds_stray-requires c).Else-any_outside_in); indices_value = stray-more _ _ _ (omega arith) pre.3 }

pub returns : goal.returns
unfolding remove_back
returns c = record { indices_unchanged = c.olds_stray.ensures.indices_unchanged; value = rw (entry (goal.at.returns c).Else-k-index, inside (goal.at.returns c).Else-any_outside_in, lt-ltb _ _ c.if-k-ge-MAX_ENTRIES.false, ← c.unfit_lab_in.ensures, c.if-unfit_lab_in.false, ← add-one c.args.k, ← c.olds_stray.ensures.value) }
