-- `counting::count_one` meets its contract: by the sign, the entry is read or the table keeps. Assumes nothing.
use native.Mathlib.Omega.{arith}
use borrow.Author.Rules.{rules}
use lib.IntN.{nat_abs}
use mir.Syntax.{w16}
use mir.Val.{to_z, of_z}
use mir.Facts.{to_z-of_z}
use Rattle.base.proofs.Back.{as-usize}
use Rattle.sheet_counts.proofs.Turns.{Entry, entry_read, none-counted}
use Rattle.sheet_counts.proofs.counting.count_one.Goals as goal
use Rattle.sheet_counts.proofs.counting.count_one.Goals.{Else-z-lt0}

entry : (c : Else-z-lt0) → Entry c.args.out.now c.args.z (nat_abs (to_z w16 (of_z w16 c.args.z)))
entry c = entry_read c.ranges.z c.if-z-lt0.false c.requires

pub returns-then-z-lt0 : goal.returns-then-z-lt0
returns-then-z-lt0 c = none-counted _ _ (rw (to_z-of_z c.ranges.z) at c.if-z-lt0.true)

pub overflow_cast-at : goal.overflow_cast-at
overflow_cast-at c = as-usize tt c.ranges.z c.if-z-lt0.false

pub offset_bounds-out-at : goal.offset_bounds-out-at
offset_bounds-out-at c = let h = (entry c).inside in search rules

pub bounds-out-at : goal.bounds-out-at
bounds-out-at c = (entry (goal.at.bounds-out-at c).Else-z-lt0).inside

pub overflow_add-out : goal.overflow_add-out
overflow_add-out c = omega (arith, (entry (goal.at.overflow_add-out c).Else-z-lt0).small)

pub bounds-out-at-2 : goal.bounds-out-at-2
bounds-out-at-2 c = (entry (goal.at.bounds-out-at-2 c).Else-z-lt0).inside

pub returns : goal.returns
returns c = (entry (goal.at.returns c).Else-z-lt0).counted
