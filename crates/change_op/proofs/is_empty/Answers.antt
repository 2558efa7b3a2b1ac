-- `is_empty`: 21, then that of the edit's list, at the list's length. Assumes nothing.
use native.Mathlib.Omega.{arith}
use Rattle.std.proofs.lemmas.Grind.{common_steps}
use Rattle.base.specs.Checks.{first_of, refused_or}
use Rattle.change_op.specs.Op.{is_empty_of}
use Rattle.change_op.proofs.is_empty.Goals as goal

pub returns-then-list-gt-MAX_CHANGES : goal.returns-then-list-gt-MAX_CHANGES
unfolding is_empty_of first_of refused_or
returns-then-list-gt-MAX_CHANGES c = grind (arith, common_steps)

pub returns : goal.returns
unfolding is_empty_of first_of refused_or
returns c = grind (arith, common_steps)
