-- `all`: past the check both sides fit 16 bits. Assumes nothing.
use mathlib.Core.Path.{◌≡◌, sym, ◌∙◌}
use mathlib.Core.Bool.{false}
use native.Mathlib.Omega.{arith}
use borrow.Author.Rules.{rules}
use Rattle.base.specs.Checks.{first_of, refused_or}
use Rattle.selection.specs.Selection.{all}
use Rattle.selection.specs.Calls.{too_large, all_of}
use Rattle.selection.proofs.Checks.{sides}
use Rattle.selection.proofs.Selection.all.Goals as goal
use Rattle.selection.proofs.Selection.all.Goals.{Else-too_large}

sized : (c : Else-too_large) → too_large c.args.width c.args.height ≡ false
sized c = sym c.too_large.ensures ∙ c.if-too_large.false

pub returns-then-too_large : goal.returns-then-too_large
unfolding all_of first_of refused_or
returns-then-too_large c = rw (← c.too_large.ensures, c.if-too_large.true)

pub overflow_cast-result : goal.overflow_cast-result
overflow_cast-result c = omega (arith, sides (sized c))

pub overflow_cast-result-2 : goal.overflow_cast-result-2
overflow_cast-result-2 c = omega (arith, sides (sized c))

pub returns : goal.returns
unfolding all_of all first_of refused_or
returns c = rw (sized c)
