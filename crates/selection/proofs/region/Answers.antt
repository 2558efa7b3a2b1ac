-- `region`: by the two cases, and each test is the check in its place. Assumes nothing.
use mathlib.Core.Path.{◌≡◌, sym, ◌∙◌}
use mathlib.Core.Bool.{false}
use borrow.Author.Rules.{rules}
use Rattle.base.specs.Checks.{first_of, refused_or}
use Rattle.selection.specs.Calls.{too_large, region_of}
use Rattle.selection.proofs.region.Goals as goal
use Rattle.selection.proofs.region.Goals.{Else-too_large}

sized : (c : Else-too_large) → too_large c.args.width c.args.height ≡ false
sized c = sym c.too_large.ensures ∙ c.if-too_large.false

pub returns-then-too_large : goal.returns-then-too_large
unfolding region_of first_of refused_or
returns-then-too_large c = rw (c.in-Part.is, ← c.too_large.ensures, c.if-too_large.true)

pub returns-then-not-inside : goal.returns-then-not-inside
unfolding region_of first_of refused_or
returns-then-not-inside c = rw (c.in-Part.is, sized c.before.before, ← c.inside.ensures, c.if-not-inside.true)

pub returns-in-Whole : goal.returns-in-Whole
unfolding region_of
returns-in-Whole c = rw c.in-Whole.is c.all.ensures

pub returns-else-not-inside : goal.returns-else-not-inside
unfolding region_of first_of refused_or
returns-else-not-inside c = rw (c.in-Part.is, sized c.before.before, ← c.inside.ensures, c.if-not-inside.false)
