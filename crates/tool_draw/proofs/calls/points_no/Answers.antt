-- `points_no`: each test is the check in its place. Assumes nothing.
use mathlib.Core.Path.{sym, ◌∙◌}
use Rattle.tool_reach.proofs.Paths.{points-long, points_far, points-fine}
use borrow.Author.Rules.{rules}
use Rattle.tool_draw.proofs.calls.points_no.Goals as goal

pub returns-then-points-gt-MAX_CHANGES : goal.returns-then-points-gt-MAX_CHANGES
returns-then-points-gt-MAX_CHANGES c = points-long _ c.requires c.if-points-gt-MAX_CHANGES.true

pub returns-then-any_far : goal.returns-then-any_far
returns-then-any_far c = points_far _ c.requires c.if-points-gt-MAX_CHANGES.false (sym c.if-any_far.true ∙ c.any_far.ensures)

pub returns : goal.returns
returns c = points-fine _ c.requires c.if-points-gt-MAX_CHANGES.false (sym c.if-any_far.false ∙ c.any_far.ensures)
