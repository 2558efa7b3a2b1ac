-- `landing_on`: its sums, without a sign. Assumes nothing.
use mathlib.Core.Path.{◌≡◌}
use native.Mathlib.Omega.{arith}
use Rattle.base.proofs.Back.{by_value}
use Rattle.tool_paste_model.specs.Blocks.{landing}
use Rattle.tool_paste_model.proofs.Landings.{offset_of, offset-small}
use borrow.Author.Rules.{rules}
use Rattle.tool_block.proofs.landing_on.Goals as goal
use Rattle.tool_block.proofs.landing_on.Goals.{After-offset}

value : (c : After-offset) → c.offset.result ≡ offset_of c.args.d
value c = by_value offset_of c.ranges.d c.offset.ensures

pub overflow_add-first : goal.overflow_add-first
overflow_add-first c = let o = value c in omega (arith, offset-small _ c.requires.0)

pub overflow_add-first-2 : goal.overflow_add-first-2
overflow_add-first-2 c = let o = value (goal.at.overflow_add-first-2 c).After-offset in omega (arith, offset-small _ c.requires.0)

pub returns : goal.returns
unfolding landing
returns c = rw (← value (goal.at.returns c).After-offset, c.saturating_sub-3.ensures, c.saturating_sub-2.ensures, c.min-end.ensures, c.saturating_sub.ensures, c.saturating_sub-to.ensures)
