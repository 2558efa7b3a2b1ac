-- `clip`: by the equations of its steps. Assumes nothing.
use mathlib.Core.Path.{◌≡◌}
use Rattle.base.specs.Ints.{from_zero, up_to}
use Rattle.base.proofs.Back.{by_value}
use Rattle.tool_stamp.specs.Places.{clipped}
use borrow.Author.Rules.{rules}
use Rattle.tool_stamp.proofs.paint.clip.Goals as goal
use Rattle.tool_stamp.proofs.paint.clip.Goals.{After-from_zero, After-up_to}

low : (c : After-from_zero) → c.from_zero.result ≡ from_zero c.args.a
low c = by_value from_zero c.ranges.a c.from_zero.ensures

high : (c : After-up_to) → c.up_to.result ≡ up_to c.args.b
high c = by_value up_to c.ranges.b c.up_to.ensures

pub returns : goal.returns
unfolding clipped
returns c = rw (c.saturating_sub.ensures, c.min-stop.ensures, high (goal.at.returns c).After-up_to, c.min-start.ensures, c.max.ensures, low (goal.at.returns c).After-from_zero)
