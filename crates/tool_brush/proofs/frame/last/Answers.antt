-- `last`: the two cases. Assumes nothing.
use Rattle.base.proofs.Back.{by_values, lt_z-back}
use Rattle.tool_stamp.specs.Places.{clipped, columns_of}
use borrow.Author.Rules.{rules}
use Rattle.tool_brush.proofs.frame.last.Goals as goal

pub returns-then-x0-x1 : goal.returns-then-x0-x1
unfolding columns_of
returns-then-x0-x1 c = let a = c.args in let f = c.ranges in rw (lt_z-back f.x0 f.x1 c.if-x0-x1.true) (by_values (λ z u. clipped z u a.from a.end) f.x1 f.x1 c.clip.ensures)

pub returns : goal.returns
unfolding columns_of
returns c = rw (lt_z-back c.ranges.x0 c.ranges.x1 c.if-x0-x1.false)
