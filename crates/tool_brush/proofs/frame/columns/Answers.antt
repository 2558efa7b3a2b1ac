-- `columns`: by the equations of its parts. Assumes nothing.
use Rattle.base.proofs.Back.{by_values}
use Rattle.tool_stamp.specs.Places.{clipped, columns_of}
use borrow.Author.Rules.{rules}
use Rattle.tool_brush.proofs.frame.columns.Goals as goal

pub returns : goal.returns
unfolding columns_of
returns c =
    let a = c.args in
    let f = c.ranges in
    rw (by_values (λ z u. clipped z u a.from a.end) f.x0 f.x1 c.clip.ensures, by_values (λ z u. clipped z u a.from a.end) f.x0 f.x0 c.clip-2.ensures, by_values (λ z u. (columns_of z u a.from a.end).right) f.x0 f.x1 c.last.ensures)
