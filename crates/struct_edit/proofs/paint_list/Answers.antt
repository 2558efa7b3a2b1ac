-- `paint_list`: what is asked of all changes is asked of each. Assumes nothing.
use borrow.Author.Rules.{rules}
use Rattle.struct_edit.proofs.Painting.{paintable-at}
use Rattle.struct_edit.proofs.paint_list.Goals as goal

pub paint_one-requires : goal.paint_one-requires
paint_one-requires c =
    let a = c.args in
    paintable-at a.kind a.list.now a.n c.loop-change.change-index a.w c.requires.0 (search rules) c.loop-change.auto.indices (c.requires.1 (search rules))
