-- The fields fit their widths, so that what `change_of` packs is the struct's own change.
use borrow.Author.Rules.{rules}
use mir.Facts.{to_z-of_z}
use mir.Syntax.{w16}
use mir.Val.{SFits}
use Rattle.struct_change.proofs.packed.Goals as goal

pub returns : goal.returns
returns c =
    let old : SFits w16 c.args.c.old = search rules in
    let new : SFits w16 c.args.c.new = search rules in
    rw (to_z-of_z old, to_z-of_z new) at c.change_of.ensures
