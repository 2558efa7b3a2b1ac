-- `put_list`: what is asked of all changes is asked of each. Assumes nothing.
use borrow.Author.Rules.{rules}
use Rattle.struct_edit.proofs.Putting.{puttable-at}
use Rattle.struct_edit.proofs.put_list.Goals as goal

pub put_one-requires : goal.put_one-requires
put_one-requires c =
    let a = c.args in
    puttable-at a.form a.kind a.list.now a.n c.loop-i.i a.offset a.w _ c.requires.0 (search rules) c.loop-i.auto.journal (c.requires.1 (search rules))
