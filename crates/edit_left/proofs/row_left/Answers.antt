-- `row_left`: the flag and what is left of the row say what the whole row says. Assumes nothing.
use native.Mathlib.Omega.{arith}
use borrow.Author.Rules.{rules}
use lib.IntN.{pos}
use Rattle.std.proofs.lemmas.Slice.Zip.{zip_turn, zip_end}
use Rattle.std.proofs.lemmas.List.{length_push}
use Rattle.edit_left.proofs.Left.{left-read, row_step, row-end}
use Rattle.edit_left.proofs.row_left.Goals as goal

pub loop-z-preserved : goal.loop-z-preserved
loop-z-preserved c =
    let a = c.args in
    let t = zip_turn a.row.now a.marks.now c.loop-z.yielded c.into_iter-z-iterator.result c.loop-z.z-iterator c.next.new.self _ (cc) (cc) c.loop-z.yielded_by _ c.in-Some.is c.next.ensures.steps in
    rw (length_push c.loop-z.yielded (c.in-Some.z, c.in-Some.mark)) (row_step _ _ c.loop-z.invariant t.0 (left-read a.index a.row.now a.marks.now _ (t.2 (pos 0)) (t.3 0) c.is_left.ensures (search rules)) c.either-left.ensures)

pub returns : goal.returns
returns c =
    let a = c.args in
    let t = zip_end a.row.now a.marks.now c.loop-z.yielded c.into_iter-z-iterator.result c.loop-z.z-iterator c.next.new.self _ (cc) (cc) c.loop-z.yielded_by c.in-None.is c.next.ensures.steps in
    row-end _ _ c.loop-z.invariant (omega arith)
