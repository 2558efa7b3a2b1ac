-- `check_list`: each check is asked where none applied before; the loop is left at the end, or where one applies. Assumes nothing.
use mathlib.Core.Path.{sym}
use Rattle.edit_pixels.specs.Inside.{bare}
use Rattle.struct_edit.proofs.Checking.{stays, stays-at}
use borrow.Author.Rules.{rules}
use Rattle.struct_edit.proofs.check_list.Goals as goal

pub returns-then-no-ne0 : goal.returns-then-no-ne0
returns-then-no-ne0 c =
    let a = c.args in
    stays a.no a.replay (bare a.w a.h a.k a.indices.now) a.kind a.list.now a.marks.now 0 a.n c.if-no-ne0.true (search rules)

pub returns-then-code-ne0 : goal.returns-then-code-ne0
returns-then-code-ne0 c =
    let a = c.args in
    let i = c.loop-c.invariant in
    stays-at a.no a.replay (bare a.w a.h a.k a.indices.now) a.kind a.list.now a.marks.now c.loop-c.c-index a.n (sym i.0) i.1 c.if-code-ne0.true (search rules) c.check_one-code.ensures
