-- `left_after`: the number so far stands, or 13 decides. Assumes nothing.
use mathlib.Core.Path.{sym}
use Rattle.edit_list.proofs.Deciding.{first-kept}
use borrow.Author.Rules.{rules}
use Rattle.history_replay.proofs.left_after.Goals as goal

pub returns-then-no-ne0 : goal.returns-then-no-ne0
returns-then-no-ne0 c cs m = sym (first-kept _ _ c.if-no-ne0.true)

pub left_no-requires : goal.left_no-requires
left_no-requires c = rw c.list_of.ensures (c.requires c.if-no-ne0.false)

pub returns : goal.returns
returns c cs m = rw c.if-no-ne0.false ((rw c.list_of.ensures at c.left_no.ensures) cs (m c.if-no-ne0.false))
