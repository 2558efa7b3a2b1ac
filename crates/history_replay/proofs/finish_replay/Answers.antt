-- `finish_replay`: refused, or done. Assumes nothing.
use Rattle.history_replay.proofs.Replaying.{refused-done, passed-done}
use borrow.Author.Rules.{rules}
use Rattle.history_replay.proofs.finish_replay.Goals as goal

pub returns-then-no-ne0 : goal.returns-then-no-ne0
returns-then-no-ne0 c w h = refused-done _ _ _ c.if-no-ne0.true

pub redo_locks-requires : goal.redo_locks-requires
redo_locks-requires c = (c.requires c.if-no-ne0.false).1

pub finish_edit-after-requires : goal.finish_edit-after-requires
finish_edit-after-requires c = let asked = c.requires c.if-no-ne0.false in record { finishable = asked.0; curve_fits = asked.2 }

pub returns : goal.returns
returns c w h = passed-done _ _ _ _ c.if-no-ne0.false (λ i. record { sheet = c.finish_edit-after.ensures w h i; locks = c.redo_locks.ensures i })
