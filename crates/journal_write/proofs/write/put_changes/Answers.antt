-- `write::put_changes` meets its contract: each turn writes one change more. Assumes nothing.
use lib.ListN.{length-map}
use Rattle.edit.specs.Change.{unpacked}
use Rattle.journal_write.proofs.Putting.{putting-none, putting-next}
use Rattle.journal_write.proofs.Filled.{unpacked-at}
use Rattle.journal_write.proofs.write.put_changes.Goals as goal
use Rattle.journal_write.proofs.write.put_changes.Goals.{In-loop-i}

pub loop-i-init : goal.loop-i-init
loop-i-init c = putting-none _ _ _ _ _

pub loop-i-preserved : goal.loop-i-preserved
loop-i-preserved c =
    let list = c.args.list.now in
    let put = rw c.list_bytes.ensures.0 at c.put_change.ensures in
    putting-next _ _ _ _ _ (unpacked 0) _ _ _ _ _ (length-map list unpacked) (λ _. c.requires) c.loop-i.invariant c.loop-i-test.true (unpacked-at list _) put
