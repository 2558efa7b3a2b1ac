-- `write::put_filled` meets its contract: each turn fills in and writes one change more. Assumes nothing.
use mathlib.Core.Path.{◌∙◌}
use mathlib.Core.List.{map}
use lib.ListN.{length-map}
use Rattle.edit.specs.Change.{unpacked, filled_in}
use Rattle.edit_pixels.proofs.Nth.{nth-unpacked}
use Rattle.edit_pixels.proofs.Inside.{inside-at}
use Rattle.journal_write.proofs.Putting.{putting-none, putting-next}
use Rattle.journal_write.proofs.Filled.{filled_at}
use Rattle.journal_write.proofs.write.put_filled.Goals as goal
use Rattle.journal_write.proofs.write.put_filled.Goals.{In-loop-i}

pub loop-i-init : goal.loop-i-init
loop-i-init c = putting-none _ _ _ _ _

pub filled_in-filled-requires : goal.filled_in-filled-requires
filled_in-filled-requires c =
    inside-at _ _ c.requires.list_value (nth-unpacked c.args.list.now _ c.loop-i-test.true)

pub loop-i-preserved : goal.loop-i-preserved
loop-i-preserved c =
    let list = c.args.list.now in
    let fill = filled_in c.args.w c.args.indices.now in
    let count = length-map (map unpacked list) fill ∙ length-map list unpacked in
    let filled = c.filled_in-filled.ensures ∙ filled_at list _ _ _ in
    let put = rw c.list_bytes.ensures.0 at c.put_change.ensures in
    putting-next _ _ _ _ _ (fill (unpacked 0)) _ _ _ _ _ count c.requires.list_in_bounds c.loop-i.invariant c.loop-i-test.true filled put
