-- `rewrite::put_changes`: each turn writes one change more. Assumes nothing.
use Rattle.journal_raw.proofs.Rewriting.{put-none, change-next}
use Rattle.journal_raw.specs.Raw.{other}
use Rattle.journal_record.specs.Record.{changes_in}
use mathlib.Core.List.{flat_map}
use Rattle.journal_raw.proofs.rewrite.put_changes.Goals as goal

pub loop-i-init : goal.loop-i-init
unfolding changes_in flat_map
loop-i-init c = put-none _ _

pub loop-i-preserved : goal.loop-i-preserved
loop-i-preserved c =
    let a = c.args in
    let put = rw (c.list_bytes.ensures.0, c.list_bytes-in-loop-i.ensures.0, c.other-into.ensures) at c.put_change.ensures in
    (change-next a.form (other a.form) a.w a.out.now a.to a.bytes.now a.at c.loop-i.i a.n _ _ c.requires.n_in_bounds.1 c.loop-i-test.true c.loop-i.invariant put)
