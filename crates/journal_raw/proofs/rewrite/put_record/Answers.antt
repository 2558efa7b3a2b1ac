-- `rewrite::put_record`: kind, head, changes and length, each behind the last. Assumes nothing.
use Rattle.journal_raw.proofs.Rewriting.{put-at}
use Rattle.journal_raw.specs.Raw.{other}
use native.Mathlib.Omega.{arith}
use Rattle.journal_raw.proofs.rewrite.put_record.Goals as goal

pub returns : goal.returns
returns c =
    let a = c.args in
    put-at a.form a.w a.bytes.now a.at a.kind a.count (omega (arith, c.requires.count_in_bounds)) (other a.form) _ a.out.now _ _ _ _ a.to _ _ _
    c.other-into.ensures c.head_length-head.ensures.0 c.kind_byte.ensures c.record_size-size.ensures.0 c.requires.count_in_bounds_2
    c.put_byte.ensures c.copy.ensures c.put_changes.ensures c.put_u32.ensures
