-- `any_outside_in`: the flag and what is left say what the whole list says. Assumes nothing.
use Rattle.base.proofs.Scan.{flag-end}
use Rattle.edit.specs.Change.{outside}
use Rattle.edit_pixels.proofs.Nth.{Nth, nth-flag}
use Rattle.journal_record.specs.Record.{changes_in}
use Rattle.journal_read.specs.Number.{change_of}
use Rattle.journal_read.proofs.Read.{nth_read, all_read}
use Rattle.journal_read.proofs.list.any_outside_in.Goals as goal
use Rattle.journal_read.proofs.list.any_outside_in.Goals.{After-change_at}

-- the change that a turn reads
nth : (c : After-change_at) → let a = c.args in
    Nth (changes_in a.form a.w a.journal.now a.at a.n) c.loop-i.i (change_of a.form a.w c.change_at.result)
nth c = nth_read _ _ _ _ _ _ _ c.loop-i-test.true c.change_at.ensures

pub loop-i-preserved : goal.loop-i-preserved
loop-i-preserved c = nth-flag (nth (goal.at.loop-i-preserved c).After-change_at) (outside _ _) c.loop-i.invariant c.is_off.ensures c.either-bad.ensures

pub returns : goal.returns
returns c = let a = c.args in flag-end c.loop-i.invariant (all_read a.form a.w a.journal.now a.at a.n _ c.loop-i-test.false)
