-- `pixels_no_in`: what is left says what the whole list says. Assumes nothing.
use Rattle.edit_pixels.proofs.Passing.{passing-none, passing-hit, passing-next, passing-all}
use Rattle.edit_pixels.proofs.Nth.{Nth}
use Rattle.journal_record.specs.Record.{changes_in}
use Rattle.journal_read.specs.Number.{change_of}
use Rattle.journal_read.proofs.Read.{nth_read, all_read}
use Rattle.journal_read.proofs.list.pixels_no_in.Goals as goal
use Rattle.journal_read.proofs.list.pixels_no_in.Goals.{After-change_at}

-- the change that a turn reads
nth : (c : After-change_at) → let a = c.args in
    Nth (changes_in a.form a.w a.journal.now a.at a.n) c.loop-i.i (change_of a.form a.w c.change_at.result)
nth c = nth_read _ _ _ _ _ _ _ c.loop-i-test.true c.change_at.ensures

pub loop-i-init : goal.loop-i-init
loop-i-init c indices = passing-none _ _

pub returns-then-no-ne0 : goal.returns-then-no-ne0
returns-then-no-ne0 c indices = passing-hit (c.loop-i.invariant indices) (nth (goal.at.returns-then-no-ne0 c).After-change_at) (c.change_no-no.ensures indices) c.if-no-ne0.true

pub loop-i-preserved : goal.loop-i-preserved
loop-i-preserved c indices = passing-next (c.loop-i.invariant indices) (nth (goal.at.loop-i-preserved c).After-change_at) (c.change_no-no.ensures indices) c.if-no-ne0.false

pub returns : goal.returns
returns c indices = let a = c.args in passing-all (c.loop-i.invariant indices) (all_read a.form a.w a.journal.now a.at a.n _ c.loop-i-test.false)
