-- `mark_remap_in`: what is left says what the whole list says, and the places met are marked. Assumes nothing.
use Rattle.edit_remap.proofs.Remapping.{remap-none, remap-hit, remap-next, remap-all}
use Rattle.edit_pixels.proofs.Nth.{Nth}
use Rattle.journal_record.specs.Record.{changes_in}
use Rattle.journal_read.specs.Number.{change_of}
use Rattle.journal_read.proofs.Read.{nth_read, all_read}
use Rattle.journal_read.proofs.list.mark_remap_in.Goals as goal
use Rattle.journal_read.proofs.list.mark_remap_in.Goals.{After-change_at-c}

-- the change that a turn reads
nth : (c : After-change_at-c) → let a = c.args in
    Nth (changes_in a.form a.w a.journal.now a.at a.n) c.loop-i.i (change_of a.form a.w c.change_at-c.result)
nth c = nth_read _ _ _ _ _ _ _ c.loop-i-test.true c.change_at-c.ensures

pub loop-i-init : goal.loop-i-init
loop-i-init c = remap-none _ _ _ _ c.requires.2

pub returns-then-no-ne0 : goal.returns-then-no-ne0
returns-then-no-ne0 c =
    (remap-hit _ _ _ _ c.loop-i.invariant (nth (goal.at.returns-then-no-ne0 c).After-change_at-c) c.mark_change-no.ensures.0 c.if-no-ne0.true, λ z. absurd (c.if-no-ne0.true z))

pub loop-i-preserved : goal.loop-i-preserved
loop-i-preserved c =
    remap-next _ _ _ _ c.loop-i.invariant (nth (goal.at.loop-i-preserved c).After-change_at-c) c.mark_change-no.ensures.0 c.if-no-ne0.false c.mark_change-no.ensures.1

pub returns : goal.returns
returns c =
    let a = c.args in
    let all = remap-all _ _ _ _ c.loop-i.invariant (all_read a.form a.w a.journal.now a.at a.n _ c.loop-i-test.false) in
    (all.0, λ _. all.1)
