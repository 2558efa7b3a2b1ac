-- `paint_olds_in`: what is left, painted over the present picture, gives the whole. Assumes nothing.
use Rattle.edit_pixels.proofs.Nth.{Nth}
use Rattle.edit_pixels.proofs.Painting.{painting-inside, painting-next, painting-all}
use Rattle.journal_read.proofs.Placed.{place_of, old-of}
use Rattle.journal_read.proofs.Read.{nth_read, all_read}
use Rattle.journal_record.specs.Record.{changes_in}
use Rattle.journal_read.specs.Number.{change_of}
use Rattle.journal_olds.proofs.olds.paint_olds_in.Goals as goal
use Rattle.journal_olds.proofs.olds.paint_olds_in.Goals.{After-change_at}

-- the change that a turn reads
nth : (c : After-change_at) → let a = c.args in
    Nth (changes_in a.form a.w a.journal.now a.at a.n) c.loop-i.i (change_of a.form a.w c.change_at.result)
nth c = nth_read _ _ _ _ _ _ _ c.loop-i-test.true c.change_at.ensures

pub paint_old-requires : goal.paint_old-requires
paint_old-requires c =
    let a = c.args in
    rw (c.row_width-row.ensures, ← place_of a.w c.change_at.result a.form) (painting-inside c.loop-i.invariant (nth c) c.requires.n_value)

pub loop-i-preserved : goal.loop-i-preserved
loop-i-preserved c =
    let a = c.args in
    let v = c.change_at.result in
    let put = rw (c.row_width-row.ensures, ← place_of a.w v a.form, ← old-of a.w v a.form) at c.paint_old.ensures in
    painting-next c.loop-i.invariant (nth (goal.at.loop-i-preserved c).After-change_at) put

pub returns : goal.returns
returns c = let a = c.args in painting-all c.loop-i.invariant (all_read a.form a.w a.journal.now a.at a.n _ c.loop-i-test.false)
