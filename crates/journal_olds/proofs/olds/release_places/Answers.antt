-- `release_places`: what is passed has its indices back. Assumes nothing.
use Prim.Native.Nat.{◌<◌}
use lib.ListN.{length}
use Rattle.edit.specs.Change.{place}
use Rattle.edit_pixels.proofs.Nth.{Nth}
use Rattle.edit_pixels.proofs.Inside.{inside-at}
use Rattle.journal_read.proofs.Placed.{place_of}
use Rattle.journal_read.proofs.Read.{nth_read, all_read}
use Rattle.journal_olds.proofs.Claims.{releasing-none, releasing-next, releasing-all}
use Rattle.journal_record.specs.Record.{changes_in}
use Rattle.journal_read.specs.Number.{change_of}
use Rattle.journal_olds.proofs.olds.release_places.Goals as goal
use Rattle.journal_olds.proofs.olds.release_places.Goals.{After-change_at}

-- the change that a turn reads
nth : (c : After-change_at) → let a = c.args in
    Nth (changes_in a.form a.w a.journal.now a.at a.n) c.loop-i.i (change_of a.form a.w c.change_at.result)
nth c = nth_read _ _ _ _ _ _ _ c.loop-i-test.true c.change_at.ensures

-- it stands in the picture
here : (c : After-change_at) → let a = c.args in place a.w (change_of a.form a.w c.change_at.result) < length a.indices.now
here c = inside-at c.args.w (length c.args.indices.now) c.requires.n_value (nth c)

pub loop-i-init : goal.loop-i-init
loop-i-init c = releasing-none _ _ _

pub release_place-requires : goal.release_place-requires
release_place-requires c =
    let a = c.args in
    rw (c.row_width-row.ensures, ← place_of a.w c.change_at.result a.form, c.loop-i.invariant.long) (here c)

pub loop-i-preserved : goal.loop-i-preserved
loop-i-preserved c =
    let a = c.args in
    let release = rw (c.row_width-row.ensures, ← place_of a.w c.change_at.result a.form) at c.release_place.ensures in
    releasing-next c.loop-i.invariant (nth (goal.at.loop-i-preserved c).After-change_at) (here (goal.at.loop-i-preserved c).After-change_at) release

pub returns : goal.returns
returns c = let a = c.args in releasing-all c.loop-i.invariant (all_read a.form a.w a.journal.now a.at a.n _ c.loop-i-test.false)
