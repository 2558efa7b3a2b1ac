-- `claim_places`: what is behind is claimed and judged. Assumes nothing.
use Prim.Native.Nat.{◌-◌, ◌<◌}
use native.Mathlib.Omega.{arith}
use lib.ListN.{length}
use Rattle.edit.specs.Change.{place}
use Rattle.edit_pixels.proofs.Nth.{Nth}
use Rattle.edit_pixels.proofs.Inside.{inside-at}
use Rattle.journal_record.proofs.Finding.{length-in}
use Rattle.journal_read.proofs.Placed.{place_of, old-of}
use Rattle.journal_read.proofs.Read.{nth_read}
use Rattle.journal_olds.proofs.Claims.{claiming-none, claiming-next}
use Rattle.journal_record.specs.Record.{changes_in}
use Rattle.journal_read.specs.Number.{change_of}
use Rattle.journal_olds.proofs.olds.claim_places.Goals as goal
use Rattle.journal_olds.proofs.olds.claim_places.Goals.{After-change_at, In-loop-i}

-- no more are left than there are
less : (c : In-loop-i) → c.loop-i.i - 1 < c.args.n
less c = omega (arith, rw (length-in _ _ _ _ _) at c.loop-i.invariant.few, c.loop-i-test.true)

-- the change that a turn reads
nth : (c : After-change_at) → let a = c.args in
    Nth (changes_in a.form a.w a.journal.now a.at a.n) (c.loop-i.i - 1) (change_of a.form a.w c.change_at.result)
nth c = nth_read _ _ _ _ _ _ _ (less (goal.at.After-change_at c).In-loop-i) c.change_at.ensures

-- it stands in the picture
here : (c : After-change_at) → let a = c.args in place a.w (change_of a.form a.w c.change_at.result) < length a.indices.now
here c = inside-at c.args.w (length c.args.indices.now) c.requires.n_value (nth c)

pub loop-i-init : goal.loop-i-init
loop-i-init c = let p = c.requires in claiming-none _ _ _ _ _ (length-in _ _ _ _ _) p.n_in_bounds.1 p.indices_value

pub claim_place-hit-requires : goal.claim_place-hit-requires
claim_place-hit-requires c =
    let a = c.args in
    rw (c.row_width-row.ensures, ← place_of a.w c.change_at.result a.form, c.loop-i.invariant.claims.long) (here c)

pub loop-i-preserved : goal.loop-i-preserved
loop-i-preserved c =
    let a = c.args in
    let v = c.change_at.result in
    let row = c.row_width-row.ensures in
    let claim = rw (row, ← place_of a.w v a.form) at c.claim_place-hit.ensures.indices_after in
    let hit = rw (row, ← place_of a.w v a.form, ← old-of a.w v a.form) at c.claim_place-hit.ensures.value in
    claiming-next c.loop-i.invariant (nth (goal.at.loop-i-preserved c).After-change_at) (omega (arith, c.loop-i-test.true)) (here (goal.at.loop-i-preserved c).After-change_at) claim hit c.either-bad.ensures
