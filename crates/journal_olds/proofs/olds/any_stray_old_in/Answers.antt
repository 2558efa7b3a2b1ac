-- `any_stray_old_in`: the flag and what is left say what the whole list says. Assumes nothing.
use Prim.Native.Nat.{ℕ}
use mir.Syntax.{w16}
use Rattle.base.proofs.Back.{by_result}
use Rattle.base.proofs.Scan.{flag-end}
use Rattle.sheet.specs.Sheet.{stray}
use Rattle.edit.specs.Change.{old_of}
use Rattle.edit_pixels.proofs.Nth.{Nth, nth-flag}
use Rattle.journal_read.proofs.Placed.{old-of}
use Rattle.journal_read.proofs.Read.{nth_read, all_read}
use Rattle.journal_record.specs.Record.{changes_in}
use Rattle.journal_read.specs.Number.{change_of}
use Rattle.journal_olds.proofs.olds.any_stray_old_in.Goals as goal
use Rattle.journal_olds.proofs.olds.any_stray_old_in.Goals.{After-change_at}

-- the change that a turn reads
nth : (c : After-change_at) (w : ℕ) → let a = c.args in
    Nth (changes_in a.form (w) a.journal.now a.at a.n) c.loop-i.i (change_of a.form (w) c.change_at.result)
nth c w = nth_read _ _ _ _ _ _ _ c.loop-i-test.true c.change_at.ensures

pub loop-i-preserved : goal.loop-i-preserved
loop-i-preserved c w =
    let a = c.args in
    let judged = by_result w16 (stray _) c.old_of.type_inv c.old_of.ensures c.is_stray.ensures in
    nth-flag (nth (goal.at.loop-i-preserved c).After-change_at w) (λ d. stray a.k (old_of d)) (c.loop-i.invariant w) (rw (← old-of w c.change_at.result a.form) at judged) c.either-bad.ensures

pub returns : goal.returns
returns c w = let a = c.args in flag-end (c.loop-i.invariant w) (all_read a.form w a.journal.now a.at a.n _ c.loop-i-test.false)
