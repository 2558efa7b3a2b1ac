-- `any_stray_old_in`: the flag and what is left say what the whole list says. Assumes nothing.
use Prim.Native.Nat.{ℕ}
use Rattle.base.proofs.Scan.{Flagged}
use Rattle.sheet.specs.Sheet.{stray}
use Rattle.edit.specs.Change.{old_of}
use Rattle.journal_record.specs.Record.{changes_in}
use Rattle.journal_olds.proofs.olds.any_stray_old_in.Given as goal

abbrev pub invariant-loop-i : goal.invariant-loop-i
invariant-loop-i l = (w : ℕ) → Flagged (λ c. stray l.k (old_of c)) (changes_in l.form w l.journal l.at l.n) l.i l.bad
