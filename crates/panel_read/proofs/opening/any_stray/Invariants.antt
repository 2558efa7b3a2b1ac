-- `any_stray`: the flag and what is left say what the whole list says. Assumes nothing.
use Prim.Native.Nat.{ℕ}
use Rattle.base.proofs.Scan.{Flagged}
use Rattle.sheet.specs.Sheet.{stray}
use Rattle.panel_frames.specs.Reading.{index_of}
use Rattle.panel_read.proofs.opening.any_stray.Given as goal

abbrev pub invariant-loop-b : goal.invariant-loop-b
invariant-loop-b l = Flagged (λ (b : ℕ). stray l.k (index_of b)) l.bytes l.b-index l.bad
