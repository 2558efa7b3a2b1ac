-- A call does not tell scratch of w × h places from a longer one; and calls that have one scratch are those of `step`. Assumes nothing.
use mathlib.Core.Path.{◌≡◌, refl, ap}
use mathlib.Core.List.{List, [], ◌∷◌}
use Prim.Native.Nat.{ℕ, ◌≤◌}
use borrow.Author.Tests.{le-ltb}
use Rattle.base.specs.Checks.{first_of}
use Rattle.history_ledger.specs.Calls.{Call, play, lend}
use Rattle.history_ledger.specs.Calls.Call.{push, undo, redo, mark}
use Rattle.history_ledger.specs.Algebra.{Algebra}
use Rattle.history_ledger.specs.Journal.{State, step, stepLent, pushOf, redoOf}
use Rattle.history_ledger.proofs.Playing.{onward}

module _ (A : Algebra) where
  open A use {Sheet, Edit, view, places}

  pub any-room : (room room' : ℕ) (st : State Sheet) (c : Call Edit) → places (view st.sheet) ≤ room → places (view st.sheet) ≤ room'
      → step A room st c ≡ step A room' st c
  unfolding pushOf redoOf first_of
  any-room room room' st (push e) b b' = rw (le-ltb _ _ b, le-ltb _ _ b')
  any-room room room' st undo b b' = refl
  any-room room room' st redo b b' = rw (le-ltb _ _ b, le-ltb _ _ b')
  any-room room room' st mark b b' = refl

  pub one-room : (room : ℕ) (cs : List (Call Edit)) (st : State Sheet) → play (stepLent A) st (lend (λ i. room) cs) ≡ play (step A room) st cs
  unfolding play lend
  one-room room [] st = refl
  one-room room (c ∷ cs) st = ap (onward (step A room st c).answer) (one-room room cs (step A room st c).leaves)
