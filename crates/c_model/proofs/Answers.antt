-- Past 28 the answer is the core's, and what is not "done" leaves every byte. Assumes nothing.
use mathlib.Core.Path.{◌≡◌, refl, ap, ◌∙◌}
use mathlib.Core.Bool.{Bool, true, false}
use mathlib.Core.List.{List, [], ◌∷◌}
use Prim.Native.Nat.{ℕ, zero, suc}
use native.Mathlib.Omega.{arith}
use lib.ListN.{length}
use Rattle.base.specs.Numbers.{flat_misfit}
use Rattle.base.specs.Checks.{◌when◌, first_of, refused_or}
use Rattle.base.specs.Answer.Told.{result, alone}
use Rattle.history_ledger.specs.Calls.{Call, Answer, Outcome, refused}
use Rattle.history_ledger.specs.Calls.Call.{push, undo, redo, mark}
use Rattle.history_ledger.specs.Journal.{State, mark_of}
use Rattle.history_model.specs.Document.{Document}
use Rattle.c_form.specs.Flat.{handle_in}
use Rattle.c_model.specs.Asked.{Asked}
use Rattle.c_model.specs.Step.{Flat, flat_of, flat_left, flattened, misfits, moved, handle_left, flat_mark, flat_step}
use Rattle.c_model.specs.FlatHistory.{CoreAnswers, FlatKept}

moved-answers : (s : Flat) (o : Outcome (State Document)) → misfits s ≡ false → (moved s o).answer ≡ o.answer
unfolding moved flattened first_of refused_or
moved-answers s o e = rw e

pub core-answers : CoreAnswers
unfolding flat_step flat_mark first_of refused_or
core-answers s (push a) e = moved-answers s _ e
core-answers s undo e = moved-answers s _ e
core-answers s redo e = moved-answers s _ e
core-answers s mark e = rw e

-- 28
misfit-moved : (s : Flat) (o : Outcome (State Document)) → misfits s ≡ true → (moved s o).answer ≡ alone flat_misfit
unfolding moved first_of refused_or
misfit-moved s o e = rw e

pub misfit-answers : (s : Flat) (c : Call Asked) → misfits s ≡ true → (flat_step s c).answer ≡ alone flat_misfit
unfolding flat_step flat_mark first_of refused_or
misfit-answers s (push a) e = misfit-moved s _ e
misfit-answers s undo e = misfit-moved s _ e
misfit-answers s redo e = misfit-moved s _ e
misfit-answers s mark e = rw e

-- ---- what is not "done"
flattened-kept : (s : Flat) (o : Outcome (State Document)) (n : ℕ) → o.answer ≡ alone n → (flattened s o).leaves ≡ s
unfolding flattened flat_left
flattened-kept s o n e = ap (λ (a : Answer). flat_left s a o.leaves) e

moved-kept : (s : Flat) (o : Outcome (State Document)) (n : ℕ) → (moved s o).answer ≡ alone n → (moved s o).leaves ≡ s
unfolding moved flattened refused_or
moved-kept s o n = go (first_of (flat_misfit when misfits s ∷ []))
  where
    go : (m : ℕ) → (refused_or m (refused s) (flattened s o)).answer ≡ alone n → (refused_or m (refused s) (flattened s o)).leaves ≡ s
    go zero e = flattened-kept s o n e
    go (suc m) e = refl

mark-kept : (b : List ℕ) (o : Outcome (List ℕ)) (m n : ℕ) → (o.answer ≡ alone n → o.leaves ≡ b) → (refused_or m (refused b) o).answer ≡ alone n
    → (refused_or m (refused b) o).leaves ≡ b
unfolding refused_or
mark-kept b o zero n k e = k e
mark-kept b o (suc m) n k e = refl

pub flat-kept : FlatKept
unfolding flat_step flat_mark handle_left
flat-kept s (push a) n e = moved-kept s _ n e
flat-kept s undo n e = moved-kept s _ n e
flat-kept s redo n e = moved-kept s _ n e
flat-kept s mark n e =
    let o = mark_of (length s.journal) (handle_in s.handle) in
    ap (flat_of s.sheet s.journal)
    (mark-kept s.handle (record { answer = o.answer; leaves = handle_left s.handle o.answer o.leaves }) (first_of (flat_misfit when misfits s ∷ [])) n
    (λ (q : o.answer ≡ alone n). ap (λ (a : Answer). handle_left s.handle a o.leaves) q) e)
