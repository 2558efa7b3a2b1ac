-- The places of 28 and 25: a list of checks is 28's, then those that come before 25, then 25's and the others. Assumes nothing.
use mathlib.Core.Path.{◌≡◌, ap, ◌∙◌}
use mathlib.Core.List.{[], ◌∷◌}
use Prim.Native.Nat.{ℕ, suc}
use borrow.Author.Tests.{eq-eqb}
use Rattle.base.specs.Numbers.{list_too_long}
use Rattle.base.specs.Checks.{◌when◌, or_else, first_of, refused_or}
use Rattle.base.proofs.First.{first-append}
use Rattle.history_ledger.specs.Calls.{group}
use Rattle.history_ledger.specs.Algebra.{Algebra}
use Rattle.history_ledger.specs.Journal.{State, entry_checks, move_checks, redoChecks, pushOf, undoOf, redoOf}
use Rattle.history_ledger.specs.Ledger.{Ledger, standing, ledgerChecks, enter}
use Rattle.history_ledger.specs.Places.{firstFour, firstThree, InPlace}

third-told : {a b c : ℕ} (d n : ℕ) → a ≡ 0 → b ≡ 0 → c ≡ suc n → or_else a (or_else b (or_else c d)) ≡ suc n
third-told d n p q r = rw (p, q, r)

module _ (A : Algebra) where
  open A use {Sheet, Edit, first_check, curve_check, own_check, is_long}

  pub push-is : (st : State Sheet) (e : Edit) → first_of (entry_checks A st e) ≡ or_else (first_check e) (or_else (first_of (firstFour A st e)) (or_else curve_check 0))
  unfolding first_of
  push-is st e = ap (or_else (first_check e)) (first-append (firstFour A st e) (group curve_check ∷ []))

  redo-is : (st : State Sheet) → first_of (redoChecks A st) ≡ or_else (first_of (move_checks A st)) (or_else curve_check 0)
  unfolding first_of
  redo-is st = first-append (move_checks A st) (group curve_check ∷ [])

  ledger-is : (l : Ledger A) (e : Edit)
      → let own = list_too_long when is_long e ∷ group (own_check (standing A l) e) ∷ [] in
      first_of (ledgerChecks A (standing A l) e) ≡ or_else (first_check e) (or_else (first_of (firstThree A l e)) (or_else curve_check (first_of own)))
  unfolding first_of
  ledger-is l e =
      ap (or_else (first_check e)) (first-append (firstThree A l e) (group curve_check ∷ list_too_long when is_long e ∷ group (own_check (standing A l) e) ∷ []))

  pub in_place : InPlace A
  unfolding pushOf undoOf redoOf enter refused_or
  in_place =
      record {
        first-of-all = λ room st e n h. rw (push-is st e, h);
        first-of-all-in-the-ledger = λ l e n h. rw (ledger-is l e, h);
        push-first-four = λ room st e n h g. rw (push-is st e, h, g);
        redo-first-four = λ room st n g. rw (redo-is st, g);
        first-three-in-the-ledger = λ l e n h g. rw (ledger-is l e, h, g);
        push-curve = λ room st e n h g c. rw (push-is st e, h, g, c);
        redo-curve = λ room st n g c. rw (redo-is st, g, c);
        curve-in-the-ledger = λ l e n h g c. rw (ledger-is l e ∙ third-told _ n h g c);
        undo-still = λ st g z. rw (g, eq-eqb _ _ z);
      }
