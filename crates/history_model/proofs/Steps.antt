-- One step of undo or redo over a record that was read: it is refused, or made. Assumes nothing.
use mathlib.Core.Path.{◌≡◌, refl, sym, ap, ◌∙◌}
use mathlib.Core.Bool.{Bool, true, false, not}
use mathlib.Core.List.{[], ◌∷◌}
use mathlib.Core.Option.{Option, none}
use Prim.Native.Nat.{ℕ}
use lib.ListN.{length}
use Rattle.base.specs.Checks.{first_of, refused_or}
use Rattle.base.specs.declared.Handle.{Handle}
use Rattle.history_ledger.specs.Handle.{sound}
use Rattle.history_ledger.specs.Algebra.{Taken}
use Rattle.history_ledger.specs.Calls.{Outcome, refused, done}
use Rattle.history_ledger.specs.Journal.{State, stepOver}
use Rattle.history_model.specs.Document.{Document}
use Rattle.history_model.specs.Editing.{taken, editing}
use Rattle.history_model.specs.Calls.{state_of}

module _ (st : State Document) (inside : ℕ → Bool) (stepped : ℕ → Handle → Handle) where
  abbrev moved : Option (Taken Document) → Outcome (State Document)
  moved reading = stepOver editing st reading inside stepped

  pub over_none : (reading : Option (Taken Document)) → reading ≡ none → refused st 4 ≡ moved reading
  unfolding stepOver
  over_none reading e = rw e

  -- a record of n bytes that leads to t, where it is taken
  module _ (n : ℕ) (ok : Bool) (t : Document) (reading : Option (Taken Document)) (read : reading ≡ taken ok n t) where
    abbrev after : Handle
    after = stepped n st.handle

    pub over-not : ok ≡ false → refused st 4 ≡ moved reading
    unfolding stepOver
    over-not e = rw (read, e)

    pub over-unsound : (next : Handle) → next ≡ after → sound (length st.journal) next ≡ false → refused st 4 ≡ moved reading
    unfolding stepOver first_of refused_or
    over-unsound next q e = rw read (by-test ok (inside n))
      where
        no : sound (length st.journal) after ≡ false
        no = ap (sound (length st.journal)) (sym q) ∙ e

        by-inside : (b : Bool) → refused st 4 ≡ refused_or (first_of (record { number = 4; applies = not b } ∷ record { number = 4; applies = true } ∷ [])) (refused st) (done (state_of t st.journal after))
        by-inside true = refl
        by-inside false = refl

        by-test : (a b : Bool) → refused st 4 ≡ moved (taken a n t)
        by-test false b = refl
        by-test true b = rw no (by-inside (inside n))

    pub over_done : (next : Handle) → next ≡ after → sound (length st.journal) next ≡ true → ok ≡ true → inside n ≡ true
        → {u : Document} → u ≡ t → done (state_of u st.journal next) ≡ moved reading
    unfolding stepOver first_of refused_or
    over_done next q e k i {u} p =
        let yes : sound (length st.journal) after ≡ true = ap (sound (length st.journal)) (sym q) ∙ e in
        (λ a. done (state_of (p a) st.journal (q a))) ∙ rw (read, k, i, yes)
