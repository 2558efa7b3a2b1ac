-- What a loading answers at each of its tests, and what is known where none applies. Assumes nothing.
use mathlib.Core.Path.{◌≡◌, refl, sym, ◌∙◌}
use mathlib.Core.Bool.{true, false, not}
use mathlib.Core.List.{List, [], ◌∷◌, ◌++◌}
use Prim.Native.Nat.{ℕ, ◌<◌, ◌≤◌}
use native.Mathlib.Omega.{arith}
use borrow.Author.Tests.{lt-ltb, le-ltb, ne_eqb, eq-eqb, eqb-true, not-false}
use lib.Dec.{eqb, ltb}
use lib.Ieee.{Float}
use Rattle.base.specs.Limits.{max_journal}
use Rattle.base.specs.Numbers.{journal_in_use}
use Rattle.base.specs.Checks.{Check, ◌when◌, first_of}
use Rattle.base.proofs.First.{first-here, past, past-both, skip, refused-first, result-first}
use Rattle.base.specs.declared.Answer.TheVariants as answer
use Rattle.base.specs.declared.Handle.{Handle}
use Rattle.color_curve.specs.Curve.{curve_of, curve_checks, fit_curve}
use Rattle.color_curve.proofs.Sessions.{unfit-number, fit-number}
use Rattle.sheet.specs.Sheet.{Sheet}
use Rattle.sheet.specs.Checks.{sheet_checks, WellFormed, Judged}
use Rattle.sheet.proofs.Judging.{none-applied, past-sheet}
use Rattle.history_ledger.specs.Handle.{sound}
use Rattle.history_ledger.specs.Calls.{refused}
use Rattle.history_ledger.specs.Journal.{long_journal, unsound}
use Rattle.history_curve.specs.Load.{history_checks, load_checks, loaded_lab, load_made, load_of}

module _ (s : Sheet) (n : ℕ) (h : Handle) (values : List Float) where
  pub load-long : max_journal < n → 1 ≡ first_of (load_checks s n h values)
  unfolding load_checks first_of
  load-long a = rw (lt-ltb max_journal n a)

  module _ (short : n ≤ max_journal) where
    past-journal : first_of (load_checks s n h values) ≡ first_of (sheet_checks [] s ++ history_checks n h values)
    unfolding load_checks
    past-journal = skip (long_journal n) _ (le-ltb max_journal n short)

    pub load-sheet : (m : ℕ) → Judged s m → (m ≡ 0 → ⊥) → m ≡ first_of (load_checks s n h values)
    load-sheet m j z = first-here (sheet_checks [] s) (history_checks n h values) m j.value z ∙ sym past-journal

    module _ (f : WellFormed s) where
      past-formed : first_of (load_checks s n h values) ≡ first_of (history_checks n h values)
      past-formed = past-journal ∙ past-sheet s f (history_checks n h values)

      pub load-unsound : sound n h ≡ false → 4 ≡ first_of (load_checks s n h values)
      unfolding history_checks first_of
      load-unsound e = sym (past-formed ∙ rw e)

      module _ (ok : sound n h ≡ true) where
        pub load-in-use : (h.count ≡ 0 → ⊥) → 26 ≡ first_of (load_checks s n h values)
        unfolding history_checks first_of
        load-in-use z = sym (past-formed ∙ rw (ok, ne_eqb h.count 0 z))

        module _ (none : h.count ≡ 0) where
          past-handle : first_of (load_checks s n h values) ≡ first_of (curve_checks (curve_of true values))
          unfolding history_checks
          past-handle =
              past-formed ∙ skip (unsound n h) _ (rw ok) ∙ skip (journal_in_use when not (eqb h.count 0)) _ (rw (eq-eqb h.count 0 none))

          pub load-unfit : not (fit_curve values) ≡ true → 25 ≡ first_of (load_checks s n h values)
          load-unfit e = unfit-number true values refl e ∙ sym past-handle

          pub load-fine : not (fit_curve values) ≡ false → 0 ≡ first_of (load_checks s n h values)
          load-fine e = fit-number true values refl e ∙ sym past-handle

  -- ---- none of them applies
  pub record Passes : Type 0 where
    pub formed : WellFormed s
    pub unused : h.count ≡ 0
    pub fits : first_of (curve_checks (curve_of true values)) ≡ 0

  pub passes : first_of (load_checks s n h values) ≡ 0 → Passes
  unfolding load_checks history_checks
  passes e =
      let parts = past-both (sheet_checks [] s) (history_checks n h values) (past (long_journal n) (sheet_checks [] s ++ history_checks n h values) (omega arith) e).rest in
      let rest = (past (unsound n h) (journal_in_use when not (eqb h.count 0) ∷ curve_checks (curve_of true values)) (omega arith) parts.right).rest in
      let count = past (journal_in_use when not (eqb h.count 0)) (curve_checks (curve_of true values)) (omega arith) rest in
      record { formed = none-applied s parts.left; unused = eqb-true _ _ (not-false _ count.off); fits = count.rest }

  -- ---- the call
  pub load-refused : (m : ℕ) → m ≡ first_of (load_checks s n h values) → (m ≡ 0 → ⊥) → load_made (answer.Refused m) s.lab ≡ load_of s n h values
  unfolding load_of
  load-refused m e z = refused-first _ (refused s.lab) _ m e z

  pub load-done : first_of (load_checks s n h values) ≡ 0 → (lab : List Float) → lab ≡ loaded_lab s values → load_made answer.Done lab ≡ load_of s n h values
  unfolding load_of
  load-done e lab q = rw q (result-first _ (refused s.lab) _ e)
