-- A call is answered "journal full" exactly where it is a push and 14 is the first check to apply. Assumes nothing.
use mathlib.Core.Path.{◌≡◌, sym, ◌∙◌}
use mathlib.Core.Bool.{Bool, cond}
use mathlib.Core.List.{[], ◌∷◌}
use mathlib.Core.Option.{Option, none, some}
use Prim.Native.Nat.{ℕ}
use native.Mathlib.Omega.{arith}
use lib.ListN.{length}
use lib.Dec.{ltb, eqb}
use borrow.Author.Tests.{lt-ltb, le-ltb, ltb-true, ltb-false, not-false}
use Rattle.base.specs.Numbers.{journal_full, no_space, list_too_long}
use Rattle.base.specs.Checks.{first_of, refused_or}
use Rattle.base.specs.Answer.Told.{alone}
use Rattle.base.proofs.First.{first_passes}
use Rattle.base.proofs.Told.{same_number}
use Rattle.base.specs.declared.Handle.{Handle}
use Rattle.history_ledger.specs.Calls.{Outcome, guarded}
use Rattle.history_ledger.specs.Calls.Call.{push, undo, redo, mark}
use Rattle.history_ledger.specs.Algebra.{Algebra, Taken}
use Rattle.history_ledger.specs.Laws.{Laws}
use Rattle.history_ledger.specs.Journal.{State, shortScratch, entry_checks, pushChecks, pushOf, stepOver, move_checks, redoChecks, undoOf, redoOf, mark_of}
use Rattle.history_ledger.specs.Demand.{FullFirst, FullExactly}
use Rattle.history_ledger.specs.Places.{firstFour}
use Rattle.history_ledger.proofs.Refusals.{one, four, sixteen, twenty-one, passed-other, when-other, when-passes, when-full, first-other, none-full, Each, each-passes, done-other, still_full, past-checks, guarded-full, done_full}
use Rattle.history_ledger.proofs.Places.{push-is}

module _ (A : Algebra) (L : Laws A) where
  open A use {Sheet, Edit, view, places, first_check, curve_check, own_check, is_empty, is_long}

  -- ---- the checks before "still", as Places.antt has them: 28's, 1 to 4, 25's
  module _ (st : State Sheet) (e : Edit) where
    entry_other : ¬ (first_of (entry_checks A st e) ≡ journal_full)
    entry_other h =
        let four-other = none-full (firstFour A st e) (one, (L.given-not-full e, (L.sheet-not-full st.sheet, (four, tt)))) in
        let a = first-other (first_check e) _ (L.first-not-full e) (sym (push-is A st e) ∙ h) in
        let b = first-other (first_of (firstFour A st e)) _ four-other a.1 in
        let c = first-other curve_check 0 (passed-other curve_check L.curve-passes) b.1 in
        omega (arith, c.1)

    entry-each : first_of (entry_checks A st e) ≡ 0 → (first_check e ≡ 0) × Each (firstFour A st e)
    entry-each h =
        let a = first_passes (first_check e) _ (sym (push-is A st e) ∙ h) in
        (a.0, each-passes (firstFour A st e) (first_passes (first_of (firstFour A st e)) _ a.1).0)

  to-first : (room : ℕ) (st : State Sheet) (e : Edit) → (pushOf A room st e).answer ≡ alone journal_full → FullFirst A room st e
  unfolding pushOf first_of
  to-first room st e p =
      let a = past-checks st (entry_checks A st e) _ (entry_other st e) p in
      let b = still_full st (is_empty e) _ a.1 in
      let c = done_full _ (pushChecks A room st e) _ b.1 in
      let entry = entry-each st e a.0 in
      let long = first-other (cond (is_long e) list_too_long 0) _ (when-other list_too_long (is_long e) twenty-one) c in
      let scratch = first-other (cond (ltb room (places (view st.sheet))) no_space 0) _ (when-other no_space (ltb room (places (view st.sheet))) sixteen) long.1 in
      let own = first-other (own_check (view st.sheet) e) _ (L.own-not-full (view st.sheet) e) scratch.1 in
      record {
        first_passes = entry.0;
        permitted = ltb-false _ _ (when-passes _ _ entry.1.0);
        given-passes = entry.1.1.0;
        sheet-passes = entry.1.1.1.0;
        handle-sound = not-false _ (when-passes _ _ entry.1.1.1.1.0);
        curve-passes = L.curve-passes;
        not-empty = b.0;
        not-long = when-passes _ _ long.0;
        scratch = ltb-false _ _ (when-passes _ _ scratch.0);
        own-passes = own.0;
        does-not-fit = ltb-true _ _ (when-full _ own.1);
      }

  entry-none : (room : ℕ) (st : State Sheet) (e : Edit) → FullFirst A room st e → first_of (entry_checks A st e) ≡ 0
  unfolding first_of
  entry-none room st e f = rw (f.first_passes, le-ltb _ _ f.permitted, f.given-passes, f.sheet-passes, f.handle-sound, f.curve-passes)

  from_first : (room : ℕ) (st : State Sheet) (e : Edit) → FullFirst A room st e → (pushOf A room st e).answer ≡ alone journal_full
  unfolding pushOf first_of refused_or
  from_first room st e f =
      rw (entry-none room st e f, f.not-empty, f.not-long, le-ltb _ _ f.scratch, f.own-passes, lt-ltb _ _ f.does-not-fit)

  over-other : (st : State Sheet) (reading : Option (Taken Sheet)) (inside : ℕ → Bool) (stepped : ℕ → Handle → Handle)
      → ¬ ((stepOver A st reading inside stepped).answer ≡ alone journal_full)
  unfolding stepOver
  over-other st none inside stepped e = four (same_number e)
  over-other st (some r) inside stepped e = done-other (guarded-full st _ _ (four, (four, tt)) e).1

  move-full : (st : State Sheet) (o : Outcome (State Sheet)) → (guarded st (move_checks A st) o).answer ≡ alone journal_full → o.answer ≡ alone journal_full
  move-full st o e = (guarded-full st _ o (one, (L.sheet-not-full st.sheet, (four, tt))) e).1

  redo-full : (st : State Sheet) (o : Outcome (State Sheet)) → (guarded st (redoChecks A st) o).answer ≡ alone journal_full → o.answer ≡ alone journal_full
  redo-full st o e = (guarded-full st _ o (one, (L.sheet-not-full st.sheet, (four, (passed-other _ L.curve-passes, tt)))) e).1

  undo-other : (st : State Sheet) → ¬ ((undoOf A st).answer ≡ alone journal_full)
  unfolding undoOf
  undo-other st e = over-other st _ _ _ (still_full st (eqb st.handle.position 0) _ (move-full st _ e)).1

  redo-other : (room : ℕ) (st : State Sheet) → ¬ ((redoOf A room st).answer ≡ alone journal_full)
  unfolding redoOf
  redo-other room st e =
      let a = still_full st (eqb st.handle.position st.handle.count) _ (redo-full st _ e) in
      over-other st _ _ _ (guarded-full st (shortScratch A room st ∷ []) _ (sixteen, tt) a.1).1

  mark-other : (n : ℕ) (h : Handle) → ¬ ((mark_of n h).answer ≡ alone journal_full)
  unfolding mark_of
  mark-other n h e = done-other (guarded-full h _ _ (one, (four, tt)) e).1

  pub full-exactly : FullExactly A
  full-exactly room st (push e) = (to-first room st e, from_first room st e)
  full-exactly room st undo = (undo-other st, λ z. absurd z)
  full-exactly room st redo = (redo-other room st, λ z. absurd z)
  full-exactly room st mark = (mark-other (length st.journal) st.handle, λ z. absurd z)
