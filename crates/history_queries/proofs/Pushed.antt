-- In a history that was pushed, `applied` shows the edits that were pushed and are not undone, oldest first, as their records tell them; and the last of these is the one that
-- `next_undo` shows. A trace is a history that a list of calls leads to (`runs` in history_ledger's proofs/Whole). Assumes nothing.
use mathlib.Core.Path.{◌≡◌, refl, sym, ap, ap₂, subst, ◌∙◌}
use mathlib.Core.Bool.{true, false}
use mathlib.Core.List.{List, [], ◌∷◌, ◌++◌, append_assoc, append-nil}
use mathlib.Core.Option.{Option, some}
use Prim.Native.Nat.{ℕ, suc, ◌+◌, ◌-◌, ◌≤◌, ◌<◌}
use native.Mathlib.Omega.{arith}
use borrow.Author.Tests.{le-ltb, le-leb}
use lib.Dec.{leb}
use lib.ListN.{length, length-append}
use Rattle.base.specs.Limits.{max_journal}
use Rattle.base.specs.Checks.{first_of}
use Rattle.sheet.specs.Checks.{WellFormed}
use Rattle.base.specs.declared.Edit.{Edit}
use Rattle.base.specs.declared.Form.{Form}
use Rattle.color_curve.specs.Curve.{Curve}
use Rattle.edit.specs.Change.{Change}
use Rattle.edit.specs.List.{list_of}
use Rattle.edit.specs.Apply.{filled_edit, filled_changes}
use Rattle.edit.proofs.Passed.{Passed, passed}
use Rattle.edit.proofs.Shown.{checks-shown}
use Rattle.journal_record.specs.Record.{record_length, read_forth, read_back}
use Rattle.journal_write.specs.Fit.{Fit}
use Rattle.journal_write.proofs.ReadAgain.{read-forth, read-back}
use Rattle.base.specs.declared.Handle.{Handle}
use Rattle.history_ledger.specs.Handle.{sound, stepped_back, stepped_forth}
use Rattle.history_ledger.specs.Algebra.{Algebra}
use Rattle.history_ledger.specs.Laws.{Laws}
use Rattle.history_ledger.proofs.Soundness.{same-handle}
use Rattle.history_ledger.proofs.Saved.{SavedWithin}
use Rattle.history_ledger.specs.Tally.{total}
use Rattle.history_ledger.proofs.Trace.{Pushed, Trace, Holds, bytes, sizes, pastBytes, futureBytes, journalOf, handle_of}
use Rattle.history_ledger.proofs.Lengths.{sound-handle, take_past, take-future}
use Rattle.history_model.specs.Document.{Document, Shown}
use Rattle.history_model.specs.Editing.{editing_by}
use Rattle.history_model.specs.Calls.{handle_checks}
use Rattle.history_model.proofs.Keeps.{marked}
use Rattle.history_model.proofs.Recordable.{own_list, own-length, recordable, own-record}
use Rattle.history_queries.specs.Looks.{any_width, shown, next_undo_of, next_redo_of, rewound, past, shown_after, applied_of}
use Rattle.history_queries.proofs.NextShown.{undo-steps, redo-steps, applied-after}
use Rattle.history_queries.proofs.Widths.{tells, forth-tells, back-tells, same-shown, step-some}

module _ (form : Form) (session : Curve) where
  abbrev A : Algebra
  A = editing_by form session

  abbrev Pushes : Type 0
  Pushes = List (Pushed A)

  -- ---- what an accepted push's record tells: the edit filled in from the sheet and the marks that it met
  abbrev pub told : Pushed A → ℕ × Edit × List Change
  told x =
      (record_length form x.by.edit (length x.by.changes), filled_edit x.from.sheet x.from.locks x.by.edit, filled_changes x.from.sheet x.by.edit (own_list (list_of x.by.edit) x.by.changes))

  module _ (x : Pushed A) where
    formed : WellFormed x.from.sheet
    formed = (marked x.from.sheet x.from.locks x.ok.fits.passes).formed

    passed-edit : Passed x.from.sheet x.by.edit x.by.changes
    passed-edit =
        passed false x.from.sheet x.from.locks x.by.permitted x.by.edit x.by.changes
        (checks-shown false x.by.permitted x.from.sheet x.from.locks x.by.edit x.by.changes ∙ x.ok.own-passes)

    fit : Fit form x.from.sheet.w (told x).1 (told x).2
    fit = recordable x.from.sheet x.from.locks formed x.ok.fits.typed.lab form x.by.edit x.by.changes passed-edit x.ok.not-empty x.ok.not-long x.ok.typed.changes-fit

    long : record_length form (told x).1 (length (told x).2) ≡ (told x).0
    long = own-length x.from.sheet x.from.locks formed x.ok.fits.typed.lab form x.by.edit x.by.changes

    reads-forth : (after : List ℕ) → read_forth form x.from.sheet.w (bytes A x ++ after) ≡ some (told x)
    reads-forth after = rw (own-record form x.from.sheet.w x.from.sheet x.from.locks x.by.edit x.by.changes, read-forth form x.from.sheet.w (told x).1 (told x).2 after fit, long)

    reads-back : (before : List ℕ) → read_back form x.from.sheet.w (before ++ bytes A x) ≡ some (told x)
    reads-back before = rw (own-record form x.from.sheet.w x.from.sheet x.from.locks x.by.edit x.by.changes, read-back form x.from.sheet.w (told x).1 (told x).2 before fit, long)

  -- ---- the pushes before the standing position, oldest first, and more behind them
  abbrev pub onto : Pushes → Pushes → Pushes
  onto [] later = later
  onto (x ∷ xs) later = onto xs (x ∷ later)

  onto-bytes : (xs later : Pushes) → pastBytes A xs ++ futureBytes A later ≡ futureBytes A (onto xs later)
  onto-bytes [] later = refl
  onto-bytes (x ∷ xs) later = rw append_assoc (onto-bytes xs (x ∷ later))

  onto-total : (xs later : Pushes) → total (sizes A (onto xs later)) ≡ total (sizes A xs) + total (sizes A later)
  onto-total [] later = omega arith
  onto-total (x ∷ xs) later = omega (arith, onto-total xs (x ∷ later))

  onto-length : (xs later : Pushes) → length (onto xs later) ≡ length xs + length later
  onto-length [] later = omega arith
  onto-length (x ∷ xs) later = omega (arith, onto-length xs (x ∷ later))

  onto-behind : (xs later more : Pushes) → onto xs (later ++ more) ≡ onto xs later ++ more
  onto-behind [] later more = refl
  onto-behind (x ∷ xs) later more = onto-behind xs (x ∷ later) more

  module _ (L : Laws A) where
    -- 1 and 4 do not refuse a trace's handle
    passes : (k : Trace A) → SavedWithin (length k.past + length k.future) k.saved → length (journalOf A k) ≤ max_journal
        → first_of (handle_checks (length (journalOf A k)) (handle_of A k)) ≡ 0
    unfolding first_of
    passes k s b = rw (le-ltb max_journal (length (journalOf A k)) b, sound-handle A L k s)

    -- ---- a history with p before the standing position and f after it
    module _ (o : Shown) (s : Document) (rest : List ℕ) where
      abbrev at : Pushes → Pushes → Trace A
      at p f = record { opening = o; sheet = s; past = p; future = f; rest = rest; saved = some 0 }

      abbrev journal : Pushes → Pushes → List ℕ
      journal p f = journalOf A (at p f)

      abbrev handle : Pushes → Pushes → Handle
      handle p f = handle_of A (at p f)

      module _ (x : Pushed A) (p f : Pushes) where
        same-journal : journal (x ∷ p) f ≡ journal p (x ∷ f)
        same-journal = simp append_assoc

        stepped : stepped_forth (told x).0 (handle p (x ∷ f)) ≡ handle (x ∷ p) f
        stepped = same-handle (omega arith) (omega arith) (omega arith) (omega arith) refl

        shows-next : length (journal p (x ∷ f)) ≤ max_journal → next_redo_of form (journal p (x ∷ f)) (handle p (x ∷ f)) ≡ shown form (total (sizes A p)) (told x)
        shows-next b =
            let J : List ℕ = journal p (x ∷ f) in
            let H : Handle = handle p (x ∷ f) in
            let w : ℕ = x.from.sheet.w in
            let reading = ap (read_forth form w) (take-future A L (at p (x ∷ f))) ∙ reads-forth x (futureBytes A f) in
            let inside = le-leb (total (sizes A p) + (told x).0) (total (sizes A p) + total (sizes A (x ∷ f))) (omega arith) in
            let sound-after : sound (length J) (stepped_forth (told x).0 H) ≡ true = rw (stepped, ← same-journal) (sound-handle A L (at (x ∷ p) f) (omega arith)) in
            sym (redo-steps form J H (passes (at p (x ∷ f)) (omega arith) b) (λ e. omega arith))
            ∙ same-shown form (length J) H (λ n. H.offset) (λ n. leb (H.offset + n) H.end) stepped_forth _ (some (told x)) (forth-tells form any_width w _ ∙ ap tells reading)
            ∙ step-some form (length J) H (λ n. H.offset) (λ n. leb (H.offset + n) H.end) stepped_forth (told x) inside sound-after

      -- past the record that is shown
      past-shown : (j : List ℕ) (n : ℕ) (h : Handle) (m : ℕ) (r : ℕ × Edit × List Change) → next_redo_of form j h ≡ shown form m r
          → shown_after form j (suc n) h ≡ shown_after form j n (stepped_forth r.0 h)
      unfolding shown_after past shown
      past-shown j n h m r e = rw e

      shows-after : (f : Pushes) (x : Pushed A) (p more : Pushes) → length (journal p (f ++ (x ∷ more))) ≤ max_journal
          → shown_after form (journal p (f ++ (x ∷ more))) (length f) (handle p (f ++ (x ∷ more))) ≡ shown form (total (sizes A p) + total (sizes A f)) (told x)
      unfolding shown_after
      shows-after [] x p more b =
          let there : total (sizes A p) ≡ total (sizes A p) + 0 = omega arith in
          shows-next x p more b ∙ ap (λ (n : ℕ). shown form n (told x)) there
      shows-after (y ∷ f) x p more b =
          let all : Pushes = f ++ (x ∷ more) in
          let there : total (sizes A (y ∷ p)) + total (sizes A f) ≡ total (sizes A p) + total (sizes A (y ∷ f)) = omega arith in
          past-shown (journal p (y ∷ all)) (length f) (handle p (y ∷ all)) (total (sizes A p)) (told y) (shows-next y p all b)
          ∙ ap₂ (λ (j : List ℕ) (c : Handle). shown_after form j (length f) c) (sym (same-journal y p all)) (stepped y p all)
          ∙ shows-after f x (y ∷ p) more (subst (λ (j : List ℕ). length j ≤ max_journal) (sym (same-journal y p all)) b)
          ∙ ap (λ (n : ℕ). shown form n (told x)) there

    -- ---- `applied` in a history that was pushed
    module _ (room n : ℕ) (permitted : n ≤ max_journal) (k : Trace A) (h : Holds A room n k) where
      abbrev all : List ℕ
      all = futureBytes A k.future ++ k.rest

      rewound-journal : (xs : Pushes) → onto k.past [] ≡ xs → journalOf A k ≡ futureBytes A xs ++ all
      rewound-journal xs e = ap (λ (b : List ℕ). b ++ all) (sym (append-nil (pastBytes A k.past)) ∙ onto-bytes k.past [] ∙ ap (futureBytes A) e)

      rewound-handle : (xs : Pushes) → onto k.past [] ≡ xs → rewound (handle_of A k) ≡ handle k.opening k.sheet all [] xs
      rewound-handle xs e =
          let t : total (sizes A xs) ≡ total (sizes A k.past) + 0 = ap (λ (l : Pushes). total (sizes A l)) (sym e) ∙ onto-total k.past [] in
          let l : length xs ≡ length k.past + 0 = ap length (sym e) ∙ onto-length k.past [] in
          same-handle refl (omega arith) refl (omega arith) refl

      pub applied-pushed : (before : Pushes) (x : Pushed A) (after : Pushes) → onto k.past [] ≡ before ++ (x ∷ after)
          → applied_of form (journalOf A k) (handle_of A k) (length before) ≡ shown form (total (sizes A before)) (told x)
      applied-pushed before x after e =
          let xs : Pushes = before ++ (x ∷ after) in
          let fine = passes k h.saves (omega (arith, h.sized)) in
          let l : length xs ≡ length k.past + 0 = ap length (sym e) ∙ onto-length k.past [] in
          let left : length before < length k.past = omega (arith, length-append before (x ∷ after)) in
          let size : length (futureBytes A xs ++ all) ≤ max_journal = omega (arith, ap length (rewound-journal xs e), h.sized) in
          let there : 0 + total (sizes A before) ≡ total (sizes A before) = omega arith in
          sym (applied-after form (journalOf A k) (handle_of A k) fine (length before) left)
          ∙ ap₂ (λ (j : List ℕ) (c : Handle). shown_after form j (length before) c) (rewound-journal xs e) (rewound-handle xs e)
          ∙ shows-after k.opening k.sheet all before x [] after size
          ∙ ap (λ (m : ℕ). shown form m (told x)) there

    -- ---- the last of them is `next_undo`'s
    module _ (o : Shown) (s : Document) (rest : List ℕ) (saved : Option ℕ) (x : Pushed A) (xs f : Pushes) where
      abbrev above : Trace A
      above = record { opening = o; sheet = s; past = x ∷ xs; future = f; rest = rest; saved = saved }

      abbrev below : Trace A
      below = record { opening = o; sheet = s; past = xs; future = x ∷ f; rest = rest; saved = saved }

      shows-last : SavedWithin (length (x ∷ xs) + length f) saved → length (journalOf A above) ≤ max_journal
          → next_undo_of form (journalOf A above) (handle_of A above) ≡ shown form (total (sizes A xs)) (told x)
      shows-last w b =
          let J : List ℕ = journalOf A above in
          let H : Handle = handle_of A above in
          let v : ℕ = x.from.sheet.w in
          let reading = ap (read_back form v) (take_past A L above) ∙ reads-back x (pastBytes A xs) in
          let inside = le-leb (told x).0 (total (sizes A (x ∷ xs))) (omega arith) in
          let stepped : stepped_back (told x).0 H ≡ handle_of A below = same-handle (omega arith) (omega arith) (omega arith) (omega arith) refl in
          let same : J ≡ journalOf A below = simp append_assoc in
          let within : SavedWithin (length xs + length (x ∷ f)) saved = subst (λ (c : ℕ). SavedWithin c saved) (omega arith) w in
          let sound-after : sound (length J) (stepped_back (told x).0 H) ≡ true = rw (stepped, same) (sound-handle A L below within) in
          let there : total (sizes A (x ∷ xs)) - (told x).0 ≡ total (sizes A xs) = omega arith in
          sym (undo-steps form J H (passes above w b) (λ e. omega arith))
          ∙ same-shown form (length J) H (λ n. H.offset - n) (λ n. leb n H.offset) stepped_back _ (some (told x)) (back-tells form any_width v _ ∙ ap tells reading)
          ∙ step-some form (length J) H (λ n. H.offset - n) (λ n. leb n H.offset) stepped_back (told x) inside sound-after
          ∙ ap (λ (m : ℕ). shown form m (told x)) there

      pub last-applied : (room n : ℕ) → n ≤ max_journal → Holds A room n above
          → next_undo_of form (journalOf A above) (handle_of A above) ≡ applied_of form (journalOf A above) (handle_of A above) (length xs)
      last-applied room n permitted h =
          let before : Pushes = onto xs [] in
          let count : length before ≡ length xs = onto-length xs [] ∙ omega arith in
          let size : total (sizes A before) ≡ total (sizes A xs) = onto-total xs [] ∙ omega arith in
          let shows = applied-pushed room n permitted above h before x [] (onto-behind xs [] (x ∷ [])) in
          shows-last h.saves (omega (arith, h.sized)) ∙ ap (λ (m : ℕ). shown form m (told x)) (sym size) ∙ sym shows ∙ ap (applied_of form (journalOf A above) (handle_of A above)) count
