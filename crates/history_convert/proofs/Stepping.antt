-- Undo and redo over a record of a journal, on a document of its width: by the record's edit and changes, which are the same in either form. Assumes nothing.
use Prim.Native.Nat.{ℕ, ◌+◌, ◌-◌}
use mathlib.Core.Path.{◌≡◌, refl, sym, ap, ◌∙◌}
use mathlib.Core.Bool.{Bool, true, false, cond}
use mathlib.Core.List.{List, [], ◌∷◌, ◌++◌}
use mathlib.Core.Option.{some, some-injective}
use native.Mathlib.Omega.{arith}
use borrow.Author.Tests.{le-leb}
use lib.Dec.{leb}
use lib.ListN.{length, take, drop}
use Rattle.base.specs.Numbers.{journal_damaged}
use Rattle.base.specs.Checks.{first_of, refused_or}
use Rattle.base.specs.declared.Edit.{Edit}
use Rattle.base.specs.declared.Form.{Form}
use Rattle.base.specs.declared.Form.TheVariants.{Coordinates}
use Rattle.base.specs.declared.Handle.{Handle}
use Rattle.color_curve.specs.Curve.{Curve, lab_by}
use Rattle.edit.specs.Change.{Change}
use Rattle.journal_record.specs.Record.{Reading, read_forth, read_back}
use Rattle.journal_read.specs.Sound.{undoable, redoable}
use Rattle.journal_raw.specs.Raw.{Raw, raw_length}
use Rattle.journal_raw.proofs.Readings.{Whole}
use Rattle.history_ledger.specs.Handle.{sound, stepped_back, stepped_forth}
use Rattle.history_ledger.specs.Calls.{Outcome, done, refused}
use Rattle.history_ledger.specs.Journal.{State, stepOver}
use Rattle.history_model.specs.Document.{Document, document_done, document_back}
use Rattle.history_model.specs.Editing.{taken, undone_by, redone_by, editing_by}
use Rattle.history_model.specs.Calls.{state_of}
use Rattle.history_convert.proofs.Standing.{Stands, stands-sound, back_whole, reads-back, stands-back, forth-whole, reads-forth, stands-forth, one-longer, first-longer}

-- a record holds one edit
same-reading : (w n : ℕ) (r : Raw) (s t : Whole w r) → ◌≡◌ {A = Reading} (some (n, s.edit, r.changes)) (some (n, t.edit, r.changes))
same-reading w n r s t =
    let m : ℕ = raw_length Coordinates r in
    ap (λ (x : ℕ × Edit × List Change). some (n, x.1, r.changes))
    (some-injective (m, s.edit, r.changes) (m, t.edit, r.changes) (sym (s.forth Coordinates []) ∙ t.forth Coordinates []))

-- a step to another document and handle, where it is taken
abbrev pub stepped : Document → List ℕ → Handle → Bool → Document → Handle → Outcome (State Document)
stepped d j h ok d₁ h₁ = cond ok (done (state_of d₁ j h₁)) (refused (state_of d j h) journal_damaged)

module _ (f : Form) (c : Curve) (d : Document) (j : List ℕ) (h : Handle) where
  -- ---- the steps, as the calls make them behind their checks
  abbrev pub undoStep : Outcome (State Document)
  undoStep = stepOver (editing_by f c) (state_of d j h) (undone_by d (read_back f d.sheet.w (take h.offset j))) (λ n. leb n h.offset) stepped_back

  abbrev pub redoStep : Outcome (State Document)
  redoStep =
      stepOver (editing_by f c) (state_of d j h) (redone_by (lab_by c) d (read_forth f d.sheet.w (take (h.end - h.offset) (drop h.offset j))))
      (λ n. leb (h.offset + n) h.end) stepped_forth

  over-is : (ok : Bool) (n : ℕ) (d₁ : Document) (inside : ℕ → Bool) (step : ℕ → Handle → Handle) → inside n ≡ true → sound (length j) (step n h) ≡ true
      → stepOver (editing_by f c) (state_of d j h) (taken ok n d₁) inside step ≡ stepped d j h ok d₁ (step n h)
  unfolding stepOver first_of refused_or
  over-is true n d₁ inside step i s = rw (i, s)
  over-is false n d₁ inside step i s = refl

  module _ (w : ℕ) (width : d.sheet.w ≡ w) (past : List Raw) (r : Raw) (future : List Raw) (t : Whole w r) where
    -- ---- back over the last record before the handle
    pub undo-is : Stands f w j h (past ++ (r ∷ [])) future
        → undoStep ≡ stepped d j h (undoable d.sheet d.locks t.edit r.changes) (document_back d t.edit r.changes) (stepped_back (raw_length f r) h)
    unfolding undone_by
    undo-is s =
        let at : List ℕ = take h.offset j in
        let reads : read_back f d.sheet.w at ≡ some (raw_length f r, t.edit, r.changes) =
        ap (λ (n : ℕ). read_back f n at) width ∙ reads-back f w j h past r future s ∙ same-reading w (raw_length f r) r (back_whole f w j h past r future s) t in
        rw reads
        (over-is (undoable d.sheet d.locks t.edit r.changes) (raw_length f r) _ _ stepped_back
        (le-leb (raw_length f r) h.offset (omega (arith, s.offset-is, one-longer f w past r)))
        (stands-sound f w j (stepped_back (raw_length f r) h) past (r ∷ future) (stands-back f w j h past r future s)))

    -- ---- forth over the first record after it
    pub redo-is : Stands f w j h past (r ∷ future)
        → redoStep ≡ stepped d j h (redoable d.sheet d.locks t.edit r.changes) (document_done (lab_by c) d t.edit r.changes) (stepped_forth (raw_length f r) h)
    unfolding redone_by
    redo-is s =
        let at : List ℕ = take (h.end - h.offset) (drop h.offset j) in
        let reads : read_forth f d.sheet.w at ≡ some (raw_length f r, t.edit, r.changes) =
        ap (λ (n : ℕ). read_forth f n at) width ∙ reads-forth f w j h past r future s ∙ same-reading w (raw_length f r) r (forth-whole f w j h past r future s) t in
        rw reads
        (over-is (redoable d.sheet d.locks t.edit r.changes) (raw_length f r) _ _ stepped_forth
        (le-leb (h.offset + raw_length f r) h.end (omega (arith, s.offset-is, s.end_is, first-longer f w r future)))
        (stands-sound f w j (stepped_forth (raw_length f r) h) (past ++ (r ∷ [])) future (stands-forth f w j h past r future s)))
