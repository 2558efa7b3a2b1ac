-- What the core leaves is what the buffer holds: LAB past the entries is what stood there, by edit's `redone-past` and
-- `reverted-past`, and all else reads back as it was written. Assumes nothing.
use mathlib.Core.Path.{◌≡◌, refl, sym, ap, subst, ◌∙◌}
use mathlib.Core.Bool.{Bool, true, false}
use mathlib.Core.List.{List}
use mathlib.Core.Option.{Option, none, some}
use Prim.Native.Nat.{ℕ, ◌≤◌}
use native.Mathlib.Omega.{arith}
use borrow.Author.Tests.{eqb-true}
use lib.Dec.{leb}
use lib.ListN.{length}
use Rattle.base.specs.Limits.{max_changes}
use Rattle.base.specs.Checks.{first_of}
use Rattle.base.specs.declared.Form.TheVariants.{Coordinates}
use Rattle.base.proofs.Bools.{and_left, and_right}
use Rattle.color_curve.specs.Curve.{srgb, lab_by}
use Rattle.sheet.specs.Sheet.{view}
use Rattle.sheet.specs.Checks.{WellFormed}
use Rattle.edit.specs.Checks.{own_checks}
use Rattle.edit.proofs.Passed.{passed}
use Rattle.edit.proofs.Past.{Past, redone-past, reverted-past}
use Rattle.edit.proofs.Redone.{SameSize, redone-size}
use Rattle.edit.proofs.Reverted.{reverted-size}
use Rattle.edit.proofs.Shown.{checks-shown}
use Rattle.journal_record.specs.Record as records
use Rattle.journal_record.specs.Record.{read_forth, read_back}
use Rattle.journal_read.specs.Sound.{undoable, redoable, any_colour}
use Rattle.history_ledger.specs.Algebra.{Taken, WellFormedIn}
use Rattle.history_ledger.specs.Laws.{Accepts}
use Rattle.history_model.specs.Document.{Document, document_done, document_back}
use Rattle.history_model.specs.Editing.{undone_by, redone_by, taken}
use Rattle.history_model.proofs.Keeps.{marked}
use Rattle.c_form.specs.Flat.{sheet_misfits}
use Rattle.c_model.specs.Asked.{Asked, given_by, flat_editing}
use Rattle.c_model.specs.Step.{sheet_in, flat_over}
use Rattle.c_model.specs.FlatForm.{Holds, FlatForm}
use Rattle.c_model.proofs.Faithful.{sheet-passes, whole_back}
use Rattle.c_model.proofs.FlatHistory.{flat_keeps}

well-formed : (d : Document) → flat_editing.sheet_check d ≡ 0 → WellFormed d.sheet
well-formed d e = (marked d.sheet d.locks (sheet-passes d e).1).formed

-- a sheet of the buffer's size, whose storage past its entries is the buffer's
held : (b : List ℕ) (d : Document) → sheet_misfits b ≡ false → WellFormedIn flat_editing d → SameSize (sheet_in b).sheet d.sheet
    → Past (sheet_in b).sheet d.sheet → Holds b d
unfolding view sheet_in
held b d fit g size past = whole_back d b fit g (sym size.w, sym size.h) past.lab

module _ (b : List ℕ) (fit : sheet_misfits b ≡ false) where
  abbrev d : Document
  d = sheet_in b

  -- ---- a push
  pushed : (a : Asked) → Accepts flat_editing d a → Holds b (flat_editing.make d a)
  pushed a acc =
      let g = given_by a in
      let p = passed false d.sheet d.locks g.permitted g.edit g.changes (checks-shown false g.permitted d.sheet d.locks g.edit g.changes ∙ acc.own-passes) in
      held b _ fit (flat_keeps.make-fits d a acc) (redone-size (lab_by srgb) d.sheet g.edit g.changes)
      (redone-past (lab_by srgb) d.sheet g.edit g.changes (well-formed d acc.fits.passes) p)

  -- ---- a record that was read
  module _ (passes : flat_editing.sheet_check d ≡ 0) (r : Taken Document) (g : WellFormedIn flat_editing r.sheet) where
    -- what is taken is what the record leads to
    led : Option (Taken Document) → Document
    led none = d
    led (some t) = t.sheet

    leads : (ok : Bool) (n : ℕ) (t : Document) → taken ok n t ≡ some r → (ok ≡ true) × (t ≡ r.sheet)
    unfolding led
    leads true n t e = (refl, ap led e)
    leads false n t e = absurd (let z : ◌≡◌ {A = ℕ} 0 1 = cc in omega arith)

    undone : (reading : records.Reading) → undone_by d reading ≡ some r → Holds b r.sheet
    unfolding undone_by undoable
    undone none e = absurd (let z : ◌≡◌ {A = ℕ} 0 1 = cc in omega arith)
    undone (some q) e =
        let l = leads (undoable d.sheet d.locks q.1 q.2) q.0 (document_back d q.1 q.2) e in
        let g' = subst (WellFormedIn flat_editing) (sym l.1) g in
        let few = (well-formed (document_back d q.1 q.2) g'.passes).limits.k-small in
        subst (Holds b) l.1
        (held b (document_back d q.1 q.2) fit g' (reverted-size d.sheet q.1 q.2)
        (reverted-past d.sheet q.1 q.2 (well-formed d passes) (and_left _ _ l.0) few))

    redone : (reading : records.Reading) → redone_by (lab_by srgb) d reading ≡ some r → Holds b r.sheet
    unfolding redone_by redoable
    redone none e = absurd (let z : ◌≡◌ {A = ℕ} 0 1 = cc in omega arith)
    redone (some q) e =
        let l = leads (redoable d.sheet d.locks q.1 q.2) q.0 (document_done (lab_by srgb) d q.1 q.2) e in
        let own : first_of (own_checks false d.sheet d.locks any_colour q.1 q.2) ≡ 0 = eqb-true _ 0 (and_right (leb (length q.2) max_changes) _ l.0) in
        let p = passed false d.sheet d.locks any_colour q.1 q.2 own in
        subst (Holds b) l.1
        (held b (document_done (lab_by srgb) d q.1 q.2) fit (subst (WellFormedIn flat_editing) (sym l.1) g)
        (redone-size (lab_by srgb) d.sheet q.1 q.2) (redone-past (lab_by srgb) d.sheet q.1 q.2 (well-formed d passes) p))

pub flat-form : FlatForm
flat-form =
    record {
      pushed = pushed;
      undone = λ b fit passes bytes r e g. undone b fit passes r g (read_back Coordinates (sheet_in b).sheet.w bytes) e;
      redone = λ b fit passes bytes r e g. redone b fit passes r g (read_forth Coordinates (sheet_in b).sheet.w bytes) e;
    }
