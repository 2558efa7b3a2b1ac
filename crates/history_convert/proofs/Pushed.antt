-- A push: its record, as both forms have it, and the handle behind it. Assumes nothing.
use Prim.Native.Nat.{ℕ, ◌+◌, ◌≤◌}
use native.Mathlib.Nat.{mul-zero}
use mathlib.Core.Path.{◌≡◌, refl, sym, ap, ap₂, ◌∙◌, subst}
use mathlib.Core.Bool.{Bool, true, false, cond}
use mathlib.Core.List.{List, [], ◌∷◌, ◌++◌, flat_map, append_assoc, append-nil}
use mathlib.Core.Logic.{◌⊎◌, inl, inr}
use native.Mathlib.Omega.{arith}
use borrow.Author.Tests.{leb-true}
use lib.Dec.{leb}
use lib.ListN.{length, take, drop, length-append, length-drop}
use Rattle.base.specs.Checks.{first_of}
use Rattle.base.specs.Lists as lists
use Rattle.base.specs.declared.Edit.{Edit}
use Rattle.base.specs.declared.Edit.TheVariants.{Pixels, PaletteSet, PaletteAdd, PaletteRemove, PaletteLock}
use Rattle.base.specs.declared.Form.{Form}
use Rattle.base.specs.declared.Handle.{Handle}
use Rattle.base.proofs.Each.{all_append}
use Rattle.color_curve.specs.Curve.{Curve, lab_by}
use Rattle.sheet.specs.Sheet.{view}
use Rattle.sheet.specs.Checks.{WellFormed}
use Rattle.edit.specs.Change.{Change}
use Rattle.edit.specs.Checks.{own_checks, as_sheet}
use Rattle.edit.specs.List.{list_of, empty_pixels}
use Rattle.edit.specs.Apply.{filled_edit, filled_changes}
use Rattle.edit.proofs.Passed.{passed}
use Rattle.edit.proofs.Shown.{checks-shown}
use Rattle.edit.specs.Storage.{bytes_of}
use Rattle.journal_record.specs.Bytes.{le}
use Rattle.journal_record.specs.Record.{change_bytes, stride, lab_bytes, list_bytes, mark_byte, body_of, record_length, record_of, by_kind}
use Rattle.journal_record.specs.Found.{kind_of}
use Rattle.journal_record.proofs.LittleEndian.{length-le}
use Rattle.journal_write.specs.Fit.{FitEdit, Fit}
use Rattle.journal_write.proofs.Lengths.{length-lab}
use Rattle.journal_write.proofs.ReadAgain.{read-forth, read-back}
use Rattle.history_ledger.specs.Handle.{nowhere, after_push}
use Rattle.history_ledger.specs.Journal.{written, pushed}
use Rattle.history_model.specs.Document.{Document, document_done}
use Rattle.history_model.specs.Editing.{Given, TypedGiven, too_long, editing_by}
use Rattle.history_model.specs.Calls.{state_of}
use Rattle.history_model.proofs.Recordable.{own_list, own-length, recordable, own-record}
use Rattle.journal_raw.specs.Raw.{Raw, head_length, kind_byte, raw_length, raw_bytes, raws_bytes}
use Rattle.journal_raw.proofs.Readings.{Whole, length-raw}
use Rattle.history_convert.proofs.Standing.{Stands, before-is, one_more, one-longer}
use Rattle.history_convert.proofs.Doubles.{Doubles}

-- ---- the bytes between kind and changes
pub head_bytes : Edit → List Change → List ℕ
head_bytes (Pixels tool) cs = tool ∷ le 4 (length cs)
head_bytes (PaletteSet i old new lab) cs = i ∷ bytes_of old ++ (bytes_of new ++ lab_bytes lab)
head_bytes (PaletteAdd c) cs = bytes_of c
head_bytes (PaletteRemove i c lab) cs = i ∷ bytes_of c ++ (lab_bytes lab ++ le 4 (length cs))
head_bytes (PaletteLock i old new) cs = i ∷ mark_byte old ∷ mark_byte new ∷ []

abbrev pub raw_for : Edit → List Change → Raw
raw_for e cs = record { kind = kind_of e; head = head_bytes e cs; changes = cs }

head-long : (e : Edit) (cs : List Change) → length (head_bytes e cs) ≡ head_length (kind_of e)
unfolding head_bytes head_length kind_of by_kind
head-long (Pixels tool) cs = rw length-le
head-long (PaletteSet i old new lab) cs = rw length-lab
head-long (PaletteAdd c) cs = refl
head-long (PaletteRemove i c lab) cs = simp (length-append, length-lab, length-le)
head-long (PaletteLock i old new) cs = refl

-- ---- its length, and all its bytes, in either form
module _ (f : Form) where
  pub raw-length : (e : Edit) (cs : List Change) → FitEdit e cs → record_length f e (length cs) ≡ raw_length f (raw_for e cs)
  unfolding record_length FitEdit head_length kind_of by_kind
  raw-length (Pixels tool) cs h = omega (arith, head-long (Pixels tool) cs)
  raw-length (PaletteSet i old new lab) cs h = rw h.1 (omega (arith, mul-zero (stride f), head-long (PaletteSet i old new lab) []))
  raw-length (PaletteAdd c) cs h = rw h (omega (arith, mul-zero (stride f), head-long (PaletteAdd c) []))
  raw-length (PaletteRemove i c lab) cs h = omega (arith, head-long (PaletteRemove i c lab) cs)
  raw-length (PaletteLock i old new) cs h = rw h (omega (arith, mul-zero (stride f), head-long (PaletteLock i old new) []))

  raw-body : (w : ℕ) (e : Edit) (cs : List Change) → FitEdit e cs → body_of f w e cs ≡ kind_byte f (kind_of e) ∷ head_bytes e cs ++ flat_map (change_bytes f w) cs
  unfolding body_of list_bytes head_bytes FitEdit flat_map kind_byte kind_of by_kind
  raw-body w (Pixels tool) cs h = refl
  raw-body w (PaletteSet i old new lab) cs h = rw h.1 (sym (append-nil _))
  raw-body w (PaletteAdd c) cs h = rw h
  raw-body w (PaletteRemove i c lab) cs h = simp append_assoc
  raw-body w (PaletteLock i old new) cs h = rw h

  pub raw-bytes : (w : ℕ) (e : Edit) (cs : List Change) → FitEdit e cs → record_of f w e cs ≡ raw_bytes f w (raw_for e cs)
  unfolding record_of raw_bytes
  raw-bytes w e cs h =
      ap₂ (λ (b : List ℕ) (n : ℕ). b ++ le 4 n) (raw-body w e cs h) (raw-length e cs h)
      ∙ ap (λ (l : List ℕ). kind_byte f (kind_of e) ∷ l) (append_assoc (head_bytes e cs) (flat_map (change_bytes f w) cs) _)

pub pushed_whole : (w : ℕ) (e : Edit) (cs : List Change) → ((g : Form) → Fit g w e cs) → Whole w (raw_for e cs)
pushed_whole w e cs fit =
    record {
      edit = e;
      kind-is = refl;
      head-is = head-long e cs;
      forth = λ g rest. rw (← raw-bytes g w e cs (fit g).edit, ← raw-length g e cs (fit g).edit) (read-forth g w e cs rest (fit g));
      back = λ g front. rw (← raw-bytes g w e cs (fit g).edit, ← raw-length g e cs (fit g).edit) (read-back g w e cs front (fit g));
    }

-- ---- a push: the records after the handle are dropped
kept-saved : (saved position : ℕ) → (cond (leb saved position) saved nowhere ≡ nowhere) ⊎ (cond (leb saved position) saved nowhere ≤ position + 1)
kept-saved saved position = go (leb saved position) refl
  where
    go : (b : Bool) → leb saved position ≡ b → (cond b saved nowhere ≡ nowhere) ⊎ (cond b saved nowhere ≤ position + 1)
    go true e = inr (omega (arith, leb-true saved position e))
    go false e = inl refl

module _ (f : Form) (w : ℕ) (journal : List ℕ) (h : Handle) (past future : List Raw) (s : Stands f w journal h past future) (r : Raw) (t : Whole w r) where
  pub stands-pushed : h.offset + raw_length f r ≤ length journal → Stands f w (written journal h.offset (raw_bytes f w r)) (after_push (raw_length f r) h) (past ++ (r ∷ [])) []
  unfolding lists.All flat_map written
  stands-pushed room =
      let o = s.offset-is in
      let n = s.position-is in
      let many : length (past ++ (r ∷ [])) ≡ length past + 1 = length-append past (r ∷ []) in
      let rest : List ℕ = drop (h.offset + length (raw_bytes f w r)) journal in
      let front : take h.offset journal ≡ raws_bytes f w past = before-is f w journal h past future s in
      let is : take h.offset journal ++ (raw_bytes f w r ++ rest) ≡ raws_bytes f w (past ++ (r ∷ [])) ++ rest = rw (front, one_more f w past r) (simp append_assoc) in
      record {
        past-whole = all_append (Whole w) past (r ∷ []) s.past-whole (t, tt);
        future-whole = tt;
        offset-is = omega (arith, one-longer f w past r);
        end_is = omega (arith, one-longer f w past r);
        position-is = omega arith;
        count-is = omega arith;
        saves = kept-saved h.saved h.position;
        after = rest;
        journal-is = is;
        permitted = rw (is, length-append, one-longer f w past r, length-drop, length-raw f w r) (omega (arith, s.permitted));
      }

-- ---- a push that no check refuses
module _ (c : Curve) (d : Document) (doubles : Doubles d.sheet) (formed : WellFormed d.sheet) (e : Given) (typed : TypedGiven e)
    (some : empty_pixels (list_of e.edit) (length e.changes) ≡ false) (short : too_long e.changes ≡ false)
    (own : first_of (own_checks false (as_sheet (view d.sheet)) (take d.sheet.k d.locks) e.permitted e.edit e.changes) ≡ 0) where
  -- its edit and its list, filled in
  abbrev edit : Edit
  edit = filled_edit d.sheet d.locks e.edit

  abbrev list : List Change
  list = filled_changes d.sheet e.edit (own_list (list_of e.edit) e.changes)

  abbrev pub rawPush : Raw
  rawPush = raw_for edit list

  fit : (f : Form) → Fit f d.sheet.w edit list
  fit f =
      recordable d.sheet d.locks formed doubles f e.edit e.changes
      (passed false d.sheet d.locks e.permitted e.edit e.changes (checks-shown false e.permitted d.sheet d.locks e.edit e.changes ∙ own))
      some short typed.changes-fit

  pub push-length : (f : Form) → record_length f e.edit (length e.changes) ≡ raw_length f rawPush
  push-length f = sym (own-length d.sheet d.locks formed doubles f e.edit e.changes) ∙ raw-length f edit list (fit f).edit

  module _ (w : ℕ) (width : d.sheet.w ≡ w) where
    pub push-whole : Whole w rawPush
    push-whole = subst (λ (n : ℕ). Whole n rawPush) width (pushed_whole d.sheet.w edit list fit)

    push-bytes : (f : Form) → record_of f d.sheet.w edit (filled_changes d.sheet e.edit e.changes) ≡ raw_bytes f w rawPush
    push-bytes f =
        own-record f d.sheet.w d.sheet d.locks e.edit e.changes
        ∙ raw-bytes f d.sheet.w edit list (fit f).edit ∙ ap (λ (n : ℕ). raw_bytes f n rawPush) width

    pub push-is : (f : Form) (j : List ℕ) (h : Handle)
        → pushed (editing_by f c) (state_of d j h) e ≡ state_of (document_done (lab_by c) d e.edit e.changes) (written j h.offset (raw_bytes f w rawPush)) (after_push (raw_length f rawPush) h)
    unfolding pushed
    push-is f j h = rw (push-bytes f, push-length f)
