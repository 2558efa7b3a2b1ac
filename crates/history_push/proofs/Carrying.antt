-- An edit that no check refuses, recorded and done: what the steps over its list ask, in any form of the list, and that with the last step they leave what a
-- push leaves. Assumes nothing.
use mathlib.Core.Path.{◌≡◌, refl, sym, ap, ◌∙◌}
use mathlib.Core.Bool.{Bool, true, false}
use mathlib.Core.List.{List, [], ◌∷◌, ◌++◌, map, flat_map}
use Prim.Native.Nat.{ℕ, ◌+◌, ◌-◌, ◌≤◌}
use native.Mathlib.Omega.{arith}
use lib.IntN.{ℤ}
use lib.Ieee.{Float}
use lib.ListN.{length, take, drop, length-map, take-append-drop}
use lib.Seq.{drop-drop}
use Rattle.base.specs.Checks.{refused_or}
use Rattle.base.specs.Lists.{some, over}
use Rattle.base.proofs.Back.{never}
use Rattle.color_curve.specs.Curve.{Curve, lab_by}
use Rattle.sheet.specs.Sheet.{Sheet, sheet_of}
use Rattle.base.specs.declared.Edit.{Edit}
use Rattle.base.specs.declared.Form.{Form}
use Rattle.base.specs.declared.Edit.TheVariants.{Pixels, PaletteSet, PaletteAdd, PaletteRemove, PaletteLock}
use Rattle.edit.specs.declared.ListKind.{ListKind}
use Rattle.edit.specs.declared.ListKind.TheVariants.{NoList, PixelList, RemapList}
use Rattle.edit.specs.Change.{Change, unpacked, painted}
use Rattle.edit.specs.List.{list_of, empty_pixels, filled_list, painted_list}
use Rattle.edit.specs.Locks.{locks_done}
use Rattle.edit.specs.Apply.{filled_edit, filled_changes, restDone, redone}
use Rattle.edit_list.specs.Paintable.{Paintable}
use Rattle.edit_apply.specs.Redoable.{Redoable}
use Rattle.edit_apply.proofs.Redoing.{redoable-paints, redoable-finishes, entry-in, mark-in, marks-redo}
use Rattle.journal_record.specs.Record.{record_length, record_of}
use Rattle.journal_record.proofs.Splice.{splice-none}
use Rattle.journal_write.specs.List.{within, Puttable}
use Rattle.journal_frame.specs.Frame.{around}
use Rattle.journal_frame.proofs.Framing.{whole-record}
use Rattle.base.specs.declared.Handle.{Handle}
use Rattle.history_ledger.specs.Handle.{after_push}
use Rattle.history_ledger.specs.Calls.{done}
use Rattle.history_ledger.specs.Journal.{State, written, pushed}
use Rattle.history_ledger.proofs.Soundness.{sound-facts}
use Rattle.history_model.specs.Document.{Document, document_of}
use Rattle.history_model.specs.Editing.{Given, given_of, editing_by}
use Rattle.history_model.specs.Calls.{state_of, Standing, Acceptable}
use Rattle.history_model.proofs.Accepting.{filled-length, framed, not-refused}
use Rattle.history_push_checks.specs.Steps.{is_still, pushed_or}
use Rattle.history_push_checks.proofs.PushSteps.{none-there}
use Rattle.history_push.specs.Finish.{finished, Finishes}

-- ---- an empty list of pixels: it asks nothing, and nothing is written and painted
nowhere-none : {A : Type 0} (p : A → Bool) (l : List A) → length l ≡ 0 → some p l ≡ false
unfolding some
nowhere-none p [] q = refl
nowhere-none p (x ∷ l) q = absurd (omega (arith, q))

still-puts : (form : Form) (l : ListKind) (w n m : ℕ) (cs : List Change) → empty_pixels l (length cs) ≡ true → length cs ≡ 0 → Puttable form l w n m cs
unfolding Puttable empty_pixels
still-puts form NoList w n m cs t q = tt
still-puts form PixelList w n m cs t q = (λ h. absurd (omega (arith, h, q)), nowhere-none _ cs q)
still-puts form (RemapList i) w n m cs t q = never t

still-paints : (l : ListKind) (w n : ℕ) (cs : List Change) → empty_pixels l (length cs) ≡ true → length cs ≡ 0 → Paintable l w n cs
unfolding Paintable empty_pixels
still-paints NoList w n cs t q = tt
still-paints PixelList w n cs t q = nowhere-none _ cs q
still-paints (RemapList i) w n cs t q = never t

none-painted : (l : ListKind) (w : ℕ) (cs : List Change) (indices : List ℤ) → length cs ≡ 0 → painted_list l w cs indices ≡ indices
unfolding painted_list painted
none-painted l w (c ∷ cs) indices q = absurd (omega (arith, q))
none-painted NoList w [] indices q = refl
none-painted PixelList w [] indices q = refl
none-painted (RemapList i) w [] indices q = refl

none_within : (form : Form) (l : ListKind) (w : ℕ) (indices : List ℤ) (cs : List Change) (part : List ℕ) → length cs ≡ 0 → within form w l (filled_list l w indices cs) part ≡ part
unfolding within filled_list flat_map
none_within form l w indices (c ∷ cs) part q = absurd (omega (arith, q))
none_within form NoList w indices [] part q = refl
none_within form PixelList w indices [] part q = sym (splice-none part 6)
none_within form (RemapList i) w indices [] part q = sym (splice-none part 33)

-- ---- the edit filled in: it looks at the storage alone, and has the same list
stored-fill : (s : Sheet) (locks : List Bool) (e : Edit) → filled_edit (sheet_of 0 0 s.k s.palette s.lab []) locks e ≡ filled_edit s locks e
unfolding filled_edit
stored-fill s locks (Pixels tool) = refl
stored-fill s locks (PaletteSet i old new lab) = refl
stored-fill s locks (PaletteAdd c) = refl
stored-fill s locks (PaletteRemove i c lab) = refl
stored-fill s locks (PaletteLock i old new) = refl

list-filled : (s : Sheet) (locks : List Bool) (e : Edit) → list_of (filled_edit s locks e) ≡ list_of e
unfolding filled_edit
list-filled s locks (Pixels tool) = refl
list-filled s locks (PaletteSet i old new lab) = refl
list-filled s locks (PaletteAdd c) = refl
list-filled s locks (PaletteRemove i c lab) = refl
list-filled s locks (PaletteLock i old new) = refl

length-filled : (l : ListKind) (w : ℕ) (indices : List ℤ) (cs : List Change) → length (filled_list l w indices cs) ≡ length cs
unfolding filled_list
length-filled NoList w indices cs = refl
length-filled PixelList w indices cs = length-map cs _
length-filled (RemapList i) w indices cs = refl

-- ---- the list packed one number a change, of which there are n
module _ (form : Form) (w h k : ℕ) (palette : List ℕ) (lab : List Float) (indices : List ℤ) (locks : List Bool) (journal : List ℕ) (handle : Handle) (e : Edit) (list : List ℕ) (n : ℕ) (long : length list ≡ n) where
  abbrev s : Sheet
  s = sheet_of w h k palette lab indices

  abbrev st : State Document
  st = state_of (document_of w h k palette lab indices locks) journal handle

  abbrev cs : List Change
  cs = map unpacked list

  counted : length cs ≡ n
  counted = length-map list unpacked ∙ long

  module _ (stands : Standing st) (fine : empty_pixels (list_of e) (length cs) ≡ false → Acceptable form st e cs) where
    redo : Acceptable form st e cs → Redoable w k palette lab indices e cs
    redo a = record { h = h; limits = stands.fits.limits; unrefused = not-refused a }

    accepted-puts : (x : Edit) → e ≡ x → Acceptable form st e cs → Puttable form (list_of e) w (length indices) (length journal - handle.offset) cs
    unfolding Puttable Paintable record_length
    accepted-puts (Pixels tool) q a = let room = rw q at a.room in let paints = rw q at (redoable-paints e (redo a)) in rw q (λ _. omega (arith, room), paints)
    accepted-puts (PaletteSet i old new x) q a = rw q tt
    accepted-puts (PaletteAdd c) q a = rw q tt
    accepted-puts (PaletteLock i old new) q a = rw q tt
    accepted-puts (PaletteRemove i c x) q a = let room = rw q at a.room in rw q (omega (arith, room))

    -- what writing the list asks, in the part of the journal from the offset on
    pub carry-puts : Puttable form (list_of e) w (length indices) (length journal - handle.offset) cs
    carry-puts = by (empty_pixels (list_of e) (length cs)) refl
      where
        by : (t : Bool) → empty_pixels (list_of e) (length cs) ≡ t → Puttable form (list_of e) w (length indices) (length journal - handle.offset) cs
        by true t = still-puts form (list_of e) _ _ _ cs t (none-there (list_of e) (length cs) t)
        by false t = accepted-puts e refl (fine t)

    -- what painting it asks
    pub carry-paints : Paintable (list_of e) w (length indices) cs
    carry-paints = by (empty_pixels (list_of e) (length cs)) refl
      where
        by : (t : Bool) → empty_pixels (list_of e) (length cs) ≡ t → Paintable (list_of e) w (length indices) cs
        by true t = still-paints (list_of e) _ _ cs t (none-there (list_of e) (length cs) t)
        by false t = redoable-paints e (redo (fine t))

    -- and what is asked of a journal in which the list stands
    pub carry-finishes : (after : List ℕ) → length after ≡ length journal → empty_pixels (list_of e) n ≡ false → Finishes form k palette lab locks after handle e n
    carry-finishes after q t =
        let a = fine (rw counted t) in
        let l = stands.fits.limits in
        record {
          storage = redoable-finishes e (redo a);
          entry-bytes = entry-in s e cs l (not-refused a) (length palette) l.palette-length;
          entry-numbers = entry-in s e cs l (not-refused a) (length lab) l.lab-length;
          entry-mark = mark-in s cs l (length locks) stands.marks e (not-refused a);
          marks = marks-redo s cs l (length locks) stands.marks e (not-refused a);
          framed = rw (stored-fill s locks e) (framed stands.fits a);
          short = omega (arith, a.short, counted);
          room = rw (q, ← counted) a.room;
          permitted = rw q stands.permitted;
          before = omega (arith, (sound-facts (length journal) handle stands.is-sound).before);
        }

    pub carry-inside : handle.offset ≤ length journal
    carry-inside = let f = sound-facts (length journal) handle stands.is-sound in omega (arith, f.ends, f.fits)

  -- ---- what is left
  module _ (curve : Curve) (limited : Bool) (permitted : List ℕ) where
    abbrev g : Given
    g = given_of limited permitted e list

    module _ (l : List ℤ) (j : List ℕ) (p : l ≡ painted_list (list_of e) w cs indices)
        (q : j ≡ take handle.offset journal ++ within form w (list_of e) (filled_list (list_of e) w indices cs) (drop handle.offset journal)) where
      abbrev left : State Document
      left = state_of (document_of w h k palette lab l locks) j handle

      finished-pushed : handle.offset + record_length form e n ≤ length journal → finished form (lab_by curve) left e n ≡ pushed (editing_by form curve) st g
      unfolding finished pushed written over filled_edit filled_changes redone
      finished-pushed room =
          let o : ℕ = handle.offset in
          let filled : List Change = filled_list (list_of e) w indices cs in
          let sheet : restDone (lab_by curve) (sheet_of w h k palette lab l) e ≡ redone (lab_by curve) s e cs = ap (λ (x : List ℤ). restDone (lab_by curve) (sheet_of w h k palette lab x) e) p in
          let same : filled_edit (sheet_of w h k palette lab l) locks e ≡ filled_edit s locks e = sym (stored-fill (sheet_of w h k palette lab l) locks e) ∙ stored-fill s locks e in
          let stood : j ≡ take o journal ++ within form w (list_of (filled_edit s locks e)) filled (drop o journal) = q ∙ rw (list-filled s locks e) in
          let bytes : take o j ++ around form (filled_edit (sheet_of w h k palette lab l) locks e) n (drop o j) ≡ written journal o (record_of form w (filled_edit s locks e) filled) =
          rw same (whole-record form w (filled_edit s locks e) filled n o journal j (length-filled (list_of e) w indices cs ∙ counted) (rw (filled-length form s locks e n) room) stood ∙ rw drop-drop) in
          let moved : after_push (record_length form e n) handle ≡ after_push (record_length form e (length cs)) handle = rw counted in
          λ i. record { sheet = record { sheet = sheet i; locks = locks_done k locks e }; journal = bytes i; handle = moved i }

      -- with number 0: still, or done
      pub carried : (empty_pixels (list_of e) (length cs) ≡ false → Acceptable form st e cs) → pushed_or 0 (empty_pixels (list_of e) n) left (finished form (lab_by curve) left e n) ≡ pushed_or 0 (is_still g) st (pushed (editing_by form curve) st g)
      unfolding pushed_or refused_or
      carried fine = by (empty_pixels (list_of e) (length cs)) refl
        where
          by : (t : Bool) → empty_pixels (list_of e) (length cs) ≡ t → pushed_or 0 (empty_pixels (list_of e) n) left (finished form (lab_by curve) left e n) ≡ pushed_or 0 (is_still g) st (pushed (editing_by form curve) st g)
          by true t =
              let none : length cs ≡ 0 = none-there (list_of e) (length cs) t in
              let still-l : l ≡ indices = p ∙ none-painted (list_of e) w cs indices none in
              let still-j : j ≡ journal = q ∙ rw (none_within form (list_of e) w indices cs (drop handle.offset journal) none) (take-append-drop handle.offset journal) in
              rw (rw counted at t, t, still-l, still-j)
          by false t = rw (rw counted at t, t) (ap done (finished-pushed (rw (← counted) (fine t).room)))
