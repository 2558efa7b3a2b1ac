-- An accepted push's record can be written and read: its numbers fit their bytes. Assumes nothing.
use mathlib.Core.Path.{◌≡◌, refl}
use mathlib.Core.Bool.{Bool, true, false, not}
use mathlib.Core.List.{List, [], ◌∷◌, map}
use Prim.Native.Nat.{ℕ, zero, suc, ◌^◌, ◌≤◌, ◌<◌}
use native.Mathlib.Omega.{arith}
use borrow.Author.Tests.{ltb-false}
use lib.Dec.{T}
use lib.Ieee.{Float, nan, binary64, fits}
use lib.Ieee.Fits.{nan-fits}
use lib.ListN.{length, get_or, length-map}
use Rattle.base.specs.Limits.{max_changes}
use Rattle.base.specs.declared.Form.{Form}
use Rattle.base.specs.declared.Form.TheVariants.{Coordinates, Places}
use Rattle.base.specs.Lists.{some}
use Rattle.base.proofs.Nowhere.{first-not, rest-not}
use Rattle.base.specs.Triples.{lab_at}
use Rattle.sheet.specs.Sheet.{Sheet}
use Rattle.sheet.specs.Checks.{WellFormed}
use Rattle.base.specs.declared.Edit.{Edit}
use Rattle.base.specs.declared.Edit.TheVariants.{Pixels, PaletteSet, PaletteAdd, PaletteRemove, PaletteLock}
use Rattle.edit.specs.Change.{Change, place, outside, filled_in}
use Rattle.edit.proofs.Passed.{Passed}
use Rattle.edit.specs.declared.ListKind.{ListKind}
use Rattle.edit.specs.declared.ListKind.TheVariants.{NoList, PixelList, RemapList}
use Rattle.edit.specs.List.{list_of, empty_pixels, filled_list}
use Rattle.edit.specs.Apply.{filled_edit, filled_changes}
use Rattle.edit_pixels.proofs.Fitting.{pixel-fits}
use Rattle.journal_write.specs.Fit.{FitChanges, FitPlaces, FitLab, FitEdit, Fit}
use Rattle.journal_write.proofs.Placed.{fit-places}
use Rattle.journal_record.specs.Record.{record_length, record_of, body_of}
use Rattle.journal_record.proofs.Strides.{stride_most}
use Rattle.history_model.specs.Editing.{too_long}

-- ---- the list of an edit that has one: set and add do not look at theirs
abbrev pub own_list : ListKind → List Change → List Change
own_list NoList cs = []
own_list PixelList cs = cs
own_list (RemapList i) cs = cs

-- ---- a sheet's numbers fit
abbrev pub wide : Float → Bool
wide v = not (fits binary64 v)

held_fits : (v : Float) → wide v ≡ false → T (fits binary64 v)
held_fits v e = go (fits binary64 v) e
  where
    go : (b : Bool) → not b ≡ false → T b
    go true e = tt
    go false e = absurd (let z : ◌≡◌ {A = ℕ} 0 1 = cc in omega arith)

double-fits : (l : List Float) (n : ℕ) → some wide l ≡ false → T (fits binary64 (get_or l n nan))
double-fits [] n e = nan-fits binary64
double-fits (v ∷ l) zero e = held_fits v (first-not wide v l e)
double-fits (v ∷ l) (suc n) e = double-fits l n (rest-not wide v l e)

entry-fits : (s : Sheet) → some wide s.lab ≡ false → (i : ℕ) → FitLab (lab_at s.lab i)
unfolding lab_at
entry-fits s t i = record { l-fits = double-fits s.lab _ t; a-fits = double-fits s.lab _ t; b-fits = double-fits s.lab _ t }

no-places : (form : Form) (w : ℕ) → FitPlaces form w []
unfolding FitPlaces
no-places Coordinates w = tt
no-places Places w = tt

module _ (s : Sheet) (locks : List Bool) (f : WellFormed s) (t : some wide s.lab ≡ false) where
  -- ---- so do the olds that are filled in
  olds-fit : (cs : List Change) → FitChanges cs → FitChanges (map (filled_in s.w s.indices) cs)
  unfolding FitChanges filled_in
  olds-fit [] h = h
  olds-fit (c ∷ cs) h =
      (record { x_fits = h.0.x_fits; y-fits = h.0.y-fits; old-fits = pixel-fits s.k s.indices (place s.w c) f.limits.k-small f.in-range; new-fits = h.0.new-fits }, olds-fit cs h.1)

  edit-fits : (e : Edit) (cs : List Change) → empty_pixels (list_of e) (length cs) ≡ false → FitEdit (filled_edit s locks e) (filled_changes s e (own_list (list_of e) cs))
  unfolding FitEdit filled_edit filled_changes filled_list empty_pixels
  edit-fits (Pixels tool) [] h = absurd (let z : ◌≡◌ {A = ℕ} 0 1 = cc in omega arith)
  edit-fits (Pixels tool) (c ∷ cs) h = omega arith
  edit-fits (PaletteSet i old new lab) cs h = (entry-fits s t i, refl)
  edit-fits (PaletteAdd c) cs h = refl
  edit-fits (PaletteLock i old new) cs h = refl
  edit-fits (PaletteRemove i c lab) cs h = entry-fits s t i

  changes-fit : (e : Edit) (cs : List Change) → FitChanges cs → FitChanges (filled_changes s e (own_list (list_of e) cs))
  unfolding FitChanges filled_changes filled_list
  changes-fit (Pixels tool) cs h = olds-fit cs h
  changes-fit (PaletteSet i old new lab) cs h = tt
  changes-fit (PaletteAdd c) cs h = tt
  changes-fit (PaletteLock i old new) cs h = tt
  changes-fit (PaletteRemove i c lab) cs h = h

  -- ---- and its places, which lie on the sheet
  places-fit : (form : Form) (cs : List Change) → some (outside s.w s.h) cs ≡ false → FitPlaces form s.w cs
  places-fit form cs on = fit-places form s.w s.h f.limits.w-small f.limits.h-small cs on

  olds-places : (form : Form) (cs : List Change) → FitPlaces form s.w cs → FitPlaces form s.w (map (filled_in s.w s.indices) cs)
  unfolding FitPlaces filled_in place
  olds-places Coordinates cs h = tt
  olds-places Places [] h = tt
  olds-places Places (c ∷ cs) h = (h.0, olds-places Places cs h.1)

  changes-places : (form : Form) (e : Edit) (cs : List Change) → Passed s e cs → FitPlaces form s.w (filled_changes s e (own_list (list_of e) cs))
  unfolding filled_changes filled_list
  changes-places form (Pixels tool) cs p = olds-places form cs (places-fit form cs p.inside)
  changes-places form (PaletteSet i old new lab) cs p = no-places form s.w
  changes-places form (PaletteAdd c) cs p = no-places form s.w
  changes-places form (PaletteLock i old new) cs p = no-places form s.w
  changes-places form (PaletteRemove i c lab) cs p = places-fit form cs p.remap.inside

  -- ---- the length that 14 is tested with
  pub own-length : (form : Form) (e : Edit) (cs : List Change) → record_length form (filled_edit s locks e) (length (filled_changes s e (own_list (list_of e) cs))) ≡ record_length form e (length cs)
  unfolding record_length filled_edit filled_changes filled_list
  own-length form (Pixels tool) cs = rw length-map
  own-length form (PaletteSet i old new lab) cs = refl
  own-length form (PaletteAdd c) cs = refl
  own-length form (PaletteLock i old new) cs = refl
  own-length form (PaletteRemove i c lab) cs = refl

  short : (form : Form) (e : Edit) (n : ℕ) → n ≤ max_changes → record_length form e n < 2 ^ 32
  unfolding record_length
  short form (Pixels tool) n h = omega (arith, stride_most form n)
  short form (PaletteSet i old new lab) n h = omega arith
  short form (PaletteAdd c) n h = omega arith
  short form (PaletteLock i old new) n h = omega arith
  short form (PaletteRemove i c lab) n h = omega (arith, stride_most form n)

  pub recordable : (form : Form) (e : Edit) (cs : List Change) → Passed s e cs → empty_pixels (list_of e) (length cs) ≡ false → too_long cs ≡ false → FitChanges cs → Fit form s.w (filled_edit s locks e) (filled_changes s e (own_list (list_of e) cs))
  unfolding too_long
  recordable form e cs p some short-list fit =
      record {
        edit = edit-fits e cs some;
        changes = changes-fit e cs fit;
        places = changes-places form e cs p;
        whole = rw (own-length form e cs) (short form e (length cs) (ltb-false max_changes (length cs) short-list));
      }

-- ---- the record does not tell a list that the edit has not
pub own-record : (form : Form) (w : ℕ) (s : Sheet) (locks : List Bool) (e : Edit) (cs : List Change) → record_of form w (filled_edit s locks e) (filled_changes s e cs) ≡ record_of form w (filled_edit s locks e) (filled_changes s e (own_list (list_of e) cs))
unfolding record_of body_of record_length filled_edit filled_changes filled_list
own-record form w s locks (Pixels tool) cs = refl
own-record form w s locks (PaletteSet i old new lab) cs = refl
own-record form w s locks (PaletteAdd c) cs = refl
own-record form w s locks (PaletteRemove i c lab) cs = refl
own-record form w s locks (PaletteLock i old new) cs = refl
