-- An accepted edit makes a well-formed sheet, which shows the picture that the ledger appends. Assumes nothing.
use mathlib.Core.Path.{◌≡◌, refl, ◌∙◌}
use mathlib.Core.Bool.{Bool, false}
use mathlib.Core.List.{List}
use Prim.Native.Nat.{suc, ◌-◌, ◌*◌}
use native.Mathlib.Omega.{arith}
use lib.ListN.{take, length-map}
use Rattle.base.specs.declared.Rgb.{Rgb}
use Rattle.base.specs.declared.Lab.{Lab}
use Rattle.color_doubles.specs.Finite.{unfit}
use Rattle.sheet.specs.Sheet.{Sheet, view, stray}
use Rattle.sheet.specs.Checks.{WellFormed}
use Rattle.base.specs.declared.Edit.{Edit}
use Rattle.base.specs.declared.Edit.TheVariants.{Pixels, PaletteSet, PaletteAdd, PaletteRemove, PaletteLock}
use Rattle.edit.specs.Change.{Change, painted, new_of}
use Rattle.edit.specs.Checks.{Permitted}
use Rattle.edit.specs.Storage.{bytes_of, numbers_of, lowered}
use Rattle.edit.specs.List.{painted_list}
use Rattle.edit.specs.Apply.{restDone, redone, nextPicture}
use Rattle.edit.specs.Accepted.{NewBytes, Accepted, FiniteCurve}
use Rattle.base.proofs.Nowhere.{nowhere-append, nowhere-weaker}
use Rattle.sheet.proofs.FiniteLabs.{finite-numbers}
use Rattle.edit.proofs.Painting.{painted-length, painted-nowhere}
use Rattle.edit.proofs.Storage.{stored-nowhere, cut-nowhere}
use Rattle.edit.proofs.Entries.{palette-store, lab-store, set-length, set-shows, add-length, add-shows, remove-length, remove-shows}
use Rattle.edit.proofs.Passed.{Passed, passed}
use Rattle.edit.proofs.Removing.{remove-in-range}
use Rattle.edit.proofs.Fits.{same-size-fits, more-in-range}

pub record SameSize (s t : Sheet) : Type 0 where
  pub w : t.w ≡ s.w
  pub h : t.h ≡ s.h

module _ (curve : Rgb → Lab) where
  -- no edit changes the size
  pub redone-size : (s : Sheet) (e : Edit) (cs : List Change) → SameSize s (redone curve s e cs)
  unfolding redone restDone painted_list
  redone-size s (Pixels tool) cs = record { w = refl; h = refl }
  redone-size s (PaletteSet i old new lab) cs = record { w = refl; h = refl }
  redone-size s (PaletteAdd c) cs = record { w = refl; h = refl }
  redone-size s (PaletteRemove i c lab) cs = record { w = refl; h = refl }
  redone-size s (PaletteLock i old new) cs = record { w = refl; h = refl }

  shows : (s : Sheet) (e : Edit) (cs : List Change) → WellFormed s → Passed s e cs → view (redone curve s e cs) ≡ nextPicture curve (view s) e cs
  unfolding view redone restDone painted_list nextPicture
  shows s (Pixels tool) cs f a = refl
  shows s (PaletteSet i old new lab) cs f a =
      rw (set-shows (palette-store f) i (bytes_of new) refl a, set-shows (lab-store f) i (numbers_of (curve new)) refl a)
  shows s (PaletteAdd c) cs f a = rw (add-shows (palette-store f) (bytes_of c) refl a, add-shows (lab-store f) (numbers_of (curve c)) refl a)
  shows s (PaletteRemove i c lab) cs f a = rw (remove-shows (palette-store f) i a.entry, remove-shows (lab-store f) i a.entry)
  shows s (PaletteLock i old new) cs f a = refl

  pub redone-view : {s : Sheet} {locks : List Bool} {p : Permitted} {e : Edit} {cs : List Change} → Accepted s locks p e cs
      → view (redone curve s e cs) ≡ nextPicture curve (view s) e cs
  redone-view {s} {locks} {p} {e} {cs} a = shows s e cs a.fits (passed false s locks p e cs a.unrefused)

  module _ (finite : FiniteCurve curve) where
    fits : (s : Sheet) (e : Edit) (cs : List Change) → WellFormed s → Passed s e cs → NewBytes e → WellFormed (redone curve s e cs)
    unfolding redone restDone painted_list
    fits s (Pixels tool) cs f a b =
        let g = f.limits in
        same-size-fits g s.k s.palette s.lab _ g.k-small g.palette-length g.lab-length
        (painted-length new_of s.w cs s.indices)
        (painted-nowhere new_of s.w (stray s.k) cs s.indices f.in-range a.in-range)
        f.fit
    fits s (PaletteSet i old new lab) cs f a b =
        let v = numbers_of (curve new) in
        same-size-fits f.limits s.k _ _ s.indices f.limits.k-small (set-length (palette-store f) i (bytes_of new) refl a) (set-length (lab-store f) i v refl a) refl
        f.in-range
        (rw (set-shows (lab-store f) i v refl a) (stored-nowhere 3 unfit (3 * i) v (take (3 * s.k) s.lab) (finite-numbers (finite new b)) f.fit))
    fits s (PaletteAdd c) cs f a b =
        let v = numbers_of (curve c) in
        same-size-fits f.limits (suc s.k) _ _ s.indices a (add-length (palette-store f) (bytes_of c) refl a) (add-length (lab-store f) v refl a) refl
        (nowhere-weaker (stray s.k) (stray (suc s.k)) (more-in-range s.k) s.indices f.in-range)
        (rw (add-shows (lab-store f) v refl a) (nowhere-append unfit (take (3 * s.k) s.lab) v f.fit (finite-numbers (finite c b))))
    fits s (PaletteRemove i c lab) cs f a b =
        same-size-fits f.limits (s.k - 1) _ _ _ (omega (arith, f.limits.k-small))
        (remove-length (palette-store f) i a.entry) (remove-length (lab-store f) i a.entry)
        (length-map (painted new_of s.w cs s.indices) (lowered i) ∙ painted-length new_of s.w cs s.indices)
        (remove-in-range s i cs a f.in-range)
        (rw (remove-shows (lab-store f) i a.entry) (cut-nowhere 3 unfit (3 * i) (take (3 * s.k) s.lab) f.fit))
    fits s (PaletteLock i old new) cs f a b = f

    pub redone-fits : {s : Sheet} {locks : List Bool} {p : Permitted} {e : Edit} {cs : List Change} → Accepted s locks p e cs → WellFormed (redone curve s e cs)
    redone-fits {s} {locks} {p} {e} {cs} a = fits s e cs a.fits (passed false s locks p e cs a.unrefused) a.new-bytes
