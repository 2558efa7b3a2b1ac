-- An accepted edit is undone from its record, in any well-formed sheet that shows what it made: `can_revert` passes, the picture that it met is
-- back, and the sheet is well-formed again. Assumes nothing.
use mathlib.Core.Path.{◌≡◌, refl, ap, ◌∙◌}
use mathlib.Core.Bool.{Bool, true, false}
use mathlib.Core.List.{List, map}
use Prim.Native.Nat.{suc, ◌-◌, ◌≤◌, ◌<◌}
use native.Mathlib.Omega.{arith}
use borrow.Author.Tests.{lt-ltb, le-leb}
use Rattle.base.specs.declared.Rgb.{Rgb}
use Rattle.base.specs.declared.Lab.{Lab}
use Rattle.sheet.specs.Sheet.{Sheet, view}
use Rattle.sheet.specs.Checks.{WellFormed}
use Rattle.base.specs.declared.Edit.{Edit}
use Rattle.base.specs.declared.Edit.TheVariants.{Pixels, PaletteSet, PaletteAdd, PaletteRemove, PaletteLock}
use Rattle.edit.specs.Change.{Change, painted, old_of, filled_in}
use Rattle.edit.specs.Checks.{Permitted}
use Rattle.edit.specs.Storage.{bytes_of, numbers_of, raised}
use Rattle.edit.specs.List.{filled_list}
use Rattle.edit.specs.Apply.{restDone, redone, nextPicture, reverted, can_revert, filled_edit, filled_changes}
use Rattle.edit.specs.Accepted.{Accepted}
use Rattle.edit.proofs.Painting.{pixels-back, filled-outside}
use Rattle.edit.proofs.Entries as entries
use Rattle.edit.proofs.Entries.{palette-store, lab-store, set-length, reinsert-length, colour-entry, lab-entry}
use Rattle.edit.proofs.Passed.{Passed, passed}
use Rattle.edit.proofs.Removing.{remove-back}
use Rattle.edit.proofs.Fits.{Long, shown-fits}
use Rattle.edit.proofs.Redone.{SameSize, redone-view}

-- ---- no undo changes the size of a sheet
pub reverted-size : (s : Sheet) (e : Edit) (cs : List Change) → SameSize s (reverted s e cs)
unfolding reverted
reverted-size s (Pixels tool) cs = record { w = refl; h = refl }
reverted-size s (PaletteSet i old new lab) cs = record { w = refl; h = refl }
reverted-size s (PaletteAdd c) cs = record { w = refl; h = refl }
reverted-size s (PaletteRemove i c lab) cs = record { w = refl; h = refl }
reverted-size s (PaletteLock i old new) cs = record { w = refl; h = refl }

-- what undo makes of a sheet t, by the record of an edit of s
pub record Undone (s t : Sheet) (locks : List Bool) (e : Edit) (cs : List Change) : Type 0 where
  pub can : can_revert t (filled_edit s locks e) (filled_changes s e cs) ≡ true
  pub shows : view (reverted t (filled_edit s locks e) (filled_changes s e cs)) ≡ view s
  pub fits : WellFormed (reverted t (filled_edit s locks e) (filled_changes s e cs))

module _ (curve : Rgb → Lab) (s t : Sheet) (locks : List Bool) (f : WellFormed s) (g : WellFormed t) where
  can-back : (e : Edit) (cs : List Change) → Passed s e cs → view t ≡ nextPicture curve (view s) e cs
      → can_revert t (filled_edit s locks e) (filled_changes s e cs) ≡ true
  unfolding view nextPicture can_revert filled_edit filled_changes filled_list
  can-back (Pixels tool) cs a v = rw (filled-outside s.w s.indices t.w t.h cs, ap (λ p. p.w) v, ap (λ p. p.h) v, a.inside)
  can-back (PaletteSet i old new lab) cs a v = lt-ltb i t.k (rw (ap (λ p. p.k) v) a)
  can-back (PaletteAdd c) cs a v = lt-ltb 0 t.k (omega (arith, ap (λ p. p.k) v))
  can-back (PaletteLock i old new) cs a v = lt-ltb i t.k (rw (ap (λ p. p.k) v) a)
  can-back (PaletteRemove i c lab) cs a v =
      rw (le-leb i t.k (omega (arith, ap (λ p. p.k) v, a.entry, a.two)), ap (λ p. p.w) v, ap (λ p. p.h) v, a.remap.inside)

  shows-back : (e : Edit) (cs : List Change) → Passed s e cs → view t ≡ nextPicture curve (view s) e cs
      → view (reverted t (filled_edit s locks e) (filled_changes s e cs)) ≡ view s
  unfolding view nextPicture reverted filled_edit filled_changes filled_list
  shows-back (Pixels tool) cs a v =
      let l : painted old_of t.w (map (filled_in s.w s.indices) cs) t.indices ≡ s.indices =
      rw (ap (λ p. p.w) v, ap (λ p. p.indices) v) (pixels-back s.w cs s.indices) in
      λ j. record { w = (v j).w; h = (v j).h; k = (v j).k; indices = l j; colours = (v j).colours; labs = (v j).labs }
  shows-back (PaletteSet i old new lab) cs a v =
      let k : t.k ≡ s.k = ap (λ p. p.k) v in
      let colours = entries.set_back (palette-store g) (palette-store f) i (bytes_of new) refl a (colour-entry (palette-store f) i a) k (ap (λ p. p.colours) v) in
      let labs = entries.set_back (lab-store g) (lab-store f) i (numbers_of (curve new)) refl a (lab-entry (lab-store f) i a) k (ap (λ p. p.labs) v) in
      λ j. record { w = (v j).w; h = (v j).h; k = k j; indices = (v j).indices; colours = colours j; labs = labs j }
  shows-back (PaletteAdd c) cs a v =
      let more : t.k ≡ suc s.k = ap (λ p. p.k) v in
      let k : t.k - 1 ≡ s.k = omega arith in
      let colours = entries.add_back (palette-store g) (palette-store f) (bytes_of c) more (ap (λ p. p.colours) v) in
      let labs = entries.add_back (lab-store g) (lab-store f) (numbers_of (curve c)) more (ap (λ p. p.labs) v) in
      λ j. record { w = (v j).w; h = (v j).h; k = k j; indices = (v j).indices; colours = colours j; labs = labs j }
  shows-back (PaletteLock i old new) cs a v = v
  shows-back (PaletteRemove i c lab) cs a v =
      let fewer : t.k ≡ s.k - 1 = ap (λ p. p.k) v in
      let k : suc t.k ≡ s.k = omega (arith, a.two) in
      let l : painted old_of t.w cs (map (raised i) t.indices) ≡ s.indices = rw (ap (λ p. p.w) v, ap (λ p. p.indices) v) (remove-back s i cs a) in
      let i<k = a.entry in
      let colours = entries.remove-back (palette-store g) (palette-store f) i i<k (colour-entry (palette-store f) i i<k) fewer (ap (λ p. p.colours) v) in
      let labs = entries.remove-back (lab-store g) (lab-store f) i i<k (lab-entry (lab-store f) i i<k) fewer (ap (λ p. p.labs) v) in
      λ j. record { w = (v j).w; h = (v j).h; k = k j; indices = l j; colours = colours j; labs = labs j }

  lengths-back : (e : Edit) (cs : List Change) → Passed s e cs → view t ≡ nextPicture curve (view s) e cs
      → Long (reverted t (filled_edit s locks e) (filled_changes s e cs))
  unfolding view nextPicture reverted filled_edit filled_changes filled_list
  lengths-back (Pixels tool) cs a v = record { palette = g.limits.palette-length; lab = g.limits.lab-length }
  lengths-back (PaletteSet i old new lab) cs a v =
      let b : i < t.k = rw (ap (λ p. p.k) v) a in
      record { palette = set-length (palette-store g) i _ refl b; lab = set-length (lab-store g) i _ refl b }
  lengths-back (PaletteAdd c) cs a v = record { palette = g.limits.palette-length; lab = g.limits.lab-length }
  lengths-back (PaletteLock i old new) cs a v = record { palette = g.limits.palette-length; lab = g.limits.lab-length }
  lengths-back (PaletteRemove i c lab) cs a v =
      let fewer : t.k ≡ s.k - 1 = ap (λ p. p.k) v in
      let b : i ≤ t.k = omega (arith, a.entry) in
      let room : t.k < 255 = omega (arith, a.two, f.limits.k-small) in
      record { palette = reinsert-length (palette-store g) i _ refl b room; lab = reinsert-length (lab-store g) i _ refl b room }

  back : (e : Edit) (cs : List Change) → Passed s e cs → view t ≡ nextPicture curve (view s) e cs → Undone s t locks e cs
  back e cs a v =
      record { can = can-back e cs a v; shows = shows-back e cs a v; fits = shown-fits s _ f (shows-back e cs a v) (lengths-back e cs a v) }

pub reverted-view : (curve : Rgb → Lab) {s t : Sheet} {locks : List Bool} {p : Permitted} {e : Edit} {cs : List Change} → Accepted s locks p e cs → WellFormed t
    → view t ≡ view (redone curve s e cs) → Undone s t locks e cs
reverted-view curve {s} {t} {locks} {p} {e} {cs} a g v = back curve s t locks a.fits g e cs (passed false s locks p e cs a.unrefused) (v ∙ redone-view curve a)
