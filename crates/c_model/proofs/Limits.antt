-- This crate's limits are tighter than the core's, and an edit keeps the size of a sheet. Assumes nothing.
use mathlib.Core.Path.{◌≡◌, refl, sym, ap, ◌∙◌}
use mathlib.Core.Bool.{Bool, true, false, cond}
use mathlib.Core.List.{List, [], map}
use Prim.Native.Nat.{ℕ, ◌/◌, ◌≤◌}
use native.Mathlib.Omega.{arith}
use borrow.Author.Tests.{le-ltb, ltb-false, eqb-true}
use lib.Dec.{ltb, eqb}
use lib.ListN.{length, length-map}
use Rattle.base.specs.Limits.{max_changes}
use Rattle.base.specs.Numbers.{journal_full, flat_misfit}
use Rattle.base.specs.declared.Rgb.{Rgb}
use Rattle.base.specs.declared.Lab.{Lab}
use Rattle.base.specs.declared.Edit.{Edit}
use Rattle.base.specs.declared.Edit.TheVariants.{Pixels, PaletteSet, PaletteAdd, PaletteRemove, PaletteLock}
use Rattle.base.proofs.Back.{never}
use Rattle.sheet.specs.Sheet.{Picture}
use Rattle.edit.specs.Change.{Change, unpacked}
use Rattle.edit.specs.List.{empty_pixels}
use Rattle.edit.specs.Apply.{nextPicture}
use Rattle.color_curve.specs.Curve.{srgb, lab_by}
use Rattle.history_ledger.specs.Within.{Bounded}
use Rattle.history_ledger.proofs.Refusals.{when-other}
use Rattle.history_model.specs.Document.{Shown, next_shown}
use Rattle.history_model.specs.Editing.{Given, too_long, editing}
use Rattle.c_form.specs.Flat.{numbers_in, list_misfits}
use Rattle.c_form.proofs.Fields.{length-read}
use Rattle.c_model.specs.Asked.{Asked, given_by, misfit_of, sides_over, is_longer, limits}

twenty-eight : ¬ (flat_misfit ≡ journal_full)
twenty-eight e = omega arith

pub listed : (bytes : List ℕ) → length (numbers_in bytes) ≡ length bytes / 8
unfolding numbers_in
listed bytes = length-read 8 _ bytes 0 (length bytes / 8)

changed : (bytes : List ℕ) → length (map unpacked (numbers_in bytes)) ≡ length bytes / 8
changed bytes = length-map (numbers_in bytes) unpacked ∙ listed bytes

misfit-not-full : (x : Asked) → ¬ (misfit_of x ≡ journal_full)
unfolding misfit_of
misfit-not-full (Asked.pixels tool bytes) = when-other flat_misfit (list_misfits bytes) twenty-eight
misfit-not-full (Asked.set i c) = λ e. omega arith
misfit-not-full (Asked.add c) = λ e. omega arith
misfit-not-full (Asked.remove i bytes) = when-other flat_misfit (list_misfits bytes) twenty-eight
misfit-not-full (Asked.lock i m) = when-other flat_misfit (ltb 1 m) twenty-eight

short : (bytes : List ℕ) → ltb 4096 (length bytes / 8) ≡ false → too_long (map unpacked (numbers_in bytes)) ≡ false
unfolding too_long
short bytes e = rw (changed bytes) (le-ltb max_changes (length bytes / 8) (omega (arith, ltb-false 4096 (length bytes / 8) e)))

pub longer-than-long : (x : Asked) → is_longer x ≡ false → too_long (given_by x).changes ≡ false
unfolding is_longer given_by too_long
longer-than-long (Asked.pixels tool bytes) e = short bytes e
longer-than-long (Asked.set i c) e = refl
longer-than-long (Asked.add c) e = refl
longer-than-long (Asked.remove i bytes) e = short bytes e
longer-than-long (Asked.lock i m) e = refl

empty-not-longer : (x : Asked) → editing.is_empty (given_by x) ≡ true → is_longer x ≡ false
unfolding is_longer given_by empty_pixels
empty-not-longer (Asked.pixels tool bytes) e =
    le-ltb 4096 (length bytes / 8) (omega (arith, eqb-true (length (map unpacked (numbers_in bytes))) 0 e, changed bytes))
empty-not-longer (Asked.set i c) e = refl
empty-not-longer (Asked.add c) e = refl
empty-not-longer (Asked.remove i bytes) e = never e
empty-not-longer (Asked.lock i m) e = refl

-- ---- an edit keeps the sides
module _ (curve : Rgb → Lab) where
  pub next-width : (p : Picture) (e : Edit) (cs : List Change) → (nextPicture curve p e cs).w ≡ p.w
  unfolding nextPicture
  next-width p (Pixels tool) cs = refl
  next-width p (PaletteSet i old new lab) cs = refl
  next-width p (PaletteAdd c) cs = refl
  next-width p (PaletteRemove i c lab) cs = refl
  next-width p (PaletteLock i old new) cs = refl

  pub next-height : (p : Picture) (e : Edit) (cs : List Change) → (nextPicture curve p e cs).h ≡ p.h
  unfolding nextPicture
  next-height p (Pixels tool) cs = refl
  next-height p (PaletteSet i old new lab) cs = refl
  next-height p (PaletteAdd c) cs = refl
  next-height p (PaletteRemove i c lab) cs = refl
  next-height p (PaletteLock i old new) cs = refl

pub bounded : Bounded editing limits
bounded =
    record {
      misfit-not-full = misfit-not-full;
      longer-than-long = longer-than-long;
      empty-not-longer = empty-not-longer;
      paint-size = λ p x.
          rw (next-width (lab_by srgb) p.picture (given_by x).edit (given_by x).changes, next-height (lab_by srgb) p.picture (given_by x).edit (given_by x).changes);
    }
