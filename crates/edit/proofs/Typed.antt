-- What no number of a sheet's storage has, none has after an edit or its undo, where the edit's new colour has it not: so bytes stay bytes, and
-- doubles doubles. Assumes nothing.
use mathlib.Core.Path.{◌≡◌}
use mathlib.Core.Bool.{Bool, false}
use mathlib.Core.List.{List}
use Prim.Native.Nat.{ℕ, ◌*◌, ◌<◌}
use lib.Ieee.{Float}
use Rattle.base.specs.declared.Rgb.{Rgb}
use Rattle.base.specs.declared.Lab.{Lab}
use Rattle.base.specs.Lists.{some}
use Rattle.base.specs.Triples.{lab_at, rgb_at}
use Rattle.sheet.specs.Sheet.{Sheet}
use Rattle.sheet.specs.Checks.{WellFormed}
use Rattle.base.specs.declared.Edit.{Edit}
use Rattle.base.specs.declared.Edit.TheVariants.{Pixels, PaletteSet, PaletteAdd, PaletteRemove, PaletteLock}
use Rattle.edit.specs.Change.{Change}
use Rattle.edit.specs.Checks.{Permitted}
use Rattle.edit.specs.Storage.{bytes_of, numbers_of}
use Rattle.edit.specs.List.{filled_list, painted_list}
use Rattle.edit.specs.Apply.{restDone, redone, reverted, filled_edit, filled_changes}
use Rattle.edit.specs.Accepted.{Accepted}
use Rattle.edit.proofs.Storage.{stored-nowhere, closed-nowhere, opened-nowhere, entry-nowhere}
use Rattle.edit.proofs.Entries.{palette-store, lab-store, colour-entry, lab-entry}
use Rattle.edit.proofs.Passed.{Passed, passed}

module _ (big : ℕ → Bool) (wild : Float → Bool) where
  -- neither in the storage of a sheet
  pub record Typed (s : Sheet) : Type 0 where
    pub palette : some big s.palette ≡ false
    pub lab : some wild s.lab ≡ false

  -- nor in a colour and its LAB
  pub record Tame (c : Rgb) (x : Lab) : Type 0 where
    pub bytes : some big (bytes_of c) ≡ false
    pub numbers : some wild (numbers_of x) ≡ false

  module _ (curve : Rgb → Lab) where
    -- nor in what an edit brings
    abbrev pub NewTame : Edit → Type 0
    NewTame (Pixels tool) = Unit {0}
    NewTame (PaletteSet i old new lab) = Tame new (curve new)
    NewTame (PaletteAdd c) = Tame c (curve c)
    NewTame (PaletteRemove i c lab) = Unit {0}
    NewTame (PaletteLock i old new) = Unit {0}

    pub redone-typed : (s : Sheet) (e : Edit) (cs : List Change) → Typed s → NewTame e → Typed (redone curve s e cs)
    unfolding redone restDone painted_list
    redone-typed s (Pixels tool) cs t n = record { palette = t.palette; lab = t.lab }
    redone-typed s (PaletteSet i old new lab) cs t n =
        record {
          palette = stored-nowhere 3 big (3 * i) _ s.palette n.bytes t.palette;
          lab = stored-nowhere 3 wild (3 * i) _ s.lab n.numbers t.lab;
        }
    redone-typed s (PaletteAdd c) cs t n =
        record {
          palette = stored-nowhere 3 big (3 * s.k) _ s.palette n.bytes t.palette;
          lab = stored-nowhere 3 wild (3 * s.k) _ s.lab n.numbers t.lab;
        }
    redone-typed s (PaletteLock i old new) cs t n = record { palette = t.palette; lab = t.lab }
    redone-typed s (PaletteRemove i c lab) cs t n =
        record {
          palette = closed-nowhere 3 big (3 * i) (3 * s.k) s.palette t.palette;
          lab = closed-nowhere 3 wild (3 * i) (3 * s.k) s.lab t.lab;
        }

  -- the old entry is one of the sheet's
  old-tame : {s : Sheet} {i : ℕ} → WellFormed s → Typed s → i < s.k → Tame (rgb_at s.palette i) (lab_at s.lab i)
  old-tame {s} {i} f t b =
      record {
        bytes = entry-nowhere 3 big (3 * i) s.palette (colour-entry (palette-store f) i b) t.palette;
        numbers = entry-nowhere 3 wild (3 * i) s.lab (lab-entry (lab-store f) i b) t.lab;
      }

  back_typed : (s t : Sheet) (locks : List Bool) (e : Edit) (cs : List Change) → WellFormed s → Passed s e cs → Typed s → Typed t
      → Typed (reverted t (filled_edit s locks e) (filled_changes s e cs))
  unfolding reverted filled_edit filled_changes filled_list
  back_typed s t locks (Pixels tool) cs f a u v = record { palette = v.palette; lab = v.lab }
  back_typed s t locks (PaletteSet i old new lab) cs f a u v =
      let o = old-tame f u a in
      record {
        palette = stored-nowhere 3 big (3 * i) _ t.palette o.bytes v.palette;
        lab = stored-nowhere 3 wild (3 * i) _ t.lab o.numbers v.lab;
      }
  back_typed s t locks (PaletteAdd c) cs f a u v = record { palette = v.palette; lab = v.lab }
  back_typed s t locks (PaletteLock i old new) cs f a u v = record { palette = v.palette; lab = v.lab }
  back_typed s t locks (PaletteRemove i c lab) cs f a u v =
      let o = old-tame f u a.entry in
      record {
        palette = opened-nowhere 3 big (3 * i) (3 * t.k) _ t.palette o.bytes v.palette;
        lab = opened-nowhere 3 wild (3 * i) (3 * t.k) _ t.lab o.numbers v.lab;
      }

  pub reverted-typed : {s t : Sheet} {locks : List Bool} {p : Permitted} {e : Edit} {cs : List Change} → Accepted s locks p e cs → Typed s → Typed t
      → Typed (reverted t (filled_edit s locks e) (filled_changes s e cs))
  reverted-typed {s} {t} {locks} {p} {e} {cs} a = back_typed s t locks e cs a.fits (passed false s locks p e cs a.unrefused)
