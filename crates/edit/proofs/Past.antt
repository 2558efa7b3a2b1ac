-- Storage past the entries: "A call leaves storage past the larger of k before and after; a removal or undone add leaves the last old entry's
-- storage." So what stands past the entries that an edit, or its undo, leaves in use is what stood there. Assumes nothing.
use mathlib.Core.Path.{◌≡◌, refl}
use mathlib.Core.Bool.{true}
use mathlib.Core.List.{List}
use Prim.Native.Nat.{◌*◌, ◌≤◌}
use native.Mathlib.Omega.{arith}
use borrow.Author.Tests.{ltb-true, leb-true}
use lib.Dec.{ltb, leb}
use lib.ListN.{drop}
use Rattle.base.specs.Limits.{max_entries}
use Rattle.base.proofs.Bools.{and_left}
use Rattle.base.specs.declared.Rgb.{Rgb}
use Rattle.base.specs.declared.Lab.{Lab}
use Rattle.sheet.specs.Sheet.{Sheet}
use Rattle.sheet.specs.Checks.{WellFormed}
use Rattle.base.specs.declared.Edit.{Edit}
use Rattle.base.specs.declared.Edit.TheVariants.{Pixels, PaletteSet, PaletteAdd, PaletteRemove, PaletteLock}
use Rattle.edit.specs.Change.{Change}
use Rattle.edit.specs.Storage.{bytes_of, numbers_of}
use Rattle.edit.specs.List.{painted_list}
use Rattle.edit.specs.Apply.{restDone, redone, reverted, can_revert}
use Rattle.edit.proofs.Entries.{palette-store, lab-store, set_past, add-past, remove-past, reinsert-past}
use Rattle.edit.proofs.Passed.{Passed}

-- sheet t has what s had, past t's entries
pub record Past (s t : Sheet) : Type 0 where
  pub palette : drop (3 * t.k) t.palette ≡ drop (3 * t.k) s.palette
  pub lab : drop (3 * t.k) t.lab ≡ drop (3 * t.k) s.lab

pub redone-past : (curve : Rgb → Lab) (s : Sheet) (e : Edit) (cs : List Change) → WellFormed s → Passed s e cs → Past s (redone curve s e cs)
unfolding redone restDone painted_list
redone-past curve s (Pixels tool) cs f a = record { palette = refl; lab = refl }
redone-past curve s (PaletteSet i old new lab) cs f a =
    record { palette = set_past (palette-store f) i (bytes_of new) refl a; lab = set_past (lab-store f) i (numbers_of (curve new)) refl a }
redone-past curve s (PaletteAdd c) cs f a =
    record { palette = add-past (palette-store f) (bytes_of c) refl a; lab = add-past (lab-store f) (numbers_of (curve c)) refl a }
redone-past curve s (PaletteRemove i c lab) cs f a =
    record { palette = remove-past (palette-store f) i a.entry; lab = remove-past (lab-store f) i a.entry }
redone-past curve s (PaletteLock i old new) cs f a = record { palette = refl; lab = refl }

pub reverted-past : (s : Sheet) (e : Edit) (cs : List Change) → WellFormed s → can_revert s e cs ≡ true → (reverted s e cs).k ≤ max_entries
    → Past s (reverted s e cs)
unfolding reverted can_revert
reverted-past s (Pixels tool) cs f a b = record { palette = refl; lab = refl }
reverted-past s (PaletteSet i old new lab) cs f a b =
    let h = ltb-true i s.k a in
    record { palette = set_past (palette-store f) i (bytes_of old) refl h; lab = set_past (lab-store f) i (numbers_of lab) refl h }
reverted-past s (PaletteAdd c) cs f a b = record { palette = refl; lab = refl }
reverted-past s (PaletteRemove i c lab) cs f a b =
    let h = leb-true i s.k (and_left (leb i s.k) _ a) in
    record {
      palette = reinsert-past (palette-store f) i (bytes_of c) refl h (omega (arith, b));
      lab = reinsert-past (lab-store f) i (numbers_of lab) refl h (omega (arith, b));
    }
reverted-past s (PaletteLock i old new) cs f a b = record { palette = refl; lab = refl }
