-- What `redo` and `revert` of op.rs make of a sheet, and the picture that the ledger appends. Definitions only. Assumes nothing.
use Rattle.std.specs.Prelude.{ℕ, suc, ◌-◌, ◌*◌, Bool, not, ◌&&◌, List, ◌++◌, map, ltb, leb, ℤ, Float}
use Rattle.base.specs.declared.Rgb.{Rgb}
use Rattle.base.specs.declared.Lab.{Lab}
use Rattle.base.specs.Lists.{some}
use Rattle.sheet.specs.Sheet.{Sheet, Picture, sheet_of}
use Rattle.base.specs.Triples.{rgb_at, lab_at}
use Rattle.base.specs.declared.Edit.{Edit}
use Rattle.base.specs.declared.Edit.TheVariants.{Pixels, PaletteSet, PaletteAdd, PaletteRemove, PaletteLock}
use Rattle.edit.specs.Change.{Change, outside, painted, new_of, old_of}
use Rattle.edit.specs.List.{list_of, filled_list, painted_list}
use Rattle.edit.specs.Locks.{lock_at}
use Rattle.edit.specs.Storage.{bytes_of, numbers_of, stored, closed, reinserted, cut, lowered, raised}

-- the sheet with other indices; with another palette count, palette and LAB
abbrev pub with_indices : Sheet → List ℤ → Sheet
with_indices s l = sheet_of s.w s.h s.k s.palette s.lab l

abbrev pub with_entries : Sheet → ℕ → List ℕ → List Float → Sheet
with_entries s k palette lab = sheet_of s.w s.h k palette lab s.indices

-- `apply`: "fills old values in the record (the caller's list is only read)"; a removal's olds are the caller's, the index by 12
unfoldable pub filled_edit : Sheet → List Bool → Edit → Edit
filled_edit s locks (Pixels tool) = Pixels tool
filled_edit s locks (PaletteSet i old new lab) = PaletteSet i (rgb_at s.palette i) new (lab_at s.lab i)
filled_edit s locks (PaletteAdd c) = PaletteAdd c
filled_edit s locks (PaletteRemove i c lab) = PaletteRemove i (rgb_at s.palette i) (lab_at s.lab i)
filled_edit s locks (PaletteLock i old new) = PaletteLock i (lock_at locks i) new

unfoldable pub filled_changes : Sheet → Edit → List Change → List Change
filled_changes s e cs = filled_list (list_of e) s.w s.indices cs

module _ (curve : Rgb → Lab) where
  -- what an edit does beside its list: set and add store an entry; a removal, once the remap is painted, "lowers every index above the entry by one, closes
  -- the palette gap"
  unfoldable pub restDone : Sheet → Edit → Sheet
  restDone s (Pixels tool) = s
  restDone s (PaletteSet i old new lab) = with_entries s s.k (stored (3 * i) (bytes_of new) s.palette) (stored (3 * i) (numbers_of (curve new)) s.lab)
  restDone s (PaletteAdd c) =
      with_entries s (suc s.k) (stored (3 * s.k) (bytes_of c) s.palette) (stored (3 * s.k) (numbers_of (curve c)) s.lab)
  restDone s (PaletteRemove i c lab) =
      with_entries (with_indices s (map (lowered i) s.indices)) (s.k - 1)
      (closed (3 * i) (3 * s.k) s.palette) (closed (3 * i) (3 * s.k) s.lab)
  restDone s (PaletteLock i old new) = s

  -- `redo`: the list painted, and the rest done
  unfoldable pub redone : Sheet → Edit → List Change → Sheet
  redone s e cs = restDone (with_indices s (painted_list (list_of e) s.w cs s.indices)) e

  -- the ledger: "pixels paint each new at its place, in list order; set gives the entry the colour and its LAB; add appends both; remove paints likewise,
  -- lowers every index above the entry by one, takes the entry out"
  unfoldable pub nextPicture : Picture → Edit → List Change → Picture
  nextPicture p (Pixels tool) cs =
      record { w = p.w; h = p.h; k = p.k; indices = painted new_of p.w cs p.indices; colours = p.colours; labs = p.labs }
  nextPicture p (PaletteSet i old new lab) cs =
      record {
        w = p.w;
        h = p.h;
        k = p.k;
        indices = p.indices;
        colours = stored (3 * i) (bytes_of new) p.colours;
        labs = stored (3 * i) (numbers_of (curve new)) p.labs;
      }
  nextPicture p (PaletteAdd c) cs =
      record { w = p.w; h = p.h; k = suc p.k; indices = p.indices; colours = p.colours ++ bytes_of c; labs = p.labs ++ numbers_of (curve c) }
  nextPicture p (PaletteRemove i c lab) cs =
      record {
        w = p.w;
        h = p.h;
        k = p.k - 1;
        indices = map (lowered i) (painted new_of p.w cs p.indices);
        colours = cut (3 * i) p.colours;
        labs = cut (3 * i) p.labs;
      }
  nextPicture p (PaletteLock i old new) cs = p

-- `revert` raises indices ≥ the entry, paints olds, reinserts colour and stored LAB bits
unfoldable pub reverted : Sheet → Edit → List Change → Sheet
reverted s (Pixels tool) cs = with_indices s (painted old_of s.w cs s.indices)
reverted s (PaletteSet i old new lab) cs = with_entries s s.k (stored (3 * i) (bytes_of old) s.palette) (stored (3 * i) (numbers_of lab) s.lab)
reverted s (PaletteAdd c) cs = with_entries s (s.k - 1) s.palette s.lab
reverted s (PaletteRemove i c lab) cs =
    with_entries (with_indices s (painted old_of s.w cs (map (raised i) s.indices))) (suc s.k)
    (reinserted (3 * i) (3 * s.k) (bytes_of c) s.palette)
    (reinserted (3 * i) (3 * s.k) (numbers_of lab) s.lab)
reverted s (PaletteLock i old new) cs = s

-- `can_revert` of document.rs
unfoldable pub can_revert : Sheet → Edit → List Change → Bool
can_revert s (Pixels tool) cs = not (some (outside s.w s.h) cs)
can_revert s (PaletteSet i old new lab) cs = ltb i s.k
can_revert s (PaletteAdd c) cs = ltb 0 s.k
can_revert s (PaletteRemove i c lab) cs = leb i s.k && not (some (outside s.w s.h) cs)
can_revert s (PaletteLock i old new) cs = ltb i s.k
