-- An accepted edit is redone from its record, in any well-formed sheet that shows what it met: with no list of permitted colours it is accepted
-- again, and makes the picture that it made. Assumes nothing.
use mathlib.Core.Path.{◌≡◌, refl, sym, ap, ◌∙◌}
use mathlib.Core.Bool.{Bool, false}
use mathlib.Core.List.{List, [], ◌∷◌, ◌++◌, map, flat_map}
use Prim.Native.Nat.{ℕ}
use native.Mathlib.Omega.{arith}
use lib.Dec.{leb}
use lib.ListN.{take}
use Rattle.base.specs.Limits.{max_entries}
use Rattle.base.specs.Numbers.{no_such_entry, palette_full}
use Rattle.base.specs.Checks.{◌when◌, first_of}
use Rattle.base.proofs.First.{past}
use Rattle.base.specs.declared.Rgb.{Rgb}
use Rattle.base.specs.declared.Lab.{Lab}
use Rattle.sheet.specs.Sheet.{Sheet, view}
use Rattle.sheet.specs.Checks.{WellFormed}
use Rattle.base.specs.declared.Edit.{Edit}
use Rattle.base.specs.declared.Edit.TheVariants.{Pixels, PaletteSet, PaletteAdd, PaletteRemove, PaletteLock}
use Rattle.edit.specs.Change.{Change, outside, filled_in}
use Rattle.edit.specs.Checks.{Permitted, barred, pixel_checks, head_checks, change_checks, left_checks, own_checks}
use Rattle.edit.specs.declared.ListKind.{ListKind}
use Rattle.edit.specs.declared.ListKind.TheVariants.{NoList, PixelList, RemapList}
use Rattle.edit.specs.List.{list_of, filled_list, painted_list}
use Rattle.edit.specs.Apply.{restDone, redone, nextPicture, filled_edit, filled_changes}
use Rattle.edit.specs.Accepted.{NewBytes, Accepted, FiniteCurve}
use Rattle.edit.proofs.Painting.{filled-news}
use Rattle.edit.proofs.Together.{own-passed, own-passes}
use Rattle.edit.proofs.Passed.{unlocked}
use Rattle.edit.proofs.Redone.{redone-view, redone-fits}
use Rattle.edit.proofs.Shown.{accepted-shown}

-- ---- the record of an edit, with its olds filled in from s, on a sheet t
module _ (s t : Sheet) (locks marks : List Bool) where
  filled-pixels : (cs : List Change) → flat_map (pixel_checks false t) (map (filled_in s.w s.indices) cs) ≡ flat_map (pixel_checks false t) cs
  unfolding pixel_checks filled_in outside flat_map
  filled-pixels [] = refl
  filled-pixels (c ∷ cs) = ap (λ r. pixel_checks false t c ++ r) (filled-pixels cs)

  filled-changes : (l : ListKind) (cs : List Change) → flat_map (change_checks false t l) (filled_list l s.w s.indices cs) ≡ flat_map (change_checks false t l) cs
  unfolding change_checks filled_list
  filled-changes NoList cs = refl
  filled-changes PixelList cs = filled-pixels cs
  filled-changes (RemapList i) cs = refl

  filled-left : (l : ListKind) (cs : List Change) → left_checks t l (filled_list l s.w s.indices cs) ≡ left_checks t l cs
  unfolding left_checks filled_list
  filled-left NoList cs = refl
  filled-left PixelList cs = refl
  filled-left (RemapList i) cs = refl

  pub filled-list : (e : Edit) → list_of (filled_edit s locks e) ≡ list_of e
  unfolding filled_edit
  filled-list (Pixels tool) = refl
  filled-list (PaletteSet i old new lab) = refl
  filled-list (PaletteAdd c) = refl
  filled-list (PaletteRemove i c lab) = refl
  filled-list (PaletteLock i old new) = refl

  set_there : (p : Permitted) (i : ℕ) (old new : Rgb) (lab : Lab) → first_of (head_checks false t marks p (PaletteSet i old new lab)) ≡ 0 → leb t.k i ≡ false
  unfolding head_checks
  set_there p i old new lab a = (past (no_such_entry when leb t.k i) _ (omega arith) a).off

  add-there : (p : Permitted) (c : Rgb) → first_of (head_checks false t marks p (PaletteAdd c)) ≡ 0 → leb max_entries t.k ≡ false
  unfolding head_checks
  add-there p c a = (past (palette_full when leb max_entries t.k) _ (omega arith) a).off

  filled-head : (p q : Permitted) (e : Edit) → q.limited ≡ false → first_of (head_checks false t marks p e) ≡ 0 → first_of (head_checks false t marks q (filled_edit s locks e)) ≡ 0
  unfolding first_of head_checks filled_edit barred
  filled-head p q (Pixels tool) n a = a
  filled-head p q (PaletteSet i old new lab) n a = rw (set_there p i old new lab a, unlocked false t marks p (PaletteSet i old new lab) a, n)
  filled-head p q (PaletteAdd c) n a = rw (add-there p c a, n)
  filled-head p q (PaletteRemove i c lab) n a = a
  filled-head p q (PaletteLock i old new) n a = a

  -- it passes what the edit passed, where no list of permitted colours is present
  filled-unrefused : (p q : Permitted) (e : Edit) (cs : List Change) → q.limited ≡ false → first_of (own_checks false t marks p e cs) ≡ 0
      → first_of (own_checks false t marks q (filled_edit s locks e) (filled_changes s e cs)) ≡ 0
  unfolding filled_changes
  filled-unrefused p q e cs n a =
      let passes : first_of (own_checks false t marks p e cs) ≡ 0 = a in
      let parts = own-passed false t marks p e cs passes in
      own-passes false t marks q (filled_edit s locks e) _ (filled-head p q e n parts.head)
      (rw (filled-list e, filled-changes (list_of e) cs) parts.changes) (rw (filled-list e, filled-left (list_of e) cs) parts.left)

  pub filled-bytes : (e : Edit) → NewBytes e → NewBytes (filled_edit s locks e)
  unfolding filled_edit
  filled-bytes (Pixels tool) b = b
  filled-bytes (PaletteSet i old new lab) b = b
  filled-bytes (PaletteAdd c) b = b
  filled-bytes (PaletteRemove i c lab) b = b
  filled-bytes (PaletteLock i old new) b = b

  pub filled-accepted : {p : Permitted} {e : Edit} {cs : List Change} (q : Permitted) → q.limited ≡ false → Accepted t marks p e cs
      → Accepted t marks q (filled_edit s locks e) (filled_changes s e cs)
  filled-accepted {p} {e} {cs} q n a = record { fits = a.fits; unrefused = filled-unrefused p q e cs n a.unrefused; new-bytes = filled-bytes e a.new-bytes }

  -- it makes what the edit makes
  pub filled-redone : (curve : Rgb → Lab) (e : Edit) (cs : List Change) → redone curve t (filled_edit s locks e) (filled_changes s e cs) ≡ redone curve t e cs
  unfolding redone restDone painted_list filled_edit filled_changes filled_list
  filled-redone curve (Pixels tool) cs = rw (filled-news s.w s.indices t.w cs t.indices)
  filled-redone curve (PaletteSet i old new lab) cs = refl
  filled-redone curve (PaletteAdd c) cs = refl
  filled-redone curve (PaletteRemove i c lab) cs = refl
  filled-redone curve (PaletteLock i old new) cs = refl

-- what redo makes of a sheet t with marks, by the record of an edit of s with locks
pub record Again (curve : Rgb → Lab) (s t : Sheet) (locks marks : List Bool) (q : Permitted) (e : Edit) (cs : List Change) : Type 0 where
  pub unrefused : first_of (own_checks false t marks q (filled_edit s locks e) (filled_changes s e cs)) ≡ 0
  pub shows : view (redone curve t (filled_edit s locks e) (filled_changes s e cs)) ≡ view (redone curve s e cs)
  pub fits : WellFormed (redone curve t (filled_edit s locks e) (filled_changes s e cs))

pub redo-again : (curve : Rgb → Lab) → FiniteCurve curve → {s t : Sheet} {locks marks : List Bool} {p : Permitted} {e : Edit} {cs : List Change} (q : Permitted) → q.limited ≡ false
    → Accepted s locks p e cs → WellFormed t → view t ≡ view s → take t.k marks ≡ take s.k locks → Again curve s t locks marks q e cs
redo-again curve finite {s} {t} {locks} {marks} {p} {e} {cs} q n a g v l =
    let b : Accepted t marks p e cs = accepted-shown a g v l in
    let c : Accepted t marks q (filled_edit s locks e) (filled_changes s e cs) = filled-accepted s t locks marks q n b in
    record {
      unrefused = c.unrefused;
      shows = ap view (filled-redone s t locks marks curve e cs) ∙ redone-view curve b ∙ ap (λ x. nextPicture curve x e cs) v ∙ sym (redone-view curve a);
      fits = redone-fits curve finite c;
    }
