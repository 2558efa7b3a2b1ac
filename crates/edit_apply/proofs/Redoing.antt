-- What the steps of an edit ask, where no check refuses it: by kinds. Assumes nothing.
use mathlib.Core.Path.{◌≡◌}
use mathlib.Core.List.{List}
use Prim.Native.Nat.{ℕ}
use native.Mathlib.Omega.{arith}
use lib.IntN.{ℤ}
use lib.Ieee.{Float}
use lib.ListN.{length}
use Rattle.sheet.specs.Sheet.{Sheet}
use Rattle.sheet.specs.Checks.{Limits}
use Rattle.base.specs.declared.Edit.{Edit}
use Rattle.base.specs.declared.Edit.TheVariants.{Pixels, PaletteSet, PaletteAdd, PaletteRemove, PaletteLock}
use Rattle.edit.specs.Change.{Change}
use Rattle.edit.specs.List.{list_of}
use Rattle.edit.proofs.Passed.{Passed, passed}
use Rattle.edit_list.specs.Paintable.{Paintable}
use Rattle.edit_locks.specs.Movable as movable
use Rattle.edit_locks.specs.Movable.{MarkIn}
use Rattle.edit_apply.specs.Redoable.{EntryIn, Finishable, Unrefused, Redoable}
use Rattle.edit_pixels.proofs.Inside.{none-past}

facts : (s : Sheet) (e : Edit) (cs : List Change) → Unrefused s e cs → Passed s e cs
facts s e cs u = passed u.replay s u.locks u.permitted e cs u.passes

-- ---- doing
module _ {w k : ℕ} {palette : List ℕ} {lab : List Float} {indices : List ℤ} {cs : List Change} where
  -- the list is painted
  pub redoable-paints : (e : Edit) → Redoable w k palette lab indices e cs → Paintable (list_of e) w (length indices) cs
  unfolding Paintable
  redoable-paints (Pixels tool) r = none-past w r.h (length indices) r.limits.indices-length cs (facts _ _ _ r.unrefused).inside
  redoable-paints (PaletteSet i old new x) r = tt
  redoable-paints (PaletteAdd c) r = tt
  redoable-paints (PaletteLock i old new) r = tt
  redoable-paints (PaletteRemove i c x) r = none-past w r.h (length indices) r.limits.indices-length cs (facts _ _ _ r.unrefused).remap.inside

  -- and the rest is done
  pub redoable-finishes : (e : Edit) → Redoable w k palette lab indices e cs → Finishable k (length palette) (length lab) e
  unfolding Finishable
  redoable-finishes (Pixels tool) r = tt
  redoable-finishes (PaletteSet i old new x) r = let b = facts _ _ _ r.unrefused in let l = r.limits in (omega arith, omega arith)
  redoable-finishes (PaletteAdd c) r = let b = facts _ _ _ r.unrefused in let l = r.limits in (omega arith, omega arith)
  redoable-finishes (PaletteLock i old new) r = tt
  redoable-finishes (PaletteRemove i c x) r =
      let f = facts _ _ _ r.unrefused in
      let l = r.limits in
      (f.entry, l.k-small, omega arith, omega arith)

-- ---- filling in
pub entry-in : (s : Sheet) (e : Edit) (cs : List Change) → Limits s → Unrefused s e cs → (n : ℕ) → n ≡ 765 → EntryIn n e
unfolding EntryIn
entry-in s (Pixels tool) cs l u n q = tt
entry-in s (PaletteSet i old new x) cs l u n q = let b = facts s _ cs u in omega arith
entry-in s (PaletteAdd c) cs l u n q = tt
entry-in s (PaletteLock i old new) cs l u n q = tt
entry-in s (PaletteRemove i c x) cs l u n q = let b = (facts s _ cs u).entry in omega arith

-- ---- the marks, 255 of them: read, and moved with their entries
module _ (s : Sheet) (cs : List Change) (l : Limits s) (n : ℕ) (q : n ≡ 255) where
  pub mark-in : (e : Edit) → Unrefused s e cs → MarkIn n e
  unfolding MarkIn
  mark-in (Pixels tool) u = tt
  mark-in (PaletteSet i old new x) u = tt
  mark-in (PaletteAdd c) u = tt
  mark-in (PaletteRemove i c x) u = tt
  mark-in (PaletteLock i old new) u = omega (arith, facts s _ cs u, l.k-small, q)

  pub marks-redo : (e : Edit) → Unrefused s e cs → movable.Redoable s.k n e
  unfolding movable.Redoable
  marks-redo (Pixels tool) u = tt
  marks-redo (PaletteSet i old new x) u = tt
  marks-redo (PaletteAdd c) u = omega (arith, facts s _ cs u, q)
  marks-redo (PaletteRemove i c x) u = ((facts s _ cs u).entry, omega (arith, l.k-small, q))
  marks-redo (PaletteLock i old new) u = omega (arith, facts s _ cs u, l.k-small, q)
