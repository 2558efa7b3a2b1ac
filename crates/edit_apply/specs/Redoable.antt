-- What filling an edit in and doing it ask of their callers. Definitions only. Assumes nothing.
use Rattle.std.specs.Prelude.{◌≡◌, Bool, List, ℕ, ◌+◌, ◌*◌, ◌<◌, ◌≤◌, ℤ, Float}
use Rattle.base.specs.Checks.{first_of}
use Rattle.sheet.specs.Sheet.{Sheet, sheet_of}
use Rattle.sheet.specs.Checks.{Limits}
use Rattle.base.specs.declared.Edit.{Edit}
use Rattle.base.specs.declared.Edit.TheVariants.{Pixels, PaletteSet, PaletteAdd, PaletteRemove, PaletteLock}
use Rattle.edit.specs.Change.{Change}
use Rattle.edit.specs.Checks.{Permitted, own_checks}

-- the entry that an edit names, where it names one, lies in storage of n numbers
unfoldable pub EntryIn : ℕ → Edit → Type 0
EntryIn n (Pixels tool) = Unit {0}
EntryIn n (PaletteSet i old new lab) = 3 * i + 3 ≤ n
EntryIn n (PaletteAdd c) = Unit {0}
EntryIn n (PaletteRemove i c lab) = 3 * i + 3 ≤ n
EntryIn n (PaletteLock i old new) = Unit {0}

-- what is left to do beside the list asks: the entry lies in palette storage of n bytes and LAB storage of m numbers
unfoldable pub Finishable : ℕ → ℕ → ℕ → Edit → Type 0
Finishable k n m (Pixels tool) = Unit {0}
Finishable k n m (PaletteSet i old new lab) = (3 * i + 3 ≤ n) × (3 * i + 3 ≤ m)
Finishable k n m (PaletteAdd c) = (3 * k + 3 ≤ n) × (3 * k + 3 ≤ m)
Finishable k n m (PaletteRemove i c lab) = (i < k) × (k ≤ 255) × (3 * k ≤ n) × (3 * k ≤ m)
Finishable k n m (PaletteLock i old new) = Unit {0}

-- an edit that its own checks do not refuse: push's or replay's, with any marks and any colours permitted
pub record Unrefused (s : Sheet) (e : Edit) (cs : List Change) : Type 0 where
  pub replay : Bool
  pub locks : List Bool
  pub permitted : Permitted
  pub passes : first_of (own_checks replay s locks permitted e cs) ≡ 0

-- such an edit of a sheet that keeps to the limits; its height is not handed on, since no step looks at it
pub record Redoable (w k : ℕ) (palette : List ℕ) (lab : List Float) (indices : List ℤ) (e : Edit) (cs : List Change) : Type 0 where
  pub h : ℕ
  pub limits : Limits (sheet_of w h k palette lab indices)
  pub unrefused : Unrefused (sheet_of w h k palette lab indices) e cs
