-- What moving marks, n of them, asks of an edit. Definitions only. Assumes nothing.
use Rattle.std.specs.Prelude.{ℕ, ◌+◌, ◌≤◌, ◌<◌}
use Rattle.base.specs.declared.Edit.{Edit}
use Rattle.base.specs.declared.Edit.TheVariants.{Pixels, PaletteSet, PaletteAdd, PaletteRemove, PaletteLock}

-- the entry of a lock has a mark
unfoldable pub MarkIn : ℕ → Edit → Type 0
MarkIn n (Pixels tool) = Unit {0}
MarkIn n (PaletteSet i old new lab) = Unit {0}
MarkIn n (PaletteAdd c) = Unit {0}
MarkIn n (PaletteRemove i c lab) = Unit {0}
MarkIn n (PaletteLock i old new) = i < n

-- an edit of k entries is done
unfoldable pub Redoable : ℕ → ℕ → Edit → Type 0
Redoable k n (Pixels tool) = Unit {0}
Redoable k n (PaletteSet i old new lab) = Unit {0}
Redoable k n (PaletteAdd c) = k < n
Redoable k n (PaletteRemove i c lab) = (i < k) × (k ≤ n)
Redoable k n (PaletteLock i old new) = i < n

-- and undone
unfoldable pub Undoable : ℕ → ℕ → Edit → Type 0
Undoable k n (Pixels tool) = Unit {0}
Undoable k n (PaletteSet i old new lab) = Unit {0}
Undoable k n (PaletteAdd c) = Unit {0}
Undoable k n (PaletteRemove i c lab) = (i ≤ k) × (k + 1 ≤ n)
Undoable k n (PaletteLock i old new) = i < n
