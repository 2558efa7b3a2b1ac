-- The lock marks of a palette's entries: document 02, E5. Definitions only. Assumes nothing.
use Rattle.std.specs.Prelude.{ℕ, Bool, true, false, List, [], ◌∷◌, ◌++◌, get_or}
use Rattle.std.specs.Bool.{beq}
use Rattle.base.specs.declared.Edit.{Edit}
use Rattle.base.specs.declared.Edit.TheVariants.{Pixels, PaletteSet, PaletteAdd, PaletteRemove, PaletteLock}
use Rattle.edit.specs.Storage.{stored_by, closed_by, reinserted_by, cut_by}

-- "Each entry has a lock mark"
abbrev pub lock_at : List Bool → ℕ → Bool
lock_at locks i = get_or locks i false

-- the marks in storage after an edit of k entries: "false .. for an added entry"; "Removal moves the marks with their entries"
unfoldable pub locks_done : ℕ → List Bool → Edit → List Bool
locks_done k locks (Pixels tool) = locks
locks_done k locks (PaletteSet i old new lab) = locks
locks_done k locks (PaletteAdd c) = stored_by 1 k (false ∷ []) locks
locks_done k locks (PaletteRemove i c lab) = closed_by 1 i k locks
locks_done k locks (PaletteLock i old new) = stored_by 1 i (new ∷ []) locks

-- and after its undo: "false .. for one brought back by undo"
unfoldable pub locks_back : ℕ → List Bool → Edit → List Bool
locks_back k locks (Pixels tool) = locks
locks_back k locks (PaletteSet i old new lab) = locks
locks_back k locks (PaletteAdd c) = locks
locks_back k locks (PaletteRemove i c lab) = reinserted_by 1 i k (false ∷ []) locks
locks_back k locks (PaletteLock i old new) = stored_by 1 i (old ∷ []) locks

-- the ledger: "A ledger picture includes the marks .. the picture one makes has the new mark"
unfoldable pub next_locks : List Bool → Edit → List Bool
next_locks locks (Pixels tool) = locks
next_locks locks (PaletteSet i old new lab) = locks
next_locks locks (PaletteAdd c) = locks ++ (false ∷ [])
next_locks locks (PaletteRemove i c lab) = cut_by 1 i locks
next_locks locks (PaletteLock i old new) = stored_by 1 i (new ∷ []) locks

-- "`can_revert` of kind 5 asks for an index below k bearing the new mark"
unfoldable pub bears : List Bool → Edit → Bool
bears locks (Pixels tool) = true
bears locks (PaletteSet i old new lab) = true
bears locks (PaletteAdd c) = true
bears locks (PaletteRemove i c lab) = true
bears locks (PaletteLock i old new) = beq (lock_at locks i) new
