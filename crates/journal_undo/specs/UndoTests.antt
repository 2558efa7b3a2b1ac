-- What undo tests on a well-formed sheet of a record other than an add's, kind by kind: `undoable` of that kind. Definitions only. Assumes nothing.
use Rattle.std.specs.Prelude.{◌≡◌, Bool, true, not, ◌&&◌, List, ℕ, suc, ltb, leb, ℤ}
use Rattle.std.specs.Bool.{beq}
use Rattle.base.specs.Limits.{max_entries}
use Rattle.base.specs.declared.Lab.{Lab}
use Rattle.base.specs.Lists.{some}
use Rattle.color_doubles.specs.Finite.{unfit_triple}
use Rattle.sheet.specs.Sheet.{Sheet, stray}
use Rattle.base.specs.declared.Edit.{Edit}
use Rattle.edit.specs.Change.{Change, outside, painted, old_of}
use Rattle.edit.specs.Locks.{lock_at}
use Rattle.journal_read.specs.Sound.{undoable}

-- none is off the sheet, and the picture with the olds has no stray index
unfoldable pub pixels_back : ℕ → ℕ → ℕ → List ℤ → List Change → Bool
pixels_back w h k l cs = not (some (outside w h) cs) && not (some (stray k) (painted old_of w cs l))

-- the entry is there, and its old LAB is finite
unfoldable pub set_back : ℕ → ℕ → Lab → Bool
set_back k i x = ltb i k && not (unfit_triple x)

-- there is room for the entry, none is off the sheet, its LAB is finite, and with one entry more the olds leave no stray index
unfoldable pub remove_back : ℕ → ℕ → ℕ → List ℤ → ℕ → Lab → List Change → Bool
remove_back w h k l i x cs =
    leb i k
    && (not (some (outside w h) cs)
    && (ltb k max_entries
    && (not (unfit_triple x)
    && not (some (stray (suc k)) (painted old_of w cs l)))))

-- the entry is there, and bears the new mark
unfoldable pub lock_back : ℕ → List Bool → ℕ → Bool → Bool
lock_back k locks i new = ltb i k && beq (lock_at locks i) new

-- a record that undo takes, with some marks
pub record Revertible (s : Sheet) (e : Edit) (cs : List Change) : Type 0 where
  pub locks : List Bool
  pub takes : undoable s locks e cs ≡ true
