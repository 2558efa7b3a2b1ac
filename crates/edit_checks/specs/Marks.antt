-- A removal's marks: what the steps before its list, over it and after it ask and say of them. Other edits have none. Definitions only. Assumes nothing.
use Rattle.std.specs.Prelude.{◌≡◌, List, ℕ, ◌*◌, ◌≤◌, take, replicate}
use Rattle.edit.specs.declared.ListKind.{ListKind}
use Rattle.edit.specs.declared.ListKind.TheVariants.{NoList, PixelList, RemapList}
use Rattle.edit.specs.Change.{Change}
use Rattle.edit_pixels.specs.Inside.{Marks}

-- of n pixels in a scratch of m bytes: its entry is a byte, and each pixel has one
unfoldable pub Markable : ListKind → ℕ → ℕ → Type 0
Markable NoList n m = Unit {0}
Markable PixelList n m = Unit {0}
Markable (RemapList i) n m = (i ≤ 255) × (n ≤ m)

-- none is set, and those of a list's places are
unfoldable pub ClearFor : ListKind → ℕ → List ℕ → Type 0
ClearFor NoList n marks = Unit {0}
ClearFor PixelList n marks = Unit {0}
ClearFor (RemapList i) n marks = take n marks ≡ replicate n 0

unfoldable pub MarksFor : ListKind → ℕ → ℕ → List Change → List ℕ → Type 0
MarksFor NoList w n cs marks = Unit {0}
MarksFor PixelList w n cs marks = Unit {0}
MarksFor (RemapList i) w n cs marks = Marks w cs (take n marks)

-- what the checks of a list ask: an index a pixel, and a removal's marks
pub record Checkable (l : ListKind) (w h indices marks : ℕ) : Type 0 where
  pub pixels : indices ≡ w * h
  pub markable : Markable l (w * h) marks
