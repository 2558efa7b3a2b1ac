-- The list of changes that an edit goes by, and what is filled in and painted of it. What goes by the kind of list goes by this alone, so that an edit without
-- a list is told apart once. Definitions only. Assumes nothing.
use Rattle.std.specs.Prelude.{ℕ, Bool, false, List, map, eqb, ℤ}
use Rattle.base.specs.declared.Edit.{Edit}
use Rattle.base.specs.declared.Edit.TheVariants.{Pixels, PaletteSet, PaletteAdd, PaletteRemove, PaletteLock}
use Rattle.edit.specs.declared.ListKind.{ListKind}
use Rattle.edit.specs.declared.ListKind.TheVariants.{NoList, PixelList, RemapList}
use Rattle.edit.specs.Change.{Change, painted, new_of, filled_in}

abbrev pub list_of : Edit → ListKind
list_of (Pixels tool) = PixelList
list_of (PaletteSet i old new lab) = NoList
list_of (PaletteAdd c) = NoList
list_of (PaletteRemove i c lab) = RemapList i
list_of (PaletteLock i old new) = NoList

-- "an empty pixel list"; "a removal with no remap is not empty"
unfoldable pub empty_pixels : ListKind → ℕ → Bool
empty_pixels NoList n = false
empty_pixels PixelList n = eqb n 0
empty_pixels (RemapList i) n = false

-- "fills old values in the record"; a removal's olds are the caller's, the index by 12
unfoldable pub filled_list : ListKind → ℕ → List ℤ → List Change → List Change
filled_list NoList w l cs = cs
filled_list PixelList w l cs = map (filled_in w l) cs
filled_list (RemapList i) w l cs = cs

-- "paint each new at its place, in list order"
unfoldable pub painted_list : ListKind → ℕ → List Change → List ℤ → List ℤ
painted_list NoList w cs l = l
painted_list PixelList w cs l = painted new_of w cs l
painted_list (RemapList i) w cs l = painted new_of w cs l
