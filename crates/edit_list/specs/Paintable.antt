-- What painting a list asks. Definitions only. Assumes nothing.
use Rattle.std.specs.Prelude.{◌≡◌, false, List, ℕ}
use Rattle.base.specs.Lists.{some}
use Rattle.edit.specs.declared.ListKind.{ListKind}
use Rattle.edit.specs.declared.ListKind.TheVariants.{NoList, PixelList, RemapList}
use Rattle.edit.specs.Change.{Change}
use Rattle.edit_pixels.specs.Inside.{past}

-- a change that is painted stands among n indices
unfoldable pub Paintable : ListKind → ℕ → ℕ → List Change → Type 0
Paintable NoList w n cs = Unit {0}
Paintable PixelList w n cs = some (past w n) cs ≡ false
Paintable (RemapList i) w n cs = some (past w n) cs ≡ false
