-- Where a record has its list of changes, and what writing it asks. Definitions only. Assumes nothing.
use Rattle.std.specs.Prelude.{ℕ, ◌+◌, ◌*◌, ◌<◌, ◌≤◌, ◌≡◌, false, length}
use mathlib.Core.List.{List, flat_map}
use Rattle.base.specs.Lists.{some}
use Rattle.base.specs.declared.Form.{Form}
use Rattle.edit.specs.declared.ListKind.{ListKind}
use Rattle.edit.specs.declared.ListKind.TheVariants.{NoList, PixelList, RemapList}
use Rattle.edit.specs.Change.{Change}
use Rattle.edit_pixels.specs.Inside.{past}
use Rattle.journal_record.specs.Bytes.{splice}
use Rattle.journal_record.specs.Record.{stride, change_bytes}

-- the changes in the record that starts a part: pixels' behind kind, tool and count, a remap's behind kind, index, colour, LAB and count
unfoldable pub within : Form → ℕ → ListKind → List Change → List ℕ → List ℕ
within f w NoList cs part = part
within f w PixelList cs part = splice part 6 (flat_map (change_bytes f w) cs)
within f w (RemapList i) cs part = splice part 33 (flat_map (change_bytes f w) cs)

-- what is asked: the bytes lie in a part of m, and changes whose olds are filled in among n indices; an empty list of pixels is still and has no record
unfoldable pub Puttable : Form → ListKind → ℕ → ℕ → ℕ → List Change → Type 0
Puttable f NoList w n m cs = Unit {0}
Puttable f PixelList w n m cs = (0 < length cs → 6 + stride f * length cs ≤ m) × (some (past w n) cs ≡ false)
Puttable f (RemapList i) w n m cs = 33 + stride f * length cs ≤ m
