-- A record whose changes stand in the journal already: what is written around them. Definitions only. Assumes nothing.
use Rattle.std.specs.Prelude.{ℕ, ◌+◌, ◌*◌, ◌<◌, List, [], ◌∷◌, ◌++◌}
use Rattle.base.specs.Lists.{over}
use Rattle.base.specs.declared.Form.{Form}
use Rattle.base.specs.declared.Edit.{Edit}
use Rattle.base.specs.declared.Edit.TheVariants.{Pixels, PaletteSet, PaletteAdd, PaletteRemove, PaletteLock}
use Rattle.edit.specs.Storage.{bytes_of}
use Rattle.journal_record.specs.Bytes.{le, splice}
use Rattle.journal_record.specs.Record.{stride, pixels_kind, remove_kind, lab_bytes, record_of}
use Rattle.journal_write.specs.Fit.{Numbers}

-- the rest of a record with n changes: "kind first, whole length (4 bytes) last". One without changes is whole, and looks at no width
unfoldable pub around : Form → Edit → ℕ → List ℕ → List ℕ
around f (Pixels tool) n part = splice (over (pixels_kind f ∷ tool ∷ le 4 n) part) (6 + stride f * n) (le 4 (10 + stride f * n))
around f (PaletteSet i old new lab) n part = over (record_of f 0 (PaletteSet i old new lab) []) part
around f (PaletteAdd c) n part = over (record_of f 0 (PaletteAdd c) []) part
around f (PaletteRemove i c lab) n part =
    splice (over (remove_kind f ∷ i ∷ bytes_of c ++ (lab_bytes lab ++ le 4 n)) part) (33 + stride f * n) (le 4 (37 + stride f * n))
around f (PaletteLock i old new) n part = over (record_of f 0 (PaletteLock i old new) []) part

-- what its writer asks of an edit: an index is a byte, LAB is numbers
unfoldable pub Framed : Edit → Type 0
Framed (Pixels tool) = Unit {0}
Framed (PaletteSet i old new lab) = (i < 256) × Numbers lab
Framed (PaletteAdd c) = Unit {0}
Framed (PaletteRemove i c lab) = (i < 256) × Numbers lab
Framed (PaletteLock i old new) = i < 256
