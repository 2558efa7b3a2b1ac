-- An edit that no check refuses, on a sheet that none of 1 to 3 refuses: what the laws of an edit ask. Definitions only. Assumes nothing.
use Rattle.std.specs.Prelude.{◌≡◌, Bool, false, List, ◌<◌}
use Rattle.base.specs.Checks.{first_of}
use Rattle.base.specs.declared.Rgb.{Rgb}
use Rattle.base.specs.declared.Lab.{Lab}
use Rattle.color_lab.specs.Convert.{FiniteLab}
use Rattle.sheet.specs.Sheet.{Sheet}
use Rattle.sheet.specs.Checks.{WellFormed}
use Rattle.base.specs.declared.Edit.{Edit}
use Rattle.base.specs.declared.Edit.TheVariants.{Pixels, PaletteSet, PaletteAdd, PaletteRemove, PaletteLock}
use Rattle.edit.specs.Change.{Change}
use Rattle.edit.specs.Checks.{Permitted, own_checks}

-- a colour of bytes, as its type has it
pub record Bytes (c : Rgb) : Type 0 where
  pub r-byte : c.r < 256
  pub g-byte : c.g < 256
  pub b-byte : c.b < 256

-- the colour that an edit brings, where it brings one, is of bytes
abbrev pub NewBytes : Edit → Type 0
NewBytes (Pixels tool) = Unit {0}
NewBytes (PaletteSet i old new lab) = Bytes new
NewBytes (PaletteAdd c) = Bytes c
NewBytes (PaletteRemove i c lab) = Unit {0}
NewBytes (PaletteLock i old new) = Unit {0}

-- push's checks, in which no old is looked at
pub record Accepted (s : Sheet) (locks : List Bool) (p : Permitted) (e : Edit) (cs : List Change) : Type 0 where
  pub fits : WellFormed s
  pub unrefused : first_of (own_checks false s locks p e cs) ≡ 0
  pub new-bytes : NewBytes e

-- a conversion whose numbers pass 3
abbrev pub FiniteCurve : (Rgb → Lab) → Type 0
FiniteCurve curve = (c : Rgb) → Bytes c → FiniteLab (curve c)
