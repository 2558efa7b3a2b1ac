-- What a record can hold: an edit and its changes whose numbers fit the bytes that they get. Definitions only. Assumes nothing.
use Rattle.std.specs.Prelude.{ℕ, ◌^◌, ◌<◌, ◌≤◌, ◌≡◌, List, [], ◌∷◌, not, T, length}
use Rattle.std.specs.Float.{binary64}
use Rattle.std.specs.Float.Ieee.{fits, is_nan}
use Rattle.std.specs.Int.{w16}
use Rattle.std.proofs.Common.{SFits}
use Rattle.base.specs.declared.Form.{Form}
use Rattle.base.specs.declared.Form.TheVariants.{Coordinates, Places}
use Rattle.base.specs.declared.Lab.{Lab}
use Rattle.base.specs.declared.Edit.{Edit}
use Rattle.base.specs.declared.Edit.TheVariants.{Pixels, PaletteSet, PaletteAdd, PaletteRemove, PaletteLock}
use Rattle.edit.specs.Change.{Change, place}
use Rattle.journal_record.specs.Record.{record_length}

-- "x, y unsigned 16-bit, old, new signed 16-bit"
pub record FitChange (c : Change) : Type 0 where
  pub x_fits : c.x < 2 ^ 16
  pub y-fits : c.y < 2 ^ 16
  pub old-fits : SFits w16 c.old
  pub new-fits : SFits w16 c.new

unfoldable pub FitChanges : List Change → Type 0
FitChanges [] = Unit {0}
FitChanges (c ∷ cs) = FitChange c × FitChanges cs

-- doubles of 64 bits
pub record FitLab (x : Lab) : Type 0 where
  pub l-fits : T (fits binary64 x.l)
  pub a-fits : T (fits binary64 x.a)
  pub b-fits : T (fits binary64 x.b)

-- pixels have a change; set, add and lock have none
unfoldable pub FitEdit : Edit → List Change → Type 0
FitEdit (Pixels tool) cs = 1 ≤ length cs
FitEdit (PaletteSet i old new lab) cs = FitLab lab × (cs ≡ [])
FitEdit (PaletteAdd c) cs = cs ≡ []
FitEdit (PaletteRemove i c lab) cs = FitLab lab
FitEdit (PaletteLock i old new) cs = cs ≡ []

-- on a sheet of width w a place of three bytes tells a change
unfoldable pub FitPlaces : Form → ℕ → List Change → Type 0
FitPlaces Coordinates w cs = Unit {0}
FitPlaces Places w [] = Unit {0}
FitPlaces Places w (c ∷ cs) = ((c.x < w) × (place w c < 2 ^ 24)) × FitPlaces Places w cs

pub record Fit (f : Form) (w : ℕ) (e : Edit) (cs : List Change) : Type 0 where
  pub edit : FitEdit e cs
  pub changes : FitChanges cs
  pub places : FitPlaces f w cs
  pub whole : record_length f e (length cs) < 2 ^ 32

-- ---- what the writers ask besides

-- doubles that are numbers: the bits of any other are not told
pub record Numbers (x : Lab) : Type 0 where
  pub l-number : T (not (is_nan x.l))
  pub a-number : T (not (is_nan x.a))
  pub b-number : T (not (is_nan x.b))
