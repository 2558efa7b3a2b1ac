-- What a push through this crate is given, and this crate's limits: document 02, E12. "It has pushes of every kind, ..
-- with the sRGB curve, no colour list and the old journal form. Sides go to 64 and lists to 4,096 changes, eight bytes
-- each as in a record; beyond that 1 and 21." Definitions only. Assumes nothing.
use Rattle.std.specs.Prelude.{ℕ, ◌/◌, Bool, false, cond, ◌||◌, List, [], ltb, eqb, length}
use Rattle.base.specs.Numbers.{flat_misfit}
use Rattle.base.specs.declared.Rgb.{Rgb}
use Rattle.base.specs.declared.Edit.TheVariants.{Pixels, PaletteSet, PaletteAdd, PaletteRemove, PaletteLock}
use Rattle.edit_entries.specs.Unfilled.{no_lab}
use Rattle.history_ledger.specs.Algebra.{Algebra}
use Rattle.history_ledger.specs.Within.{Bounds, within}
use Rattle.history_model.specs.Document.{Shown}
use Rattle.history_model.specs.Editing.{Given, given_of, editing}
use Rattle.c_form.specs.Flat.{numbers_in, list_misfits}

-- the arguments of each push: numbers and bytes
pub data Asked : Type 0 where
  pixels : ℕ → List ℕ → Asked
  set : ℕ → Rgb → Asked
  add : Rgb → Asked
  remove : ℕ → List ℕ → Asked
  lock : ℕ → ℕ → Asked

-- black: push fills in an entry's old colour
abbrev pub unfilled : Rgb
unfilled = record { r = 0; g = 0; b = 0 }

-- the core's push; it fills in old colour, old LAB and old mark
unfoldable pub given_by : Asked → Given
given_by (Asked.pixels tool bytes) = given_of false [] (Pixels tool) (numbers_in bytes)
given_by (Asked.set i c) = given_of false [] (PaletteSet i c c no_lab) []
given_by (Asked.add c) = given_of false [] (PaletteAdd c) []
given_by (Asked.remove i bytes) = given_of false [] (PaletteRemove i unfilled no_lab) (numbers_in bytes)
given_by (Asked.lock i m) = given_of false [] (PaletteLock i false (eqb m 1)) []

-- 28, of the arguments: "a list's length is not a multiple of eight or .. a mark pushed, is neither 0 nor 1, before all
-- others"
unfoldable pub misfit_of : Asked → ℕ
misfit_of (Asked.pixels tool bytes) = cond (list_misfits bytes) flat_misfit 0
misfit_of (Asked.set i c) = 0
misfit_of (Asked.add c) = 0
misfit_of (Asked.remove i bytes) = cond (list_misfits bytes) flat_misfit 0
misfit_of (Asked.lock i m) = cond (ltb 1 m) flat_misfit 0

-- "Sides go to 64"
abbrev pub max_flat_side : ℕ
max_flat_side = 64

unfoldable pub sides_over : ℕ → ℕ → Bool
sides_over w h = ltb max_flat_side w || ltb max_flat_side h

abbrev pub is_large : Shown → Bool
is_large p = sides_over p.picture.w p.picture.h

-- "lists to 4,096 changes"
abbrev pub max_flat_list : ℕ
max_flat_list = 4096

unfoldable pub is_longer : Asked → Bool
is_longer (Asked.pixels tool bytes) = ltb max_flat_list (length bytes / 8)
is_longer (Asked.set i c) = false
is_longer (Asked.add c) = false
is_longer (Asked.remove i bytes) = ltb max_flat_list (length bytes / 8)
is_longer (Asked.lock i m) = false

abbrev pub limits : Bounds editing
limits = record { Args = Asked; given = given_by; misfit = misfit_of; large = is_large; longer = is_longer }

-- the core's sheet, edits and records under this crate's limits: what its calls do, and its ledger
abbrev pub flat_editing : Algebra
flat_editing = within editing limits
