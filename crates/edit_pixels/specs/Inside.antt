-- What the loops over changes ask of their callers, and what they say of the sheet and the scratch. Definitions only. Assumes nothing.
use Rattle.std.specs.Prelude.{◌≡◌, ℕ, ◌<◌, Bool, not, ◌&&◌, List, [], leb, eqb, ℤ, pos, length, get_or}
use Rattle.base.specs.Ints.{eq_z}
use Rattle.sheet.specs.Sheet.{Sheet, sheet_of}
use Rattle.edit.specs.Change.{Change, place}
use Rattle.edit.specs.Checks.{named}

-- a change of a picture of width w that stands past its n pixels
unfoldable pub past : ℕ → ℕ → Change → Bool
past w n c = leb n (place w c)

-- a sheet without its storage: the checks of a change read none
abbrev pub bare : ℕ → ℕ → ℕ → List ℤ → Sheet
bare w h k indices = sheet_of w h k [] [] indices

-- a scratch in which the places that changes name are marked, and no other
unfoldable pub marked : List ℕ → ℕ → Bool
marked marks p = not (eqb (get_or marks p 0) 0)

pub record Marks (w : ℕ) (cs : List Change) (marks : List ℕ) : Type 0 where
  pub says : (p : ℕ) → p < length marks → marked marks p ≡ named w cs p

-- whether the pixel at a place is on the entry and not marked
abbrev pub left_at : ℕ → List ℤ → List ℕ → ℕ → Bool
left_at i indices marks p = eq_z (get_or indices p (pos 0)) (pos i) && eqb (get_or marks p 0) 0
