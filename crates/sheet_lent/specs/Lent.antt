-- A sheet that is lent to be written, for an outcome of w by h (document 02, E8 and E11): its size, storage and marks
-- are judged, and nothing that it held. Definitions only. Assumes nothing.
use Rattle.std.specs.Prelude.{◌≡◌, Bool, not, List, [], ◌∷◌, ℕ, ◌*◌, eqb, ℤ, Float, length}
use Rattle.base.specs.Limits.{max_entries, storage}
use Rattle.base.specs.Numbers.{bad_sheet}
use Rattle.base.specs.Checks.{Check, ◌when◌, first_of}

-- the memory that is written, and its size
pub record Buffers : Type 0 where
  pub palette : List ℕ
  pub lab : List Float
  pub indices : List ℤ
  pub locks : List Bool

abbrev pub buffers_of : List ℕ → List Float → List ℤ → List Bool → Buffers
buffers_of palette lab indices locks = record { palette = palette; lab = lab; indices = indices; locks = locks }

pub record Lent : Type 0 where
  pub w : ℕ
  pub h : ℕ
  pub holds : Buffers

abbrev pub lent_of : ℕ → ℕ → List ℕ → List Float → List ℤ → List Bool → Lent
lent_of w h palette lab indices locks = record { w = w; h = h; holds = buffers_of palette lab indices locks }

-- "1 for a lent one of another size": sides, storage and marks of a sheet of w by h; what it held is not looked at
unfoldable pub lent_checks : ℕ → ℕ → Lent → List Check
lent_checks w h x =
    bad_sheet when not (eqb x.w w)
    ∷ bad_sheet when not (eqb x.h h)
    ∷ bad_sheet when not (eqb (length x.holds.palette) storage)
    ∷ bad_sheet when not (eqb (length x.holds.lab) storage)
    ∷ bad_sheet when not (eqb (length x.holds.indices) (w * h))
    ∷ bad_sheet when not (eqb (length x.holds.locks) max_entries)
    ∷ []

-- what a caller knows of a lent sheet that is not refused
pub record LentFits (w h : ℕ) (x : Lent) : Type 0 where
  pub w-same : x.w ≡ w
  pub h-same : x.h ≡ h
  pub palette-length : length x.holds.palette ≡ 765
  pub lab-length : length x.holds.lab ≡ 765
  pub indices-length : length x.holds.indices ≡ w * h
  pub locks-length : length x.holds.locks ≡ 255

pub record LentJudged (w h : ℕ) (x : Lent) (n : ℕ) : Type 0 where
  pub value : n ≡ first_of (lent_checks w h x)
  pub fine : n ≡ 0 → LentFits w h x
