-- The call `flood_fill` of tools.rs: its checks, in document 01's order, and its answer. Definitions only. Assumes nothing.
use Rattle.std.specs.Prelude.{◌≡◌, true, false, not, cond, ◌&&◌, List, [], ◌∷◌, ◌++◌, map, ℕ, ◌+◌, ◌*◌, ◌≤◌, ltb, ℤ, pos, length, get_or}
use Rattle.base.specs.Numbers.{off_the_sheet, too_far, no_space}
use Rattle.base.specs.Checks.{Check, ◌when◌, first_of, checked}
use Rattle.base.specs.Answer.{Filled, leaving}
use Rattle.base.specs.Answer.Told.{result, alone}
use Rattle.base.specs.Lists.{over}
use Rattle.base.specs.Ints.{eq_z, far, from_zero}
use Rattle.selection.specs.declared.Selection.{Selection}
use Rattle.selection.specs.declared.Area.{Area}
use Rattle.selection.specs.Selection.{inside, contains_i}
use Rattle.selection.specs.Region.{off_sheet, region_in}
use Rattle.sheet.specs.Sheet.{Sheet}
use Rattle.sheet.specs.Checks.{sheet_checks, WellFormed}
use Rattle.edit.specs.Change.{Change, packed}
use Rattle.tool_fill_model.specs.Flood.{flood_of}

-- where the fill starts: `at.1 as usize * w + at.0 as usize`
abbrev pub start_of : ℕ → ℤ → ℤ → ℕ
start_of w x y = from_zero y * w + from_zero x

-- nothing where the point is not in the region, or has the index already; else the flood from it
unfoldable pub fill_of : ℕ → List ℤ → Selection → ℤ → ℤ → ℤ → List Change
fill_of w l region x y index =
    cond (contains_i region x y && not (eq_z (get_or l (start_of w x y) (pos 0)) index))
    (flood_of w l region (start_of w x y) index)
    []

-- 1, 2, 3, 15, 5, and 16 of a scratch of `room` places, "w × h", which is asked whatever the result is
unfoldable pub fill_checks : Sheet → Area → ℤ → ℤ → ℕ → List Check
fill_checks s given x y room =
    sheet_checks [] s
    ++ (too_far when far x
    ∷ too_far when far y
    ∷ off_the_sheet when off_sheet given s.w s.h
    ∷ no_space when ltb room (s.w * s.h)
    ∷ [])

-- then "no space: result count exceeds its buffer"
unfoldable pub flood_fill_of : Sheet → Area → ℤ → ℤ → ℤ → ℕ → List ℕ → Filled ℕ
flood_fill_of s given x y index room out =
    let cs = fill_of s.w s.indices (region_in given s.w s.h) x y index in
    checked (fill_checks s given x y room ++ (no_space when ltb (length out) (length cs) ∷ []))
    (λ n. leaving (alone n) out)
    (leaving (result (length cs)) (over (map packed cs) out))

-- what a caller knows where none of the checks before the result applies
pub record Fine (s : Sheet) (given : Area) (x y : ℤ) (room : ℕ) : Type 0 where
  pub well : WellFormed s
  pub across : far x ≡ false
  pub down : far y ≡ false
  pub on : off_sheet given s.w s.h ≡ false
  pub space : s.w * s.h ≤ room

-- the number of the first that applies, and what 0 means
pub record Fillable (s : Sheet) (given : Area) (x y : ℤ) (room : ℕ) (n : ℕ) : Type 0 where
  pub value : n ≡ first_of (fill_checks s given x y room)
  pub fine : n ≡ 0 → Fine s given x y room

-- what the fill asks: a sheet within the limits, a region on it, a point that is not too far, and scratch
pub record Ready (w h : ℕ) (l : List ℤ) (region : Selection) (x y : ℤ) (room : ℕ) : Type 0 where
  pub narrow : w ≤ 1024
  pub low : h ≤ 1024
  pub size : length l ≡ w * h
  pub on : inside region w h ≡ true
  pub across : far x ≡ false
  pub down : far y ≡ false
  pub space : w * h ≤ room
