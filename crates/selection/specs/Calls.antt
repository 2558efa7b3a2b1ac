-- The calls of selection.rs: their checks, in document 01's order, and their answers. Definitions only. Assumes nothing.
use Rattle.std.specs.Prelude.{Bool, true, false, not, ◌||◌, List, [], ◌∷◌, ℕ, ◌/◌, ltb, ℤ, length}
use Rattle.std.proofs.Math.Option.{Option, none, some}
use Rattle.base.specs.Limits.{max_side, max_distance}
use Rattle.base.specs.Numbers.{bad_sheet, off_the_sheet, too_far, no_space}
use Rattle.base.specs.Checks.{Check, ◌when◌, checked}
use Rattle.base.specs.Answer.{Told, number, Filled, leaving}
use Rattle.base.specs.Answer.Told.{result, alone}
use Rattle.base.specs.Lists.{over}
use Rattle.base.specs.Ints.{far}
use Rattle.selection_spans.specs.Positions.{flat}
use Rattle.selection.specs.declared.Selection.{Selection}
use Rattle.selection.specs.declared.Area.{Area}
use Rattle.selection.specs.declared.Area.TheVariants as area
use Rattle.selection.specs.declared.Chosen.{Chosen}
use Rattle.selection.specs.declared.Chosen.TheVariants as chosen
use Rattle.selection.specs.declared.Shifted.{Shifted}
use Rattle.selection.specs.declared.Shifted.TheVariants as shifted
use Rattle.selection.specs.declared.Held.{Held}
use Rattle.selection.specs.declared.Held.TheVariants as held
use Rattle.selection.specs.Selection.{all, from_corners, contains_i, translated, grown, positions, inside}

-- ---- what each answer tells
-- a selection, or none
abbrev pub chosen_told : Chosen → Told (Option Selection)
chosen_told (chosen.Part s) = result (some s)
chosen_told chosen.Nothing = result none
chosen_told (chosen.Refused n) = alone n

abbrev pub chosen_number : Chosen → ℕ
chosen_number a = number (chosen_told a)

-- whether the position is inside
abbrev pub held_told : Held → Told Bool
held_told held.Inside = result true
held_told held.Outside = result false
held_told (held.Refused n) = alone n

abbrev pub held_number : Held → ℕ
held_number a = number (held_told a)

-- how many changes, and the new selection, which is a selection or none
pub record Shift : Type 0 where
  pub count : ℕ
  pub selection : Told (Option Selection)

abbrev pub shift : ℕ → Told (Option Selection) → Shift
shift count selection = record { count = count; selection = selection }

abbrev pub shifted_told : Shifted → Told Shift
shifted_told (shifted.Changes count s) = result (shift count (chosen_told s))
shifted_told (shifted.Refused n) = alone n

abbrev pub shifted_number : Shifted → ℕ
shifted_number a = number (shifted_told a)

-- ---- the conditions of the table
-- "bad sheet: a size or limit above fails": "w and h 0 to 1,024"
unfoldable pub too_large : ℕ → ℕ → Bool
too_large width height = ltb max_side width || ltb max_side height

-- "too far: point, shift or margin", of a point or a shift
unfoldable pub far_away : ℤ → ℤ → Bool
far_away x y = far x || far y

-- ---- `all`
unfoldable pub all_of : ℕ → ℕ → Told (Option Selection)
all_of width height = checked (bad_sheet when too_large width height ∷ []) alone (result (some (all width height)))

-- ---- `from_corners`
unfoldable pub corner_checks : ℤ → ℤ → ℤ → ℤ → ℕ → ℕ → List Check
corner_checks ax ay bx by width height =
    bad_sheet when too_large width height
    ∷ too_far when far_away ax ay
    ∷ too_far when far_away bx by
    ∷ []

unfoldable pub from_corners_of : ℤ → ℤ → ℤ → ℤ → ℕ → ℕ → Told (Option Selection)
from_corners_of ax ay bx by width height = checked (corner_checks ax ay bx by width height) alone (result (from_corners ax ay bx by width height))

-- ---- `contains_i`
unfoldable pub contains_iof : Selection → ℤ → ℤ → Told Bool
contains_iof s x y = checked (too_far when far_away x y ∷ []) alone (result (contains_i s x y))

-- ---- `translated`
unfoldable pub shift_checks : Selection → ℤ → ℤ → ℕ → ℕ → List Check
shift_checks s dx dy width height =
    bad_sheet when too_large width height
    ∷ too_far when far_away dx dy
    ∷ off_the_sheet when not (inside s width height)
    ∷ []

unfoldable pub translated_of : Selection → ℤ → ℤ → ℕ → ℕ → Told (Option Selection)
translated_of s dx dy width height = checked (shift_checks s dx dy width height) alone (result (translated s dx dy width height))

-- ---- `grown`
unfoldable pub margin_checks : Selection → ℕ → ℕ → ℕ → List Check
margin_checks s margin width height =
    bad_sheet when too_large width height
    ∷ too_far when ltb max_distance margin
    ∷ off_the_sheet when not (inside s width height)
    ∷ []

unfoldable pub grown_of : Selection → ℕ → ℕ → ℕ → Told (Option Selection)
grown_of s margin width height = checked (margin_checks s margin width height) alone (result (some (grown s margin width height)))

-- ---- `positions`: the answer, and the buffer afterwards
-- "no space: result count exceeds its buffer", which has room for a position in two numbers
unfoldable pub positions_of : Selection → List ℤ → Filled ℤ
positions_of s out =
    checked (no_space when ltb (length out / 2) (length (positions s)) ∷ [])
    (λ n. leaving (alone n) out)
    (leaving (result (length (positions s))) (over (flat (positions s)) out))

-- ---- `region`: "`selection`, or the whole image"
unfoldable pub region_of : Area → ℕ → ℕ → Told (Option Selection)
region_of area.Whole width height = all_of width height
region_of (area.Part s) width height =
    checked (bad_sheet when too_large width height ∷ off_the_sheet when not (inside s width height) ∷ []) alone (result (some s))
