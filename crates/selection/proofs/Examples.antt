-- Worked examples of the definitions, by computation. Assumes nothing.
use mathlib.Core.Path.{◌≡◌, refl}
use mathlib.Core.List.{[], ◌∷◌, flat_map}
use mathlib.Core.Option.{none, some}
use Prim.Native.Nat.{ℕ}
use lib.IntN.{pos, negsuc}
use Rattle.base.specs.Checks.{first_of, refused_or}
use Rattle.base.specs.Lists.{range, over}
use Rattle.base.specs.Ints.{far, from_zero, min_z, max_z}
use Rattle.selection_spans.specs.Spans.{first, last, between, moved_first, moved_last, widened}
use Rattle.selection_spans.specs.Positions.{row, flat}
use Rattle.selection.specs.declared.Selection.{Selection}
use Rattle.base.specs.Answer.Told.{result, alone}
use Rattle.selection.specs.Selection.{inside, rectangle, from_corners, translated, grown, positions}
use Rattle.selection.specs.Calls.{too_large, far_away, corner_checks, from_corners_of, shift_checks, translated_of, margin_checks, grown_of, positions_of}
use Rattle.base.specs.Answer.{leaving}

abbrev at : ℕ → ℕ → ℕ → ℕ → Selection
at x y w h = record { x = x; y = y; w = w; h = h }

record Examples : Type 0 where
  -- corners in any order, clipped on two sides
  any_order : from_corners_of (pos 5) (pos 1) (pos 2) (negsuc 2) 4 3 ≡ result (some (at 2 0 2 2))
  no-width : from_corners_of (pos 0) (pos 0) (pos 9) (pos 9) 0 3 ≡ result none
  -- -65,536 and 65,536 themselves are allowed
  farthest : from_corners_of (negsuc 65535) (pos 0) (pos 65536) (pos 0) 1024 1024 ≡ result (some (at 0 0 1024 1))
  farther : from_corners_of (pos 0) (pos 0) (pos 0) (pos 65537) 1024 1024 ≡ alone 15
  -- an empty selection that is inside grows as it is moved; one that is not is 5, after 15
  empty : translated_of (at 1 1 0 0) (pos 0) (pos 0) 3 3 ≡ result (some (at 0 0 2 2))
  off : translated_of (at 2 2 2 1) (pos 0) (pos 0) 3 3 ≡ alone 5
  far-first : translated_of (at 2 2 2 1) (pos 65537) (pos 0) 3 3 ≡ alone 15
  clipped : grown_of (at 1 0 1 2) 2 3 2 ≡ result (some (at 0 0 3 2))
  -- row by row, past 65,535 too, and the rest of the buffer is left
  by_rows : positions_of (at 65535 7 2 2) (pos 1 ∷ pos 2 ∷ pos 3 ∷ pos 4 ∷ pos 5 ∷ pos 6 ∷ pos 7 ∷ pos 8 ∷ pos 9 ∷ [])
      ≡ leaving (result 4) (pos 65535 ∷ pos 7 ∷ pos 65536 ∷ pos 7 ∷ pos 65535 ∷ pos 8 ∷ pos 65536 ∷ pos 8 ∷ pos 9 ∷ [])
  no-space : positions_of (at 0 0 2 1) (pos 1 ∷ pos 2 ∷ pos 3 ∷ []) ≡ leaving (alone 16) (pos 1 ∷ pos 2 ∷ pos 3 ∷ [])

examples : Examples
unfolding first_of refused_or range over flat_map far from_zero min_z max_z inside rectangle first last between from_corners moved_first moved_last translated widened grown row positions flat too_large far_away corner_checks from_corners_of shift_checks translated_of margin_checks grown_of positions_of
examples =
    record {
      any_order = refl;
      no-width = refl;
      farthest = refl;
      farther = refl;
      empty = refl;
      off = refl;
      far-first = refl;
      clipped = refl;
      by_rows = refl;
      no-space = refl;
    }
