-- Document 01's starred example of a move, and more of the definitions, by computation. Assumes nothing.
use mathlib.Core.Path.{◌≡◌, refl}
use mathlib.Core.List.{List, [], ◌∷◌, flat_map}
use Prim.Native.Nat.{ℕ}
use lib.IntN.{ℤ, pos, negsuc}
use Rattle.base.specs.Lists.{range, kept}
use Rattle.base.specs.Ints.{eq_z, from_zero, min_z, max_z}
use Rattle.sheet.specs.Document.{index_at}
use Rattle.selection_spans.specs.Spans.{first, last, between, moved_first, moved_last}
use Rattle.selection_spans.specs.Positions.{row}
use Rattle.selection.specs.declared.Selection.{Selection}
use mathlib.Core.Option.{none, some}
use Rattle.selection.specs.Selection.{rectangle, from_corners, translated, positions, all}
use Rattle.edit.specs.Change.{place, painted, new_of}
use Rattle.change_normal.specs.Normal.{key_of, joined, enter, entered, changing, normalize_of}
use Rattle.tool_paste_model.specs.Blocks.{onto_got, onto, landed}
use Rattle.tool_paste_model.specs.Pasting.{paste_changes, pasted_selection}
use Rattle.tool_paste_model.specs.Moves.{cleared, move_changes, unmoved, moved_list, moved_selection}

abbrev pub at : ℕ → ℕ → ℕ → ℕ → Selection
at x y w h = record { x = x; y = y; w = w; h = h }

-- three pixels in a row: 4, 5, transparent
abbrev pub line : List ℤ
line = pos 4 ∷ pos 5 ∷ negsuc 0 ∷ []

-- "starred: proved together as a group"
pub record Starred : Type 0 where
  -- "4,5,-1, first two moved right by 1: -1,4,5"
  pub right : painted new_of 3 (moved_list 3 1 line (at 0 0 2 1) (pos 1) (pos 0)) line ≡ negsuc 0 ∷ pos 4 ∷ pos 5 ∷ []

pub starred : Starred
unfolding flat_map range eq_z from_zero index_at row positions place painted key_of joined enter entered kept changing normalize_of onto_got onto landed cleared move_changes unmoved moved_list
starred = record { right = refl }

record Examples : Type 0 where
  selected : moved_selection (at 0 0 2 1) (pos 1) (pos 0) 3 1 ≡ some (at 1 0 2 1)
  -- "shift 0 gives no changes and the old selection", an empty one too
  still : moved_list 3 1 line (at 0 0 2 1) (pos 0) (pos 0) ≡ []
  empty : moved_selection (at 1 1 0 0) (pos 0) (pos 0) 3 3 ≡ some (at 1 1 0 0)
  -- off the sheet: cleared, and no selection
  away : painted new_of 3 (moved_list 3 1 line (at 0 0 2 1) (pos 0) (negsuc 0)) line ≡ negsuc 0 ∷ negsuc 0 ∷ negsuc 0 ∷ []
  gone : moved_selection (at 0 0 2 1) (pos 0) (negsuc 0) 3 1 ≡ none
  -- transparent pixels are pasted too, and what lies past the sheet is not
  pasted : painted new_of 3 (normalize_of (paste_changes 3 1 line 3 1 (negsuc 0 ∷ pos 1 ∷ pos 2 ∷ []) (pos 1) (pos 0))) line ≡ pos 4 ∷ negsuc 0 ∷ pos 1 ∷ []
  placed : pasted_selection 3 1 (pos 1) (pos 0) 3 1 ≡ some (at 1 0 2 1)
  no-side : pasted_selection 0 1 (pos 1) (pos 0) 3 1 ≡ none

examples : Examples
unfolding flat_map range eq_z from_zero min_z max_z index_at rectangle first last between from_corners moved_first moved_last translated row positions all place painted key_of joined enter entered kept changing normalize_of onto_got onto landed cleared move_changes unmoved moved_list moved_selection paste_changes pasted_selection
examples =
    record {
      selected = refl;
      still = refl;
      empty = refl;
      away = refl;
      gone = refl;
      pasted = refl;
      placed = refl;
      no-side = refl;
    }
