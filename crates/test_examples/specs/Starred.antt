-- Document 01's starred examples: "proved together as a group". Proved: proofs/Starred.antt. Definitions only. Assumes nothing.
use Rattle.std.specs.Prelude.{◌≡◌, List, [], ◌∷◌, ℕ, ℤ, pos, negsuc}
use Rattle.selection.specs.declared.Selection.{Selection}
use Rattle.tool_line.specs.Line.{Point, point, line_of}
use Rattle.edit.specs.Change.{Change, painted, new_of}
use Rattle.change_normal.specs.Normal.{normalize_of}
use Rattle.tool_paste_model.specs.Moves.{moved_list}
use Rattle.history.specs.Examples.{Examples}

-- a point; a change (x, y, old→new)
abbrev pub at : ℕ → ℕ → Point
at x y = point (pos x) (pos y)

abbrev pub change : ℕ → ℕ → ℕ → ℕ → Change
change x y old new = record { x = x; y = y; old = pos old; new = pos new }

-- three pixels in a row: 4, 5, transparent; and the first two of them
abbrev pub four_five : List ℤ
four_five = pos 4 ∷ pos 5 ∷ negsuc 0 ∷ []

abbrev pub first_two : Selection
first_two = record { x = 0; y = 0; w = 2; h = 1 }

pub record Starred : Type 0 where
  -- "(0,0)-(2,1)", which E4 makes (0,0),(1,0),(2,1)
  pub forth : line_of (at 0 0) (at 2 1) ≡ at 0 0 ∷ at 1 0 ∷ at 2 1 ∷ []
  -- "Back: (2,1),(1,0),(0,0)"
  pub back : line_of (at 2 1) (at 0 0) ≡ at 2 1 ∷ at 1 0 ∷ at 0 0 ∷ []
  -- "Normalise (1,0,0→2),(0,0,1→1),(1,0,2→5): (1,0,0→5)"
  pub normal : normalize_of (change 1 0 0 2 ∷ change 0 0 1 1 ∷ change 1 0 2 5 ∷ []) ≡ change 1 0 0 5 ∷ []
  -- "(1,0,0→2),(1,0,2→0): empty"
  pub empty : normalize_of (change 1 0 0 2 ∷ change 1 0 2 0 ∷ []) ≡ []
  -- "Indices 0,1,2, remove 1 into 2 .." to "Push, mark, undo, push: no saved mark"
  pub edits : Examples
  -- "4,5,-1, first two moved right by 1: -1,4,5"
  pub moved : painted new_of 3 (moved_list 3 1 four_five first_two (pos 1) (pos 0)) four_five ≡ negsuc 0 ∷ pos 4 ∷ pos 5 ∷ []
