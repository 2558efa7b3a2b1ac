-- Document 01's starred examples of lines, and more of the definitions, by computation. Assumes nothing.
use mathlib.Core.Path.{◌≡◌, refl}
use mathlib.Core.List.{[], ◌∷◌, flat_map}
use Prim.Native.Nat.{ℕ}
use lib.IntN.{pos, negsuc}
use lib.ListN.{length}
use Rattle.base.specs.Lists.{range}
use Rattle.tool_line.specs.Line.{Point, point, side, toward, dividend, halfway, offset, longer, point_at, line_of}
use Rattle.tool_line.specs.Brush.{clamped, covered, stamp_at, onward, path_of, stamped}

abbrev pub at : ℕ → ℕ → Point
at x y = point (pos x) (pos y)

-- "starred: proved together as a group"
pub record Starred : Type 0 where
  -- E4: "In 01 the first example becomes (0,0),(1,0),(2,1)"
  pub forth : line_of (at 0 0) (at 2 1) ≡ at 0 0 ∷ at 1 0 ∷ at 2 1 ∷ []
  -- "Back: (2,1),(1,0),(0,0)"
  pub back : line_of (at 2 1) (at 0 0) ≡ at 2 1 ∷ at 1 0 ∷ at 0 0 ∷ []

pub starred : Starred
unfolding range side toward dividend halfway offset longer point_at line_of
starred = record { forth = refl; back = refl }

record Examples : Type 0 where
  -- "m = 0: one point"
  one-point : line_of (at 3 4) (at 3 4) ≡ at 3 4 ∷ []
  -- y is the longer, and both go back
  steep : line_of (at 1 1) (point (pos 0) (negsuc 0)) ≡ at 1 1 ∷ at 0 0 ∷ point (pos 0) (negsuc 0) ∷ []
  -- a brush of 2 starts at its point, one of 3 a place above and left of it
  two : stamp_at 2 (at 4 7) ≡ at 4 7 ∷ at 5 7 ∷ at 4 8 ∷ at 5 8 ∷ []
  three : covered 3 (pos 0) ≡ negsuc 0 ∷ pos 0 ∷ pos 1 ∷ []
  -- "Brush 1 to 8, clamped"
  least : stamp_at 0 (at 4 7) ≡ at 4 7 ∷ []
  most : length (stamp_at 9 (at 4 7)) ≡ 64
  -- the shared point once; a point given twice is one point; no points, no path
  turn : path_of (at 0 0 ∷ at 2 0 ∷ at 2 1 ∷ []) ≡ at 0 0 ∷ at 1 0 ∷ at 2 0 ∷ at 2 1 ∷ []
  twice : path_of (at 3 4 ∷ at 3 4 ∷ []) ≡ at 3 4 ∷ []
  none : stamped 8 [] ≡ []

examples : Examples
unfolding range flat_map side toward dividend halfway offset longer point_at line_of clamped covered stamp_at onward path_of stamped
examples =
    record {
      one-point = refl;
      steep = refl;
      two = refl;
      three = refl;
      least = refl;
      most = refl;
      turn = refl;
      twice = refl;
      none = refl;
    }
