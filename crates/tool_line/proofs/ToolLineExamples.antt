-- Worked examples of the call, by computation. Assumes nothing.
use mathlib.Core.Path.{◌≡◌, refl}
use mathlib.Core.List.{[], ◌∷◌, flat_map}
use Prim.Native.Nat.{ℕ}
use lib.IntN.{pos, negsuc}
use Rattle.base.specs.Checks.{first_of, refused_or}
use Rattle.base.specs.Answer.{filled}
use Rattle.base.specs.declared.Counted.TheVariants as counted
use Rattle.base.specs.Lists.{range, over}
use Rattle.base.specs.Ints.{far}
use Rattle.tool_line.specs.Line.{Point, point, far_point, side, toward, dividend, halfway, offset, longer, point_at, line_of, flat}
use Rattle.tool_line.specs.Bresenham.{line_checks, bresenham_of}

abbrev at : ℕ → ℕ → Point
at x y = point (pos x) (pos y)

record Examples : Type 0 where
  -- the points in front, the rest of the buffer left
  forth : bresenham_of (at 0 0) (at 2 1) (pos 9 ∷ pos 9 ∷ pos 9 ∷ pos 9 ∷ pos 9 ∷ pos 9 ∷ pos 7 ∷ [])
      ≡ filled (counted.Count 3) (pos 0 ∷ pos 0 ∷ pos 1 ∷ pos 0 ∷ pos 2 ∷ pos 1 ∷ pos 7 ∷ [])
  no-space : bresenham_of (at 0 0) (at 0 1) (pos 9 ∷ pos 8 ∷ pos 7 ∷ []) ≡ filled (counted.Refused 16) (pos 9 ∷ pos 8 ∷ pos 7 ∷ [])
  -- -65,536 itself is allowed; 15 comes before 16
  farthest : bresenham_of (point (negsuc 65535) (pos 5)) (point (negsuc 65535) (pos 5)) (pos 9 ∷ pos 8 ∷ []) ≡ filled (counted.Count 1) (negsuc 65535 ∷ pos 5 ∷ [])
  farther : bresenham_of (at 0 0) (point (pos 0) (negsuc 65536)) [] ≡ filled (counted.Refused 15) []

examples : Examples
unfolding first_of refused_or range over flat_map far far_point side toward dividend halfway offset longer point_at line_of flat line_checks bresenham_of
examples = record { forth = refl; no-space = refl; farthest = refl; farther = refl }
