-- What a brush covers on its way through points, in document 01's "Tools" and tools.rs: `stamps`. Definitions only. Assumes nothing.
use mathlib.Core.List.{List, [], ◌∷◌, ◌++◌, map, flat_map}
use Rattle.std.specs.Prelude.{ℕ, ◌-◌, ◌/◌, min, max, ℤ, pos, ◌+ℤ◌, ◌-ℤ◌, drop}
use Rattle.base.specs.Lists.{range}
use Rattle.tool_line.specs.Line.{Point, point, line_of}

-- "Brush 1 to 8, clamped"
unfoldable pub clamped : ℕ → ℕ
clamped size = min (max size 1) 8

-- one axis of a brush of n places at p: `p - half..p - half + n`, "starting (size-1)/2 above and left"
unfoldable pub covered : ℕ → ℤ → List ℤ
covered n p = map (λ (i : ℕ). p -ℤ pos ((n - 1) / 2) +ℤ pos i) (range 0 n)

-- row by row
unfoldable pub stamp_at : ℕ → Point → List Point
stamp_at size p = flat_map (λ (y : ℤ). map (λ (x : ℤ). point x y) (covered (clamped size) p.x)) (covered (clamped size) p.y)

-- the lines on from p through the points: "The shared point is drawn once"
unfoldable pub onward : Point → List Point → List Point
onward p [] = []
onward p (q ∷ ps) = drop 1 (line_of p q) ++ onward q ps

-- "the polyline through `points`": none, the point itself, or the lines between successive points
unfoldable pub path_of : List Point → List Point
path_of [] = []
path_of (p ∷ []) = p ∷ []
path_of (p ∷ q ∷ ps) = line_of p q ++ onward q ps

-- "Square brush stamps of `size` at every point of the polyline"
unfoldable pub stamped : ℕ → List Point → List Point
stamped size ps = flat_map (stamp_at size) (path_of ps)
