-- The drawing tools of tools.rs: each is a list of points, and a change for each of them that the region contains. Definitions only. Assumes nothing.
use Rattle.std.specs.Prelude.{Bool, cond, ◌||◌, ℕ, ◌+◌, ◌*◌, ℤ, pos, nat_abs, ◌+ℤ◌, ◌-ℤ◌, get_or}
use mathlib.Core.List.{List, [], ◌∷◌, map, flat_map}
use Rattle.base.specs.Lists.{range, kept}
use Rattle.base.specs.Ints.{eq_z, from_zero, min_z, max_z}
use Rattle.selection.specs.declared.Selection.{Selection}
use Rattle.selection.specs.Selection.{contains_i}
use Rattle.tool_line.specs.Line.{Point, point}
use Rattle.tool_line.specs.Brush.{stamped}
use Rattle.edit.specs.Change.{Change}
use Rattle.change_normal.specs.Normal.{normalize_of}

-- ---- `change`: "A change setting `(x, y)` to `index`, if the position is in the image and the region"; old is `doc.get(x, y)`
unfoldable pub change_at : ℕ → List ℤ → Selection → ℤ → Point → List Change
change_at w l region index p =
    let x = nat_abs p.x in
    let y = nat_abs p.y in
    cond (contains_i region p.x p.y) (record { x = x; y = y; old = get_or l (y * w + x) (pos 0); new = index } ∷ []) []

-- `out.extend(change(doc, &region, x, y, index))`, point by point
unfoldable pub changes_at : ℕ → List ℤ → Selection → ℤ → List Point → List Change
changes_at w l region index ps = flat_map (change_at w l region index) ps

-- `normalize(out)`
unfoldable pub drawn : ℕ → List ℤ → Selection → ℤ → List Point → List Change
drawn w l region index ps = normalize_of (changes_at w l region index ps)

-- ---- `pencil`: "paint `index` with a square brush along `points`"
unfoldable pub pencil_of : ℕ → List ℤ → Selection → List Point → ℕ → ℤ → List Change
pencil_of w l region points size index = drawn w l region index (stamped size points)

-- ---- `rectangle`: "its four edges, or every pixel inside with `filled`"
-- `a..=b`
unfoldable pub through : ℤ → ℤ → List ℤ
through a b = map (λ (i : ℕ). a +ℤ pos i) (range 0 (from_zero (b -ℤ a +ℤ pos 1)))

-- what of a row from x0 to x1 is drawn: all of it, or its two ends
unfoldable pub row_of : Bool → ℤ → ℤ → List ℤ
row_of whole x0 x1 = kept (λ (x : ℤ). whole || (eq_z x x0 || eq_z x x1)) (through x0 x1)

-- `if filled || x == x0 || x == x1 || y == y0 || y == y1`, row by row
unfoldable pub rectangle_points : Point → Point → Bool → List Point
rectangle_points a b filled =
    let x0 = min_z a.x b.x in
    let x1 = max_z a.x b.x in
    let y0 = min_z a.y b.y in
    let y1 = max_z a.y b.y in
    flat_map (λ (y : ℤ). map (λ (x : ℤ). point x y) (row_of (filled || (eq_z y y0 || eq_z y y1)) x0 x1)) (through y0 y1)

unfoldable pub rectangle_of : ℕ → List ℤ → Selection → Point → Point → Bool → ℤ → List Change
rectangle_of w l region a b filled index = drawn w l region index (rectangle_points a b filled)
