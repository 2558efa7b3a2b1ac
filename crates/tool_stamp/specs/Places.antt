-- What the drawing tools paint, as places of a picture in rows of width w. Definitions only. Assumes nothing.
use Rattle.std.specs.Prelude.{Bool, cond, ◌||◌, ℕ, ◌+◌, ◌-◌, ◌*◌, ◌<◌, ◌≤◌, min, max, ℤ, pos, nat_abs, set}
use mathlib.Core.List.{List, [], ◌∷◌, ◌++◌, flat_map}
use Rattle.std.specs.Int.Signed.{lt_z}
use Rattle.base.specs.Lists.{range}
use Rattle.base.specs.Ints.{eq_z, from_zero, up_to}
use Rattle.selection.specs.declared.Selection.{Selection}
use Rattle.selection.specs.Selection.{contains_i}
use Rattle.tool_line.specs.Line.{Point}
use Rattle.tool_line.specs.Brush.{stamp_at}
use Rattle.tool_stamp.specs.declared.Run.{Run}
use Rattle.tool_stamp.specs.declared.Columns.{Columns}

-- v at each of these places
unfoldable pub set_all : {A : Type 0} → List ℕ → A → List A → List A
set_all [] v l = l
set_all (p ∷ ps) v l = set_all ps v (set l p v)

-- where a point stands, if the region contains it
unfoldable pub place_at : Selection → ℕ → Point → List ℕ
place_at region w p = cond (contains_i region p.x p.y) ((nat_abs p.y * w + nat_abs p.x) ∷ []) []

unfoldable pub places_of : Selection → ℕ → List Point → List ℕ
places_of region w ps = flat_map (place_at region w) ps

-- what lies of `a..=b` from `from` on and below `end`
unfoldable pub clipped : ℤ → ℤ → ℕ → ℕ → Run
clipped a b from end = let s = min (max (from_zero a) from) end in record { start = s; count = min (up_to b) end - s }

-- of the columns from x0 to x1: all, the first, and the last where it is another
unfoldable pub columns_of : ℤ → ℤ → ℕ → ℕ → Columns
columns_of x0 x1 from end =
    record {
      all = clipped x0 x1 from end;
      left = clipped x0 x0 from end;
      right = cond (lt_z x0 x1) (clipped x1 x1 from end) (record { start = end; count = 0 });
    }

-- the places of a run of columns in row y
unfoldable pub row_places : ℕ → Run → ℕ → List ℕ
row_places w x y = range (y * w + x.start) x.count

-- and in a run of rows
unfoldable pub box_places : ℕ → Run → Run → List ℕ
box_places w x y = flat_map (row_places w x) (range y.start y.count)

-- of row y of a rectangle: all columns, or the first and the last
unfoldable pub part_places : ℕ → Bool → Columns → ℕ → List ℕ
part_places w whole x y = cond whole (row_places w x.all y) (row_places w x.left y ++ row_places w x.right y)

unfoldable pub frame_places : ℕ → Bool → ℤ → ℤ → Columns → ℕ → List ℕ
frame_places w filled top bottom x y = part_places w (filled || (eq_z (pos y) top || eq_z (pos y) bottom)) x y

-- the places of the stamps of a brush of n at some points
unfoldable pub stamp_places : Selection → ℕ → ℕ → List Point → List ℕ
stamp_places region w n ps = places_of region w (flat_map (stamp_at n) ps)

-- ---- what is asked
-- a brush that was clamped, and a coordinate that it may stand at
pub record Brush (n : ℕ) : Type 0 where
  pub some : 1 ≤ n
  pub most : n ≤ 8

unfoldable pub Close : ℤ → Type 0
Close z = nat_abs z ≤ 262144

-- a run that ends at or before `end`
unfoldable pub Ends : Run → ℕ → Type 0
Ends r end = r.start + r.count ≤ end

-- a row, and a run of rows, that a scratch has the places of
pub record Row (w y places : ℕ) : Type 0 where
  pub narrow : w ≤ 1024
  pub low : y < 1024
  pub below : (y + 1) * w ≤ places

pub record Rows (w : ℕ) (y : Run) (places : ℕ) : Type 0 where
  pub narrow : w ≤ 1024
  pub bottom : y.start + y.count ≤ 1024
  pub below : (y.start + y.count) * w ≤ places

pub record AllEnd (x : Columns) (w : ℕ) : Type 0 where
  pub all : Ends x.all w
  pub left : Ends x.left w
  pub right : Ends x.right w
