-- The rectangles of selection.rs, on whole numbers and as the Rust writes them; the crate selection_spans has one axis,
-- and rows. Definitions only. Assumes nothing.
use Rattle.std.specs.Prelude.{Bool, cond, ◌&&◌, ◌||◌, List, ℕ, ◌+◌, leb, ℤ, nat_abs}
use Rattle.std.proofs.Math.Option.{Option, none, some}
use Rattle.std.specs.Int.Signed.{lt_z, non_neg}
use Rattle.selection_spans.specs.declared.Span.{Span}
use Rattle.selection_spans.specs.Spans.{first, last, between, in_span, moved_first, moved_last, widened}
use Rattle.selection_spans.specs.Positions.{Position, rows}
use Rattle.selection.specs.declared.Selection.{Selection}

-- "off the sheet: a selection, not inside": document 01's number 5
unfoldable pub inside : Selection → ℕ → ℕ → Bool
inside s width height = leb (s.x + s.w) width && leb (s.y + s.h) height

-- the rectangle that takes these places of its two axes
unfoldable pub rectangle : Span → Span → Selection
rectangle x y = record { x = x.start; y = y.start; w = x.count; h = y.count }

-- ---- `all`: "The whole image"
unfoldable pub all : ℕ → ℕ → Selection
all width height = record { x = 0; y = 0; w = width; h = height }

-- ---- `from_corners`: "The rectangle between two pixel positions (both included, in any order), clipped to the image"
-- "`None` when nothing of it is inside": `if x0 > x1 || y0 > y1`
unfoldable pub from_corners : ℤ → ℤ → ℤ → ℤ → ℕ → ℕ → Option Selection
from_corners ax ay bx by width height =
    cond (lt_z (last ax bx width) (first ax bx) || lt_z (last ay by height) (first ay by))
    none
    (some (rectangle (between ax bx width) (between ay by height)))

-- ---- `contains`
unfoldable pub contains : Selection → ℕ → ℕ → Bool
contains s x y = in_span s.x s.w x && in_span s.y s.h y

-- ---- `contains_i`: `x >= 0 && y >= 0 && self.contains(x as usize, y as usize)`
unfoldable pub contains_i : Selection → ℤ → ℤ → Bool
contains_i s x y = non_neg x && non_neg y && contains s (nat_abs x) (nat_abs y)

-- ---- `translated`: "The rectangle moved by (dx, dy) and clipped to the image"
unfoldable pub translated : Selection → ℤ → ℤ → ℕ → ℕ → Option Selection
translated s dx dy width height =
    from_corners
    (moved_first s.x dx)
    (moved_first s.y dy)
    (moved_last s.x s.w dx)
    (moved_last s.y s.h dy)
    width
    height

-- ---- `grown`: "The rectangle grown by `margin` on every side, clipped to the image"
unfoldable pub grown : Selection → ℕ → ℕ → ℕ → Selection
grown s margin width height = rectangle (widened s.x s.w margin width) (widened s.y s.h margin height)

-- ---- `positions`: "Every position inside, row-major"
unfoldable pub positions : Selection → List Position
positions s = rows s.x s.w s.y s.h
