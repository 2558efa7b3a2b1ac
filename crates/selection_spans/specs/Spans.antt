-- One axis of the rectangles of selection.rs, on whole numbers and as the Rust writes it. Definitions only. Assumes nothing.
use Rattle.std.specs.Prelude.{Bool, ◌&&◌, ℕ, ◌+◌, ◌-◌, min, leb, ltb, ℤ, pos, ◌+ℤ◌, ◌-ℤ◌}
use Rattle.base.specs.Ints.{min_z, max_z, from_zero}
use Rattle.selection_spans.specs.declared.Span.{Span}

-- ---- `from_corners`
-- x0 is `a.0.min(b.0).max(0)`, and so y0
unfoldable pub first : ℤ → ℤ → ℤ
first a b = max_z (min_z a b) (pos 0)

-- x1 is `a.0.max(b.0).min(width as i64 - 1)`, and so y1
unfoldable pub last : ℤ → ℤ → ℕ → ℤ
last a b side = min_z (max_z a b) (pos side -ℤ pos 1)

-- `x: x0 as usize`, `w: (x1 - x0 + 1) as usize`, neither of them negative where x0 ≤ x1
unfoldable pub between : ℤ → ℤ → ℕ → Span
between a b side = record { start = from_zero (first a b); count = from_zero (last a b side -ℤ first a b +ℤ pos 1) }

-- ---- `contains`: `x >= self.x && x < self.x + self.w`, and so y
unfoldable pub in_span : ℕ → ℕ → ℕ → Bool
in_span start count at = leb start at && ltb at (start + count)

-- ---- `translated`
-- from `self.x as i64 + dx`, and so y
unfoldable pub moved_first : ℕ → ℤ → ℤ
moved_first start d = pos start +ℤ d

-- to `x + self.w as i64 - 1`, and so y
unfoldable pub moved_last : ℕ → ℕ → ℤ → ℤ
moved_last start count d = moved_first start d +ℤ pos count -ℤ pos 1

abbrev pub moved : ℕ → ℕ → ℤ → ℕ → Span
moved start count d side = between (moved_first start d) (moved_last start count d) side

-- ---- `grown`
-- from `self.x.saturating_sub(margin)`, and so y
abbrev pub grown_start : ℕ → ℕ → ℕ
grown_start start margin = start - margin

-- up to `(self.x + self.w + margin).min(width)`, and so y
abbrev pub grown_end : ℕ → ℕ → ℕ → ℕ → ℕ
grown_end start count margin side = min (start + count + margin) side

unfoldable pub widened : ℕ → ℕ → ℕ → ℕ → Span
widened start count margin side = record { start = grown_start start margin; count = grown_end start count margin side - grown_start start margin }
