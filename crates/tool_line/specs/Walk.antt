-- Where a walk along a line stands, and what its steps ask of their callers. Definitions only. Assumes nothing.
use Rattle.std.specs.Prelude.{◌≡◌, cond, ℕ, ◌+◌, ◌-◌, ◌*◌, ◌%◌, ◌^◌, ◌<◌, ◌≤◌, ℤ, pos, negsuc, nat_abs}
use Rattle.std.specs.Int.Signed.{lt_z}
use Rattle.tool_line.specs.declared.Axis.{Axis}
use Rattle.tool_line.specs.declared.Walk.{Walk}
use Rattle.tool_line.specs.Line.{Point, point, Near, side, toward, offset, longer}

-- one place from a toward b
unfoldable pub direction : ℤ → ℤ → ℤ
direction a b = cond (lt_z b a) (negsuc 0) (pos 1)

-- what an axis of a line with longer side m begins with: half the divisor, so that the quotient is rounded, and one less toward greater coordinates, so that an
-- exact half is rounded down there
unfoldable pub half : ℤ → ℤ → ℕ → ℕ
half a b m = cond (lt_z a b) (m - 1) m

-- one axis of a line with longer side m after j steps: its offset, and what the division leaves
unfoldable pub axis_at : ℤ → ℤ → ℕ → ℕ → Axis
axis_at a b m j =
    record {
      at = toward a b (offset a b m j);
      step = direction a b;
      side = side a b;
      rest = (2 * (j * side a b) + half a b m) % (2 * m);
    }

-- both axes of the line from a to b after j steps
unfoldable pub walk_at : Point → Point → ℕ → Walk
walk_at a b j =
    record {
      x = axis_at a.x b.x (longer a b) j;
      y = axis_at a.y b.y (longer a b) j;
      steps = longer a b;
    }

-- the point that a walk stands at
abbrev pub standing : Walk → Point
standing w = point w.x.at w.y.at

-- a walk that stands at step j of the line from a to b, neither of them too far
pub record StandsAt (a b : Point) (j : ℕ) (w : Walk) : Type 0 where
  pub near-start : Near a
  pub near-end : Near b
  pub low : j ≤ longer a b
  pub is : w ≡ walk_at a b j

-- a walk on some line, and not at its end
pub record Walking (w : Walk) : Type 0 where
  pub start : Point
  pub end : Point
  pub done : ℕ
  pub stands : StandsAt start end done w
  pub more : done < longer start end

-- an axis whose next place and rest fit, m the longer side
pub record Fit (c : Axis) (m : ℕ) : Type 0 where
  pub at : nat_abs c.at ≤ 2 ^ 20
  pub step : nat_abs c.step ≤ 1
  pub side : c.side ≤ m
  pub rest : c.rest < 2 * m
  pub steps : m ≤ 2 ^ 20
