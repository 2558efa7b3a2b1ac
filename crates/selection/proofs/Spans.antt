-- The spans that the code makes fit 16 bits, and two of them clipped are the Rust's rectangle. Assumes nothing.
use mathlib.Core.Path.{◌≡◌}
use mathlib.Core.Bool.{cond, ◌||◌}
use mathlib.Core.Option.{none, some}
use Prim.Native.Nat.{ℕ, ◌^◌, ◌<◌, ◌≤◌}
use native.Mathlib.Omega.{arith}
use lib.Dec.{eqb}
use lib.IntN.{ℤ}
use Rattle.selection_spans.specs.declared.Span.{Span}
use Rattle.selection_spans.specs.Spans.{between, widened}
use Rattle.selection_spans.proofs.Spans.{none_is, half_open}
use Rattle.selection.specs.Asked.{Narrow}
use Rattle.selection.specs.Selection.{rectangle, from_corners}

pub narrow : (a b : ℤ) (side : ℕ) {s : Span} → side ≤ 1024 → s ≡ between a b side → 0 < s.count → Narrow s
narrow a b side h e = rw (e, half_open a b side) (λ k. record { start = omega arith; count = omega arith })

pub clipped : (ax ay bx by : ℤ) (width height : ℕ) {x y : Span} → x ≡ between ax bx width → y ≡ between ay by height
    → cond (eqb x.count 0 || eqb y.count 0) none (some (rectangle x y)) ≡ from_corners ax ay bx by width height
unfolding from_corners
clipped ax ay bx by width height p q = rw (p, q, none_is ax bx width, none_is ay by height)

pub widened-narrow : (start count margin side : ℕ) {s : Span} → start < 2 ^ 16 → side ≤ 1024 → s ≡ widened start count margin side → Narrow s
unfolding widened
widened-narrow start count margin side h k e = rw e (record { start = omega arith; count = omega arith })
