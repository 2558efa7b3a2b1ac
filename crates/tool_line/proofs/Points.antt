-- A walk stands at the line's points, one after the other; and their coordinates in a buffer. Assumes nothing.
use mathlib.Core.Path.{◌≡◌, refl, sym, ap, ◌∙◌}
use mathlib.Core.Bool.{false}
use mathlib.Core.List.{List, [], ◌∷◌, ◌++◌, map, map-append}
use Prim.Native.Nat.{ℕ, ◌+◌, ◌*◌, ◌^◌, ◌<◌, ◌≤◌}
use native.Mathlib.Omega.{arith}
use lib.IntN.{ℤ, nat_abs}
use lib.ListN.{length, set, length-map}
use Rattle.base.specs.Lists.{range, over}
use Rattle.base.proofs.Over.{over-pair}
use Rattle.base.proofs.Scan.{or_left, or_right}
use Rattle.base.proofs.Collect.{length-range, range-next, flat_map-append, flat_map-one, length-flat_map}
use Rattle.base.specs.Ints.{far}
use Rattle.base.proofs.Back.{near-abs}
use Rattle.tool_line.specs.declared.Walk.{Walk}
use Rattle.tool_line.specs.Line.{Point, point, Near, far_point, side, toward, offset, longer, point_at, line_of, coordinates, flat}
use Rattle.tool_line.specs.Walk.{axis_at, walk_at, standing, StandsAt}
use Rattle.tool_line.proofs.Offsets.{offset-few}
use Rattle.tool_line.proofs.Toward.{toward-abs}
use Rattle.tool_line.proofs.Walks.{longer-near}
use Rattle.tool_line.proofs.Ends.{point-axes}

pub near : {p : Point} → far_point p ≡ false → Near p
unfolding far_point
near {p} e = record { across = or_left (far p.x) (far p.y) e; down = or_right (far p.x) (far p.y) e }

-- ---- a walk's place is the closed form's
pub point-by-axes : (a b : Point) (j : ℕ) → j ≤ longer a b → standing (walk_at a b j) ≡ point_at a b j
unfolding walk_at axis_at
point-by-axes = point-axes

pub stands-point : {a b : Point} {j : ℕ} {w : Walk} → StandsAt a b j w → standing w ≡ point_at a b j
stands-point {a} {b} {j} s = ap (λ (v : Walk). standing v) s.is ∙ point-by-axes a b j s.low

-- and it is small: sums of it with another small number fit
pub record Small (p : Point) : Type 0 where
  pub across : nat_abs p.x ≤ 2 ^ 18
  pub down : nat_abs p.y ≤ 2 ^ 18

pub stands-small : {a b : Point} {j : ℕ} {w : Walk} → StandsAt a b j w → Small (standing w)
unfolding walk_at axis_at longer
stands-small {a} {b} {j} s =
    let l = longer-near a b s.near-start s.near-end in
    let h = s.low in
    let m = longer a b in
    rw s.is (record {
      across = omega (arith, near-abs a.x s.near-start.across, toward-abs a.x b.x (offset a.x b.x m j), offset-few a.x b.x m j (omega arith));
      down = omega (arith, near-abs a.y s.near-start.down, toward-abs a.y b.y (offset a.y b.y m j), offset-few a.y b.y m j (omega arith));
    })

-- ---- the first n points
abbrev pub firsts : Point → Point → ℕ → List Point
firsts a b n = map (point_at a b) (range 0 n)

length-firsts : (a b : Point) (n : ℕ) → length (firsts a b n) ≡ n
length-firsts a b n = length-map (range 0 n) (point_at a b) ∙ length-range 0 n

pub length-line : (a b : Point) → length (line_of a b) ≡ longer a b + 1
unfolding line_of
length-line a b = length-firsts a b (longer a b + 1)

length-flat : (ps : List Point) → length (flat ps) ≡ 2 * length ps
unfolding flat
length-flat ps = length-flat_map coordinates 2 (λ p. refl) ps ∙ omega arith

flat-next : (a b : Point) (n : ℕ) → flat (firsts a b (n + 1)) ≡ flat (firsts a b n) ++ coordinates (point_at a b n)
unfolding flat
flat-next a b n =
    ap flat (ap (map (point_at a b)) (range-next 0 n) ∙ map-append (point_at a b) (range 0 n) ((0 + n) ∷ []) ∙ ap (λ k. firsts a b n ++ (point_at a b k ∷ [])) (omega arith))
    ∙ flat_map-append coordinates (firsts a b n) (point_at a b n ∷ [])
    ∙ ap (λ l. flat (firsts a b n) ++ l) (flat_map-one coordinates (point_at a b n))

-- the point after the first n, written behind them
pub points-step : (a b : Point) (n : ℕ) (p : Point) (l : List ℤ) → p ≡ point_at a b n → 2 * n + 1 < length l
    → set (set (over (flat (firsts a b n)) l) (2 * n) p.x) (2 * n + 1) p.y ≡ over (flat (firsts a b (n + 1))) l
points-step a b n p l e h =
    over-pair (flat (firsts a b n)) l (2 * n) p.x p.y (length-flat (firsts a b n) ∙ ap (λ k. 2 * k) (length-firsts a b n)) h
    ∙ ap (λ f. over f l) (ap (λ (q : Point). flat (firsts a b n) ++ coordinates q) e ∙ sym (flat-next a b n))
