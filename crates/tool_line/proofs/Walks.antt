-- A walk's axis after one step more, and that its numbers fit on the way. Assumes nothing.
use mathlib.Core.Path.{◌≡◌, ap}
use Prim.Native.Nat.{ℕ, ◌+◌, ◌*◌, ◌-◌, ◌%◌, ◌≤◌, ◌<◌}
use native.Mathlib.Nat.{mod-lt}
use native.Mathlib.Omega.{arith}
use lib.IntN.{ℤ, ◌+ℤ◌}
use mathlib.Core.Bool.{false}
use Rattle.base.specs.Ints.{far}
use mir.Syntax.{w32}
use mir.Val.{SFits}
use Rattle.base.proofs.Back.{near-abs}
use Rattle.base.proofs.Sums.{sum_fits}
use Rattle.tool_line.specs.declared.Axis.{Axis}
use Rattle.tool_line.specs.declared.Walk.{Walk}
use Rattle.tool_line.specs.Line.{Point, Near, side, offset, longer}
use Rattle.tool_line.specs.Walk.{direction, half, axis_at, walk_at, StandsAt, Walking, Fit}
use Rattle.tool_line.proofs.Offsets.{offset-first, rest-first, offset-same, rest_more, offset-more, rest-less, offset-few}
use Rattle.tool_line.proofs.Toward.{toward-none, toward-next, toward-abs, direction-abs, side-abs, small}

abbrev made : ℤ → ℤ → ℕ → ℕ → Axis
made at step side rest = record { at = at; step = step; side = side; rest = rest }

pub axis-first : (a b : ℤ) (m : ℕ) → made a (direction a b) (side a b) (half a b m) ≡ axis_at a b m 0
unfolding axis_at
axis-first a b m = rw (offset-first a b m, toward-none a b, rest-first a b m)

-- ---- the next place
pub axis-stays : (m : ℕ) (c : Axis) → c.rest + 2 * c.side < 2 * m → (a b : ℤ) (j : ℕ) → c ≡ axis_at a b m j
    → made c.at c.step c.side (c.rest + 2 * c.side) ≡ axis_at a b m (j + 1)
unfolding axis_at
axis-stays m c h a b j e =
    let k = rw e at h in
    rw (e, offset-same a b m j k, rest_more a b m j k)

pub axis-moves : (m : ℕ) (c : Axis) → 2 * m ≤ c.rest + 2 * c.side → Fit c m → (a b : ℤ) (j : ℕ) → c ≡ axis_at a b m j
    → made (c.at +ℤ c.step) c.step c.side (c.rest + 2 * c.side - 2 * m) ≡ axis_at a b m (j + 1)
unfolding axis_at
axis-moves m c h f a b j e =
    let k = rw e at h in
    let s : side a b ≤ m = rw e at f.side in
    let r : (2 * (j * side a b) + half a b m) % (2 * m) < 2 * m = rw e at f.rest in
    rw (e, offset-more a b m j k s r, rest-less a b m j k s r, toward-next a b (offset a b m j))

-- ---- what fits
pub record Moves (c : Axis) : Type 0 where
  pub at : SFits w32 c.at
  pub step : SFits w32 c.step
  pub next : SFits w32 (c.at +ℤ c.step)

pub moves : (c : Axis) (m : ℕ) → Fit c m → Moves c
moves c m f =
    let h = f.at in
    let k = f.step in
    record { at = small c.at h; step = small c.step (omega arith); next = sum_fits c.at c.step (omega arith) }

pub axis-fits : (a b : ℤ) (m j : ℕ) → far a ≡ false → far b ≡ false → side a b ≤ m → m ≤ 131072 → j < m → Fit (axis_at a b m j) m
unfolding axis_at
axis-fits a b m j p q s l h =
    let k = near-abs a p in
    record {
      at = omega (arith, toward-abs a b (offset a b m j), offset-few a b m j s);
      step = direction-abs a b;
      side = s;
      rest = mod-lt (2 * (j * side a b) + half a b m) (omega arith);
      steps = omega arith;
    }

pub longer-near : (a b : Point) → Near a → Near b → longer a b ≤ 131072
unfolding longer
longer-near a b p q = omega (arith, side-abs a.x b.x, side-abs a.y b.y, near-abs _ p.across, near-abs _ p.down, near-abs _ q.across, near-abs _ q.down)

pub record BothFit (w : Walk) : Type 0 where
  pub x : Fit w.x w.steps
  pub y : Fit w.y w.steps

pub walk-fits : (w : Walk) → Walking w → BothFit w
unfolding walk_at longer
walk-fits w k =
    let a = k.start in
    let b = k.end in
    let s = k.stands in
    let l = longer-near a b s.near-start s.near-end in
    let h = k.more in
    rw s.is (record {
      x = axis-fits a.x b.x (longer a b) k.done s.near-start.across s.near-end.across (omega arith) l h;
      y = axis-fits a.y b.y (longer a b) k.done s.near-start.down s.near-end.down (omega arith) l h;
    })

-- ---- both axes
pub steps-longer : {a b : Point} {j : ℕ} {w : Walk} → StandsAt a b j w → w.steps ≡ longer a b
unfolding walk_at
steps-longer s = ap (λ (v : Walk). v.steps) s.is

pub walk-next : (w : Walk) (x y : Axis) → ((a b : ℤ) (j : ℕ) → w.x ≡ axis_at a b w.steps j → x ≡ axis_at a b w.steps (j + 1))
    → ((a b : ℤ) (j : ℕ) → w.y ≡ axis_at a b w.steps j → y ≡ axis_at a b w.steps (j + 1)) → (a b : Point) (j : ℕ) → StandsAt a b j w → j < longer a b
    → StandsAt a b (j + 1) (record { x = x; y = y; steps = w.steps })
unfolding walk_at
walk-next w x y f g a b j s h =
    let m = steps-longer s in
    let p = f a.x b.x j (rw m (ap (λ (v : Walk). v.x) s.is)) in
    let q = g a.y b.y j (rw m (ap (λ (v : Walk). v.y) s.is)) in
    record { near-start = s.near-start; near-end = s.near-end; low = omega arith; is = rw (p, q, m) }

-- what `step` asks, before the end
pub walking : {a b : Point} {j : ℕ} {w : Walk} → StandsAt a b j w → j < longer a b → Walking w
walking {a} {b} {j} s h = record { start = a; end = b; done = j; stands = s; more = h }
