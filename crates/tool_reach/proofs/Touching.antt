-- A brush touches a region exactly from its reach before the region's start to its reach past the region's end, on both axes. Assumes nothing.
use mathlib.Core.Path.{◌≡◌, refl, sym, ap, ◌∙◌}
use mathlib.Core.Bool.{Bool, true, false, not, ◌&&◌}
use mathlib.Core.List.{List, [], ◌∷◌, ◌++◌, map, flat_map}
use Prim.Native.Nat.{ℕ, zero, suc, ◌+◌, ◌-◌, ◌/◌, ◌≤◌, ◌<◌, min, max}
use native.Mathlib.Omega.{arith}
use borrow.Author.Tests.{ltb-true, ltb-false, leb-true, leb-false, lt-ltb, le-ltb, le-leb, lt-leb}
use lib.Dec.{leb, ltb}
use lib.IntN.{ℤ, pos, negsuc, nat_abs, neg_ℤ, ◌+ℤ◌, ◌-ℤ◌, +ℤ_assoc, +ℤ_comm, neg_ℤ-+ℤ, neg_ℤ-neg_ℤ, -ℤ-+ℤ_cancel}
use lib.Signed.{lt_z}
use mir.Syntax.{w32}
use mir.Val.{SFits, to_z}
use Rattle.base.specs.Ints.{from_zero, up_to}
use Rattle.base.proofs.Sums.{abs-sum}
use Rattle.selection.specs.declared.Selection.{Selection}
use Rattle.tool_line.specs.declared.Steps.{Steps}
use Rattle.tool_line.specs.Line.{Point, longer, point_at}
use Rattle.tool_line.specs.Walk.{axis_at, walk_at}
use Rattle.tool_line.specs.Steps.{place_on, among, lies_in, Bound}
use Rattle.tool_line.proofs.Order.{same-order, no-more-than}
use Rattle.tool_line.proofs.Points.{point-by-axes}
use Rattle.tool_line.proofs.Toward.{abs_neg, small, nat-back}
use Rattle.tool_stamp.specs.Places.{clipped, Brush}
use Rattle.tool_reach.specs.Touching.{touches, touches_region, Touched}

-- ---- counts beside a number
below : (k : ℕ) (t : ℤ) → 0 < k → ltb (from_zero t) k ≡ lt_z t (pos k)
unfolding from_zero
below k (pos n) h = refl
below k (negsuc n) h = lt-ltb 0 k h

last-past : (t : ℤ) (k : ℕ) → 0 < up_to (t +ℤ pos k) → from_zero t < up_to (t +ℤ pos k)
unfolding from_zero up_to
last-past (pos n) k h = omega arith
last-past (negsuc n) k h = h

-- something is left of a run that starts below the end and stops past the start
left_over : (first past from end : ℕ) → from < end → (0 < past → first < past)
    → ltb 0 (min past end - min (max first from) end) ≡ not (leb past from) && ltb first end
left_over first past from end h f = by (leb past from) refl (ltb first end) refl
  where
    left : ℕ
    left = min past end - min (max first from) end

    by : (t : Bool) → leb past from ≡ t → (u : Bool) → ltb first end ≡ u → ltb 0 left ≡ not t && u
    by true p u q = le-ltb 0 left (omega (arith, leb-true past from p))
    by false p true q = let k = leb-false past from p in lt-ltb 0 left (omega (arith, ltb-true first end q, f (omega arith)))
    by false p false q = le-ltb 0 left (omega (arith, ltb-false first end q))

-- ---- one axis
module _ (n : ℕ) (b : Brush n) (z : ℤ) (from end : ℕ) where
  abbrev before : ℕ
  before = (n - 1) / 2

  abbrev behind : ℕ
  behind = n - 1 - before

  abbrev first : ℤ
  first = z -ℤ pos before

  -- its last place
  last-is : first +ℤ pos (n - 1) ≡ z +ℤ pos behind
  last-is =
      let e : n - 1 ≡ before + behind = omega arith in
      ap (λ k. first +ℤ pos k) e ∙ sym (+ℤ_assoc first (pos before) (pos behind)) ∙ ap (λ u. u +ℤ pos behind) (-ℤ-+ℤ_cancel z (pos before))

  starts-below : 0 < end → ltb (from_zero first) end ≡ lt_z z (pos (end + before))
  starts-below h =
      below end first h
      ∙ sym (same-order z (pos (end + before)) first (pos end) (ap (λ u. z +ℤ u) back ∙ sym (+ℤ_assoc z (neg_ℤ (pos before)) (neg_ℤ (pos end)))))
    where
      back : neg_ℤ (pos (end + before)) ≡ neg_ℤ (pos before) +ℤ neg_ℤ (pos end)
      back = neg_ℤ-+ℤ (pos end) (pos before) ∙ +ℤ_comm (neg_ℤ (pos end)) (neg_ℤ (pos before))

  ends-before : leb (up_to (first +ℤ pos (n - 1))) from ≡ lt_z z (pos from -ℤ pos behind)
  ends-before =
      ap (λ u. leb (up_to u) from) last-is ∙ no-more-than from (z +ℤ pos behind)
      ∙ sym (same-order z (pos from -ℤ pos behind) (z +ℤ pos behind) (pos from) moved)
    where
      back : neg_ℤ (pos from -ℤ pos behind) ≡ pos behind -ℤ pos from
      back =
          neg_ℤ-+ℤ (pos from) (neg_ℤ (pos behind)) ∙ ap (λ u. neg_ℤ (pos from) +ℤ u) (neg_ℤ-neg_ℤ (pos behind)) ∙ +ℤ_comm (neg_ℤ (pos from)) (pos behind)

      moved : z -ℤ (pos from -ℤ pos behind) ≡ z +ℤ pos behind -ℤ pos from
      moved = ap (λ u. z +ℤ u) back ∙ sym (+ℤ_assoc z (pos behind) (neg_ℤ (pos from)))

  pub touches_none : end ≤ from → (j : ℕ) → among (record { first = 0; end = 0 }) j ≡ touches n z from end
  unfolding among touches clipped
  touches_none h j = rw (le-ltb j 0 (omega arith), le-leb 0 j (omega arith)) (sym (nothing h))
    where
      nothing : end ≤ from → ltb 0 (min (up_to (first +ℤ pos (n - 1))) end - min (max (from_zero first) from) end) ≡ false
      nothing h = le-ltb 0 (min (up_to (first +ℤ pos (n - 1))) end - min (max (from_zero first) from) end) (omega arith)

  pub touches-within : from < end → touches n z from end ≡ lies_in (pos from -ℤ pos behind) (pos (end + before)) z
  unfolding touches clipped lies_in
  touches-within h =
      left_over (from_zero first) (up_to (first +ℤ pos (n - 1))) from end h (last-past first (n - 1)) ∙ rw (starts-below (omega arith), ends-before)

-- ---- its numbers fit
module _ (n : ℕ) (b : Brush n) (from end : ℕ) (p : from ≤ 1024) (q : end ≤ 1024) where
  abbrev reach : ℕ
  reach = n - 1 - (n - 1) / 2

  pub low-is : to_z w32 from -ℤ to_z w32 reach ≡ pos from -ℤ pos reach
  low-is = let m = b.most in rw (nat-back from (omega arith), nat-back reach (omega arith))

  low-few : nat_abs (pos from -ℤ pos reach) ≤ 1032
  low-few = let m = b.most in omega (arith, abs-sum (pos from) (neg_ℤ (pos reach)), abs_neg (pos reach))

  pub low_fits : SFits w32 (pos from -ℤ pos reach)
  low_fits = small (pos from -ℤ pos reach) (omega (arith, low-few))

  pub low-bound : Bound (pos from -ℤ pos reach)
  unfolding Bound
  low-bound = omega (arith, low-few)

  pub high_is : to_z w32 (end + (n - 1) / 2) ≡ pos (end + (n - 1) / 2)
  high_is = let m = b.most in nat-back (end + (n - 1) / 2) (omega arith)

  pub high-bound : Bound (pos (end + (n - 1) / 2))
  unfolding Bound
  high-bound = let m = b.most in omega arith

-- ---- both axes
pub and-false : (t : Bool) → t && false ≡ false
and-false true = refl
and-false false = refl

both-among : (x y : Steps) (m j : ℕ) → 1 ≤ j → j ≤ m
    → among (record { first = max 1 (max x.first y.first); end = min (m + 1) (min x.end y.end) }) j ≡ among x j && among y j
unfolding among
both-among x y m j h k = by (leb x.first j) refl (ltb j x.end) refl (leb y.first j) refl (ltb j y.end) refl
  where
    first : ℕ
    first = max 1 (max x.first y.first)

    end : ℕ
    end = min (m + 1) (min x.end y.end)

    by : (s : Bool) → leb x.first j ≡ s → (t : Bool) → ltb j x.end ≡ t → (u : Bool) → leb y.first j ≡ u → (v : Bool) → ltb j y.end ≡ v
        → leb first j && ltb j end ≡ (s && t) && (u && v)
    by true p true q true r v o = rw (le-leb first j (omega (arith, leb-true x.first j p, leb-true y.first j r))) (ends v o)
      where
        ends : (v : Bool) → ltb j y.end ≡ v → ltb j end ≡ v
        ends true o = lt-ltb j end (omega (arith, ltb-true j x.end q, ltb-true j y.end o))
        ends false o = le-ltb j end (omega (arith, ltb-false j y.end o))
    by true p true q false r v o = rw (lt-leb first j (omega (arith, leb-false y.first j r)))
    by true p false q u r v o = rw (le-ltb j end (omega (arith, ltb-false j x.end q))) (and-false (leb first j))
    by false p t q u r v o = rw (lt-leb first j (omega (arith, leb-false x.first j p)))

pub both-touched : (region : Selection) (n : ℕ) (a b : Point) (x y : Steps)
    → ((j : ℕ) → j ≤ longer a b → among x j ≡ touches n (place_on a.x b.x (longer a b) j) region.x (region.x + region.w))
    → ((j : ℕ) → j ≤ longer a b → among y j ≡ touches n (place_on a.y b.y (longer a b) j) region.y (region.y + region.h))
    → Touched region n a b (record { first = max 1 (max x.first y.first); end = min (longer a b + 1) (min x.end y.end) })
unfolding touches_region walk_at axis_at place_on
both-touched region n a b x y f g =
    record {
      after = omega arith;
      upto = omega arith;
      exactly = λ j h k. both-among x y (longer a b) j h k ∙ rw (f j k, g j k) (ap (touches_region region n) (point-by-axes a b j k));
    }
