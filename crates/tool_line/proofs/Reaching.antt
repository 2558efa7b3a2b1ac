-- The first step at which an axis has gone k places: by the closed form it is a quotient, rounded up; and so the steps between two places. Assumes nothing.
use mathlib.Core.Path.{◌≡◌, refl, sym, ap, ◌∙◌}
use mathlib.Core.Bool.{Bool, true, false, not, cond, ◌&&◌, not-not}
use Prim.Native.Nat.{ℕ, zero, suc, ◌+◌, ◌-◌, ◌*◌, ◌/◌, ◌≤◌, ◌<◌}
use native.Mathlib.Nat.{add-mul, one-mul, mul_comm, mul_left_comm, mul-le-mul, mul-le-mul_right, div-zero, le-div_iff_mul-le, div-lt_iff_lt-mul}
use native.Mathlib.Omega.{arith}
use borrow.Author.Tests.{leb-true, leb-false, le-leb, lt-leb, le-ltb, lt-ltb, ltb-true, ltb-false}
use lib.Dec.{leb, ltb}
use lib.IntN.{ℤ, pos, nat_abs, neg_ℤ, ◌-ℤ◌}
use lib.Signed.{lt_z}
use mir.Syntax.{w32}
use mir.Val.{SFits}
use Rattle.base.specs.Ints.{far, from_zero, up_to}
use Rattle.base.proofs.Back.{near-abs}
use Rattle.base.proofs.Sums.{sum_fits}
use Rattle.tool_line.specs.Line.{Point, Near, side, toward, offset, longer}
use Rattle.tool_line.specs.Walk.{half}
use Rattle.tool_line.specs.declared.Steps.{Steps}
use Rattle.tool_line.specs.Steps.{OfLine, place_on, among, lies_in, Bound}
use Rattle.tool_line.proofs.Offsets.{offset-is, offset-few, half-few}
use Rattle.tool_line.proofs.Order.{below_up, below-down}
use Rattle.tool_line.proofs.Toward.{abs_neg, toward-abs, small}
use Rattle.tool_line.proofs.Walks.{longer-near}

leb-same : (a b c d : ℕ) → (a ≤ b → c ≤ d) → (c ≤ d → a ≤ b) → leb a b ≡ leb c d
leb-same a b c d f g = by (leb a b) refl (leb c d) refl
  where
    by : (t : Bool) → leb a b ≡ t → (u : Bool) → leb c d ≡ u → t ≡ u
    by true p true q = refl
    by true p false q = absurd (omega (arith, f (leb-true a b p), leb-false c d q))
    by false p true q = absurd (omega (arith, g (leb-true c d q), leb-false a b p))
    by false p false q = refl

-- ---- the first step
-- what is missing at the start to k places, in parts of which a place has twice the longer side
abbrev pub missing : ℤ → ℤ → ℕ → ℕ → ℕ
missing a b m k = 2 * (k * m) - half a b m

-- r is the first step at which the axis has gone k places
unfoldable pub First : ℤ → ℤ → ℕ → ℕ → ℕ → Type 0
First a b m k r = (j : ℕ) → j ≤ m → leb r j ≡ leb k (offset a b m j)

module _ (a b : ℤ) (m : ℕ) (o : OfLine a b m) (k : ℕ) where
  abbrev n : ℕ
  n = side a b

  pub at-start : k ≡ 0 → First a b m k 0
  unfolding First
  at-start e j h = rw (le-leb 0 j (omega arith), le-leb k (offset a b m j) (omega arith))

  pub never-so-far : n < k → First a b m k (m + 1)
  unfolding First
  never-so-far l j h = rw (lt-leb (m + 1) j (omega arith), lt-leb k (offset a b m j) (rw (offset-is a b m j) (by m (half a b m) (half-few a b m) h)))
    where
      by : (m t : ℕ) → t ≤ m → j ≤ m → (2 * (j * n) + t) / (2 * m) < k
      by zero t p q = rw (div-zero (2 * (j * n) + t)) (omega arith)
      by (suc m) t p q =
          let u : n + 1 ≤ k = omega arith in
          (div-lt_iff_lt-mul {k = 2 * suc m} {x = 2 * (j * n) + t} {y = k} (omega arith)).1
          (omega (arith, mul-le-mul_right n q, mul-le-mul_right (suc m) u, add-mul n 1 (suc m), one-mul (suc m), mul_left_comm k 2 (suc m), mul_comm n (suc m)))

  module _ (some : 0 < k) (l : k ≤ n) where
    whole : m ≤ k * m
    whole = let u : 1 ≤ k = some in omega (arith, mul-le-mul_right m u, one-mul m)

    pub enough : half a b m ≤ 2 * (k * m)
    enough = omega (arith, half-few a b m, whole)

    pub few : k * m ≤ 17179869184
    few = let s = o.shorter in let t = o.long in let u : k ≤ 131072 = omega arith in mul-le-mul u t

    pub rounded-up : First a b m k ((missing a b m k + 2 * n - 1) / (2 * n))
    unfolding First
    rounded-up j h =
        let s = o.shorter in
        let up = div-lt_iff_lt-mul {k = 2 * n} {x = missing a b m k + 2 * n - 1} {y = j + 1} (omega arith) in
        let gone = le-div_iff_mul-le {k = 2 * m} {x = k} {y = 2 * (j * n) + half a b m} (omega arith) in
        rw (offset-is a b m j)
        (leb-same _ j k _
        (λ p. gone.1 (omega (arith, up.0 (omega arith), enough, add-mul j 1 (2 * n), one-mul (2 * n), mul_left_comm j 2 n, mul_left_comm k 2 m)))
        (λ p. omega (arith, up.1 (omega (arith, gone.0 p, enough, add-mul j 1 (2 * n), one-mul (2 * n), mul_left_comm j 2 n, mul_left_comm k 2 m)))))

-- ---- the steps between two places
not-leb : (i j : ℕ) → ltb j i ≡ not (leb i j)
not-leb i j = by (leb i j) refl
  where
    by : (t : Bool) → leb i j ≡ t → ltb j i ≡ not t
    by true e = le-ltb j i (leb-true i j e)
    by false e = lt-ltb j i (leb-false i j e)

le_not : (i j : ℕ) → leb i j ≡ not (ltb j i)
le_not i j = rw (not-leb i j) (sym (not-not (leb i j)))

and-swap : (s t : Bool) → s && t ≡ t && s
and-swap true true = refl
and-swap true false = refl
and-swap false true = refl
and-swap false false = refl

module _ (a b : ℤ) (m : ℕ) (lo hi : ℤ) (first end : ℕ) where
  abbrev found : Steps
  found = record { first = first; end = end }

  pub within-up : lt_z b a ≡ false → First a b m (from_zero (lo -ℤ a)) first → First a b m (from_zero (hi -ℤ a)) end
      → (j : ℕ) → j ≤ m → among found j ≡ lies_in lo hi (place_on a b m j)
  unfolding First among lies_in place_on toward
  within-up e f g j h =
      let k = offset a b m j in
      rw (e, not-leb end j, f j h, g j h, ← below_up a lo k, ← below_up a hi k) (rw (le_not (from_zero (lo -ℤ a)) k, not-leb (from_zero (hi -ℤ a)) k))

  pub within-down : lt_z b a ≡ true → First a b m (up_to (a -ℤ hi)) first → First a b m (up_to (a -ℤ lo)) end
      → (j : ℕ) → j ≤ m → among found j ≡ lies_in lo hi (place_on a b m j)
  unfolding First among lies_in place_on toward
  within-down e f g j h =
      let k = offset a b m j in
      rw (e, not-leb end j, f j h, g j h, ← below-down a lo k, ← below-down a hi k) (and-swap (leb (up_to (a -ℤ hi)) k) (not (leb (up_to (a -ℤ lo)) k)))

-- ---- both axes of a line
pub record BothOf (a b : Point) (m : ℕ) : Type 0 where
  pub x : OfLine a.x b.x m
  pub y : OfLine a.y b.y m

pub both-of : (a b : Point) → Near a → Near b → BothOf a b (longer a b)
unfolding longer
both-of a b p q =
    let l = longer-near a b p q in
    record {
      x = record { near-start = p.across; near-end = q.across; shorter = omega arith; long = l };
      y = record { near-start = p.down; near-end = q.down; shorter = omega arith; long = l };
    }

-- ---- an axis at step j
module _ (a b : ℤ) (m : ℕ) (o : OfLine a b m) (j : ℕ) (h : j < m) where
  pub gone-few : j * side a b ≤ 17179869184
  gone-few = let s = o.shorter in let l = o.long in let u : j ≤ 131072 = omega arith in let v : side a b ≤ 131072 = omega arith in mul-le-mul u v

  pub sum-few : 2 * (j * side a b) + half a b m ≤ 34359869440
  sum-few = let l = o.long in omega (arith, gone-few, half-few a b m)

  pub places-few : (2 * (j * side a b) + half a b m) / (2 * m) ≤ 131072
  places-few = let l = o.long in rw (← offset-is a b m j) (omega (arith, offset-few a b m j o.shorter))

  pub stands-fits : SFits w32 (toward a b (offset a b m j))
  stands-fits = let l = o.long in small _ (omega (arith, near-abs a o.near-start, toward-abs a b (offset a b m j), offset-few a b m j o.shorter))

-- ---- what fits
module _ (a z : ℤ) (p : far a ≡ false) (b : Bound z) where
  small-sum : nat_abs a + nat_abs z ≤ 327680
  unfolding Bound
  small-sum = omega (arith, near-abs a p)

  pub way-fits : SFits w32 (z -ℤ a)
  way-fits = sum_fits z (neg_ℤ a) (omega (arith, small-sum, abs_neg a))

  pub way-back-fits : SFits w32 (a -ℤ z)
  way-back-fits = sum_fits a (neg_ℤ z) (omega (arith, small-sum, abs_neg z))
