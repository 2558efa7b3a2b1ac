-- The points of a line lie between its ends. So the rows of a path lie from its least to its greatest, and those of its stamps as far
-- around as the brush reaches. Assumes nothing.
use mathlib.Core.Path.{◌≡◌, refl, sym, ap, ◌∙◌}
use mathlib.Core.Bool.{Bool, true, false, cond}
use mathlib.Core.List.{List, [], ◌∷◌, map, flat_map}
use Prim.Native.Nat.{ℕ, zero, suc, ◌+◌, ◌-◌, ◌*◌, ◌/◌, ◌≤◌, ◌<◌}
use native.Mathlib.Nat.{add-mul, one-mul, div-zero, div-lt_iff_lt-mul, mul-le-mul_right, mul_comm}
use native.Mathlib.Omega.{arith}
use lib.IntN.{ℤ, pos, nat_abs, neg_ℤ, ◌+ℤ◌, ◌-ℤ◌, +ℤ_idr, +ℤ_assoc, +ℤ_comm, neg_ℤ-+ℤ, -ℤ-+ℤ_cancel}
use lib.ListN.{drop}
use lib.Signed.{lt_z, pos-nat_abs}
use Rattle.base.specs.Lists.{range, All}
use Rattle.base.proofs.Each.{all_of, all_map, all_append, all-mapped, all-flat, all-in-range}
use Rattle.base.specs.Ints.{min_z, max_z}
use Rattle.tool_line.specs.Line.{Point, point, side, toward, offset, longer, point_at, line_of}
use Rattle.tool_line.specs.Walk.{half, axis_at, walk_at}
use Rattle.tool_line.specs.Within.{Upto, Spanned}
use Rattle.tool_line.specs.Brush.{clamped, covered, stamp_at, onward, path_of, stamped}
use Rattle.tool_line.proofs.Offsets.{half-few, offset-is}
use Rattle.tool_line.proofs.Toward.{from_less, not_back}
use Rattle.tool_line.proofs.Ends.{toward-side, line_after, path-first}
use Rattle.tool_line.proofs.Points.{point-by-axes}

-- ---- at most
upto-same : (a : ℤ) → Upto a a
upto-same a = record { places = 0; is = sym (+ℤ_idr a) }

pub upto-more : (a : ℤ) (k : ℕ) → Upto a (a +ℤ pos k)
upto-more a k = record { places = k; is = refl }

upto-less : (a : ℤ) (k : ℕ) → Upto (a -ℤ pos k) a
upto-less a k = record { places = k; is = sym (-ℤ-+ℤ_cancel a (pos k)) }

pub upto-on : {a b c : ℤ} → Upto a b → Upto b c → Upto a c
upto-on {a} u v =
    record {
      places = u.places + v.places;
      is = v.is ∙ ap (λ z. z +ℤ pos v.places) u.is ∙ +ℤ_assoc a (pos u.places) (pos v.places);
    }

upto-both : {a b : ℤ} (z : ℤ) → Upto a b → Upto (a +ℤ z) (b +ℤ z)
upto-both {a} z u =
    let k : ℤ = pos u.places in
    record { places = u.places; is = ap (λ y. y +ℤ z) u.is ∙ +ℤ_assoc a k z ∙ ap (λ y. a +ℤ y) (+ℤ_comm k z) ∙ sym (+ℤ_assoc a z k) }

-- what a test tells
pub not-below : (a b : ℤ) → lt_z b a ≡ false → Upto a b
not-below a b e =
    record { places = nat_abs (b -ℤ a); is = sym (ap (λ z. a +ℤ z) (pos-nat_abs (b -ℤ a) (from_less b a e)) ∙ +ℤ_comm a (b -ℤ a) ∙ -ℤ-+ℤ_cancel b a) }

is_below : (a b : ℤ) → lt_z b a ≡ true → Upto b a
is_below a b e = not-below b a (not_back a b e)

-- two places from one start
pub more-apart : (a : ℤ) (k n : ℕ) → k ≤ n → Upto (a +ℤ pos k) (a +ℤ pos n)
more-apart a k n h =
    let e : n ≡ k + (n - k) = omega arith in
    record { places = n - k; is = ap (λ (m : ℕ). a +ℤ pos m) e ∙ sym (+ℤ_assoc a (pos k) (pos (n - k))) }

less-apart : (a : ℤ) (k n : ℕ) → k ≤ n → Upto (a -ℤ pos n) (a -ℤ pos k)
less-apart a k n h =
    let e : k + (n - k) ≡ n = omega arith in
    let s : a -ℤ pos k -ℤ pos (n - k) ≡ a -ℤ pos n =
    +ℤ_assoc a (neg_ℤ (pos k)) (neg_ℤ (pos (n - k))) ∙ ap (λ z. a +ℤ z) (sym (neg_ℤ-+ℤ (pos k) (pos (n - k)))) ∙ ap (λ (m : ℕ). a -ℤ pos m) e in
    rw (← s) (upto-less (a -ℤ pos k) (n - k))

-- ---- the least and the greatest of two
module _ (a b : ℤ) where
  pub first-spanned : Spanned (min_z a b) (max_z a b) a
  unfolding min_z max_z
  first-spanned = record { from = low (lt_z b a) refl; upto = high (lt_z a b) refl }
    where
      low : (t : Bool) → lt_z b a ≡ t → Upto (cond t b a) a
      low true e = is_below a b e
      low false e = upto-same a

      high : (t : Bool) → lt_z a b ≡ t → Upto a (cond t b a)
      high true e = is_below b a e
      high false e = upto-same a

  pub second-spanned : Spanned (min_z a b) (max_z a b) b
  unfolding min_z max_z
  second-spanned = record { from = low (lt_z b a) refl; upto = high (lt_z a b) refl }
    where
      low : (t : Bool) → lt_z b a ≡ t → Upto (cond t b a) b
      low true e = upto-same b
      low false e = not-below a b e

      high : (t : Bool) → lt_z a b ≡ t → Upto b (cond t b a)
      high true e = upto-same b
      high false e = not-below b a e

-- ---- on the way from a to b
offset-within : (a b : ℤ) (m j : ℕ) → side a b ≤ m → j ≤ m → offset a b m j ≤ side a b
offset-within a b m j h k = rw (offset-is a b m j) (by m (half a b m) (half-few a b m) (side a b) k)
  where
    by : (m t : ℕ) → t ≤ m → (n : ℕ) → j ≤ m → (2 * (j * n) + t) / (2 * m) ≤ n
    by zero t h n k = rw (div-zero (2 * (j * n) + t)) (omega arith)
    by (suc m) t h n k =
        let d : ℕ = 2 * suc m in
        let less : 2 * (j * n) + t < (n + 1) * d = omega (arith, mul-le-mul_right n k, add-mul n 1 d, one-mul d, mul_comm n d, mul_comm n (suc m)) in
        omega (arith, (div-lt_iff_lt-mul {k = d} {x = 2 * (j * n) + t} {y = n + 1} (omega arith)).1 less)

module _ (low high : ℤ) where
  toward-spanned : (a b : ℤ) (k : ℕ) → k ≤ side a b → Spanned low high a → Spanned low high b → Spanned low high (toward a b k)
  unfolding toward
  toward-spanned a b k h p q = by (lt_z b a) (toward-side a b)
    where
      by : (t : Bool) → cond t (a -ℤ pos (side a b)) (a +ℤ pos (side a b)) ≡ b → Spanned low high (cond t (a -ℤ pos k) (a +ℤ pos k))
      by true e = record { from = upto-on q.from (rw (← e) (less-apart a k (side a b) h)); upto = upto-on (upto-less a k) p.upto }
      by false e = record { from = upto-on p.from (upto-more a k); upto = upto-on (rw (← e) (more-apart a k (side a b) h)) q.upto }

  -- a point in these rows
  abbrev pub Down : Point → Type 0
  Down p = Spanned low high p.y

  point-down : (a b : Point) (j : ℕ) → j ≤ longer a b → Down a → Down b → Down (point_at a b j)
  unfolding walk_at axis_at longer
  point-down a b j h p q =
      rw (← point-by-axes a b j h)
      (toward-spanned a.y b.y (offset a.y b.y (longer a b) j) (offset-within a.y b.y (longer a b) j (omega arith) h) p q)

  line-down : (a b : Point) → Down a → Down b → All Down (drop 1 (line_of a b))
  line-down a b p q =
      rw (line_after a b)
      (all-mapped Down (point_at a b) (range 1 (longer a b))
      (all-in-range (λ j. Down (point_at a b j)) 1 (longer a b) (λ j h k. point-down a b j (omega arith) p q)))

  onward-down : (p : Point) (ps : List Point) → Down p → All Down ps → All Down (onward p ps)
  unfolding onward All
  onward-down p [] h a = tt
  onward-down p (q ∷ ps) h a = all_append Down (drop 1 (line_of p q)) (onward q ps) (line-down p q h a.0) (onward-down q ps a.0 a.1)

  pub path-down : (ps : List Point) → All Down ps → All Down (path_of ps)
  unfolding path_of All
  path-down [] a = tt
  path-down (p ∷ ps) a = rw (path-first p ps) (a.0, onward-down p ps a.0 a.1)

  -- ---- the stamps of a brush of n
  module _ (n : ℕ) where
    abbrev above : ℤ
    above = low -ℤ pos ((n - 1) / 2)

    abbrev below : ℤ
    below = high -ℤ pos ((n - 1) / 2) +ℤ pos (n - 1)

    covered-spanned : (z : ℤ) → Spanned low high z → All (Spanned above below) (covered n z)
    unfolding covered
    covered-spanned z s =
        let h : ℤ = neg_ℤ (pos ((n - 1) / 2)) in
        all-mapped (Spanned above below) (λ (i : ℕ). z +ℤ h +ℤ pos i) (range 0 n)
        (all-in-range _ 0 n (λ i a b. record {
          from = upto-on (upto-both h s.from) (upto-more (z +ℤ h) i);
          upto = upto-on (more-apart (z +ℤ h) i (n - 1) (omega arith)) (upto-both (pos (n - 1)) (upto-both h s.upto));
        }))

-- a stamp, and all of them
module _ (low high : ℤ) (size : ℕ) where
  abbrev Reached : Point → Type 0
  Reached = Down (above low high (clamped size)) (below low high (clamped size))

  stamp-down : (p : Point) → Down low high p → All Reached (stamp_at size p)
  unfolding stamp_at
  stamp-down p s =
      all-flat Reached (λ (y : ℤ). map (λ (x : ℤ). point x y) (covered (clamped size) p.x)) (covered (clamped size) p.y)
      (all_map {P = Spanned (above low high (clamped size)) (below low high (clamped size))}
      (λ y r. all-mapped Reached (λ (x : ℤ). point x y) (covered (clamped size) p.x) (all_of (λ x. r) (covered (clamped size) p.x)))
      (covered (clamped size) p.y) (covered-spanned low high (clamped size) p.y s))

  pub stamps-down : (ps : List Point) → All (Down low high) ps → All Reached (stamped size ps)
  unfolding stamped
  stamps-down ps a = all-flat Reached (stamp_at size) (path_of ps) (all_map stamp-down (path_of ps) (path-down low high ps a))
