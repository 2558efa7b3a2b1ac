-- For all linear values from 0 to 1: each ratio is at most 2, so that the root is asked only from 1/128 to 2, and L, a and b are finite. Each
-- operation keeps a bound on the magnitude. Assumes nothing.
use mathlib.Core.Path.{◌≡◌, refl}
use Prim.Native.Nat.{ℕ, ◌+◌, ◌*◌, ◌^◌, ◌≤◌, ◌<◌}
use native.Mathlib.Omega.{arith}
use mathlib.Core.Bool.{true, false}
use lib.Dec.{T, eqb, leb→le, le→leb, ltb→lt, eqb→eq, lit<, lit≤}
use lib.IntN.{ℤ}
use lib.Ieee.{Float, nan, inf, fin, binary64, up, down, round, add, sub, mul, div, lt, le, eq}
use lib.Ieee.Fits.{and_i, and_l, and_r, down_pos}
use lib.Ieee.Order.{le_of_values}
use Rattle.color_lab.specs.declared.LinearRgb.{LinearRgb}
use Rattle.color_doubles.specs.Arithmetic.{decimal, fraction}
use Rattle.color_root.specs.CubeRoot.{in_root_range}
use Rattle.color_doubles.specs.Range.{AtMost}
use Rattle.color_lab.specs.Convert.{row_of, x_of, y_of, z_of, lab_from, is_linear, LinearValues, FiniteLab}
use Rattle.color_root.proofs.RootRange.{least, most}
use Rattle.color_doubles.proofs.Order.{or-le}
use Rattle.color_doubles.proofs.Magnitude.{Mag, mag-finite, Exact, mul-mag, add-mag, sub-mag, div-mag, at_least}

-- ---- a linear value is at most 1
abbrev zero-double : Float
zero-double = decimal 0 0

abbrev one-double : Float
one-double = decimal 1 0

below-zero : (m : ℕ) (e : ℤ) → T (le zero-double (fin true m e)) → m * up e * 1 ≤ 1 * down e
unfolding decimal round le lt eq
below-zero m e h = none (m * up e) (down e) (eqb→eq (0 * down e) (m * up e * 1) (and_l (eqb (0 * down e) (m * up e * 1)) _ h))
  where
    none : (U D : ℕ) → 0 * D ≡ U * 1 → U * 1 ≤ 1 * D
    none U D e = omega arith

from-zero : (m : ℕ) (e : ℤ) → T (le (fin false m e) one-double) → m * up e * 1 ≤ 1 * down e
unfolding decimal round le lt eq
from-zero m e h = or-le (m * up e * 1) (1 * down e) _ h

linear-mag : (x : Float) → T (is_linear x) → Mag 1 1 x
unfolding is_linear decimal round le lt eq
linear-mag nan h = h
linear-mag (inf true) h = h
linear-mag (inf false) h = h
linear-mag (fin true m e) h = le→leb (m * up e * 1) (1 * down e) (below-zero m e (and_l (le zero-double (fin true m e)) (le (fin true m e) one-double) h))
linear-mag (fin false m e) h = le→leb (m * up e * 1) (1 * down e) (from-zero m e (and_r (le zero-double (fin false m e)) (le (fin false m e) one-double) h))

-- ---- the three ratios are at most 2: the matrix's entries in eighths, b0, b1 and b2, at most 10 together; the white at least 15/16
module _ (v : LinearRgb) (h : LinearValues v) where
  product : (b : ℕ) (x y : Float) → Exact b 8 → T (is_linear x) → Mag b 8 y → Mag b 8 (mul binary64 x y)
  product b x y e l k = mul-mag 1 1 b 8 b 8 x y e (lit< tt) (lit< tt) (omega arith) (linear-mag x l) k

  ratio : (m0 m1 m2 w : Float) (b0 b1 b2 : ℕ) → Mag b0 8 m0 → Mag b1 8 m1 → Mag b2 8 m2
      → Exact b0 8 → Exact b1 8 → Exact b2 8 → Exact (b0 + b1) 8 → Exact (b0 + b1 + b2) 8 → b0 + b1 + b2 ≤ 10 → T (at_least 15 16 w)
      → AtMost 2 (div binary64 (row_of v m0 m1 m2) w)
  unfolding row_of round
  ratio m0 m1 m2 w b0 b1 b2 k0 k1 k2 e0 e1 e2 e01 e012 small white =
      let s1 =
      add-mag b0 8 b1 8 (b0 + b1) 8 _ _ e01 (lit< tt) (lit< tt) (sum8 b0 b1) (product b0 v.r m0 e0 h.r-linear k0) (product b1 v.g m1 e1 h.g-linear k1) in
      let s2 = add-mag (b0 + b1) 8 b2 8 (b0 + b1 + b2) 8 _ _ e012 (lit< tt) (lit< tt) (sum8 (b0 + b1) b2) s1 (product b2 v.b m2 e2 h.b-linear k2) in
      div-mag (b0 + b1 + b2) 8 16 15 2 1 _ w (refl, refl) (lit< tt) (lit< tt) (last (b0 + b1 + b2) small) s2 white
    where
      sum8 : (a b : ℕ) → (a * 8 + b * 8) * 8 ≤ (a + b) * (8 * 8)
      sum8 a b = omega arith

      last : (b : ℕ) → b ≤ 10 → b * 16 * 1 ≤ 2 * (8 * 15)
      last b h = omega arith

  pub x-small : AtMost 2 (x_of v)
  unfolding x_of decimal round
  x-small = ratio _ _ _ _ 4 3 2 tt tt tt (refl, refl) (refl, refl) (refl, refl) (refl, refl) (refl, refl) (lit≤ tt) tt

  pub y-small : AtMost 2 (y_of v)
  unfolding y_of decimal round
  y-small = ratio _ _ _ _ 2 6 1 tt tt tt (refl, refl) (refl, refl) (refl, refl) (refl, refl) (refl, refl) (lit≤ tt) tt

  pub z-small : AtMost 2 (z_of v)
  unfolding z_of decimal round
  z-small = ratio _ _ _ _ 1 1 8 tt tt tt (refl, refl) (refl, refl) (refl, refl) (refl, refl) (refl, refl) (lit≤ tt) tt

-- ---- so the root is asked within its range
-- the double nearest to 216/24389 is 2552698398817899 / 2 ^ 58, above 1/128
pub in-range : (t : Float) → AtMost 2 t → T (lt (fraction 216 24389) t) → T (in_root_range t)
unfolding in_root_range decimal round lt
in-range nan g h = absurd g
in-range (inf s) g h = absurd g
in-range (fin true m e) g h = absurd h
in-range (fin false m e) g h =
    let U = m * up e in
    let D = down e in
    and_i (le least (fin false m e)) (le (fin false m e) most)
    (le_of_values least (fin false m e) 1 128 U D (lit< tt) (down_pos e) (refl, refl) (refl, refl) (lower U D (ltb→lt (2552698398817899 * D) (U * 2 ^ 58) h)))
    (le_of_values (fin false m e) most U D 2 1 (down_pos e) (lit< tt) (refl, refl) (refl, refl) (leb→le (U * 1) (2 * D) g))
  where
    lower : (U D : ℕ) → 2552698398817899 * D < U * 2 ^ 58 → 1 * D ≤ U * 128
    lower U D h = omega arith

-- ---- each f value is at most 32
pub line_small : (t : Float) → AtMost 2 t
    → AtMost 32 (add binary64 (mul binary64 (fraction 841 108) t) (div binary64 (decimal 16 0) (decimal 116 0)))
unfolding decimal round
line_small t h =
    add-mag 16 1 1 1 32 1 _ _ (refl, refl) (lit< tt) (lit< tt) (lit≤ tt)
    (mul-mag 8 1 2 1 16 1 (fraction 841 108) t (refl, refl) (lit< tt) (lit< tt) (lit≤ tt) tt h)
    (div-mag 16 1 1 16 1 1 (decimal 16 0) (decimal 116 0) (refl, refl) (lit< tt) (lit< tt) (lit≤ tt) tt tt)

-- ---- and the results are finite
pub lab-finite : (fx fy fz : Float) → AtMost 32 fx → AtMost 32 fy → AtMost 32 fz → FiniteLab (lab_from fx fy fz)
unfolding lab_from decimal round
lab-finite fx fy fz hx hy hz =
    let p = mul binary64 (decimal 116 0) fy in
    let da = sub binary64 fx fy in
    let db = sub binary64 fy fz in
    let hp = mul-mag 128 1 32 1 4096 1 (decimal 116 0) fy (refl, refl) (lit< tt) (lit< tt) (lit≤ tt) tt hy in
    let ha = sub-mag 32 1 32 1 64 1 fx fy (refl, refl) (lit< tt) (lit< tt) (lit≤ tt) hx hy in
    let hb = sub-mag 32 1 32 1 64 1 fy fz (refl, refl) (lit< tt) (lit< tt) (lit≤ tt) hy hz in
    record {
      l-finite = mag-finite 8192 1 (sub binary64 p (decimal 16 0)) (sub-mag 4096 1 16 1 8192 1 p (decimal 16 0) (refl, refl) (lit< tt) (lit< tt) (lit≤ tt) hp tt);
      a-finite = mag-finite 32768 1 (mul binary64 (decimal 500 0) da) (mul-mag 512 1 64 1 32768 1 (decimal 500 0) da (refl, refl) (lit< tt) (lit< tt) (lit≤ tt) tt ha);
      b-finite = mag-finite 32768 1 (mul binary64 (decimal 200 0) db) (mul-mag 512 1 64 1 32768 1 (decimal 200 0) db (refl, refl) (lit< tt) (lit< tt) (lit≤ tt) tt hb);
    }
