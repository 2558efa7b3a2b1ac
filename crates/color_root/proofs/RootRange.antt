-- The numbers from 1/128 to 2, whose root is asked: they are no NaN, and lie between two patterns. Assumes nothing.
use mathlib.Core.Path.{◌≡◌, refl, sym, ap, ◌∙◌, subst}
use mathlib.Core.Logic.{◌⊎◌, inl, inr}
use Prim.Native.Nat.{ℕ, ◌+◌, ◌-◌, ◌*◌, ◌/◌, ◌^◌, ◌≤◌, ◌<◌}
use native.Mathlib.Nat.{le_trans, le_of_eq, lt_of_lt_of_le, lt_of_le_of_lt, lt_irrefl, mul_assoc, mul_comm, mul_left_comm, mul-le-mul_left, mul-le-mul_right, le-div_iff_mul-le, div-le_of_le-mul, eq-or-lt_of_le}
use native.Mathlib.Omega.{arith}
use mathlib.Core.Bool.{true, false, not}
use lib.Dec.{T, lit<}
use lib.Pow.{pow_pos, pow_mono, pow-lt, pow-add}
use lib.IntN.{ℤ, pos, negsuc}
use lib.Ieee.{Float, nan, inf, fin, binary64, size, up, down, le, is_nan, to_bits, round}
use lib.Ieee.Digits.{size-lt, size_reaches, size-le}
use lib.Ieee.Fits.{kept-lt, down_pos, and_l, and_r}
use lib.Ieee.Positive.{positive, between, le→cross}
use Rattle.color_doubles.specs.Arithmetic.{decimal}
use Rattle.color_root.specs.CubeRoot.{in_root_range}

positive-no-nan : (x : Float) → T (positive x) → T (not (is_nan x))
unfolding is_nan
positive-no-nan nan p = p
positive-no-nan (inf s) p = tt
positive-no-nan (fin s m e) p = tt

-- ---- the patterns
-- n is the magnitude in units of 2 ^ -1074
abbrev pattern : ℕ → ℕ
pattern n = (size n - 53) * 2 ^ 52 + n / 2 ^ (size n - 53)

long : (n : ℕ) → 2 ^ 1067 ≤ n → 1067 < size n
long n h = flip (size n) (λ (l : size n ≤ 1067). lt_irrefl n (lt_of_lt_of_le (size-lt n) (le_trans (pow_mono l) h)))
  where
    flip : (s : ℕ) → (s ≤ 1067 → ⊥) → 1067 < s
    flip s f = omega arith

low-bound : (s k r : ℕ) → 1067 < s → k ≡ s - 53 → 2 ^ 52 ≤ r → 0x3f80_0000_0000_0000 ≤ k * 2 ^ 52 + r
low-bound s k r h e l = omega arith

leading : (n : ℕ) → 2 ^ 1067 ≤ n → 2 ^ 52 ≤ n / 2 ^ (size n - 53)
leading n h =
    (le-div_iff_mul-le (pow_pos (size n - 53))).1
    (le_trans (le_of_eq (sym (pow-add 2 52 (size n - 53)))) (size_reaches n (52 + (size n - 53)) (inside (size n) (long n h))))
  where
    inside : (s : ℕ) → 1067 < s → 52 + (s - 53) < s
    inside s h = omega arith

pattern-low : (n : ℕ) → 2 ^ 1067 ≤ n → 0x3f80_0000_0000_0000 ≤ pattern n
pattern-low n h = low-bound (size n) (size n - 53) (n / 2 ^ (size n - 53)) (long n h) refl (leading n h)

high-bound : (s k r : ℕ) → s < 1076 → k ≡ s - 53 → r < 2 ^ 53 → k * 2 ^ 52 + r ≤ 0x4000_0000_0000_0000
high-bound s k r h e l = omega arith

pattern-high : (n : ℕ) → n ≤ 2 ^ 1075 → pattern n ≤ 0x4000_0000_0000_0000
pattern-high n h = go (eq-or-lt_of_le (size-le n 1076 (lt_of_le_of_lt h (pow-lt {i = 1075} {j = 1076} (lit< tt)))))
  where
    at-two : (r : ℕ) → r ≤ 2 ^ 52 → 1023 * 2 ^ 52 + r ≤ 0x4000_0000_0000_0000
    at-two r l = omega arith

    go : (size n ≡ 1076) ⊎ (size n < 1076) → pattern n ≤ 0x4000_0000_0000_0000
    go (inl e) = subst (λ (s : ℕ). (s - 53) * 2 ^ 52 + n / 2 ^ (s - 53) ≤ 0x4000_0000_0000_0000) (sym e) (at-two (n / 2 ^ 1023) (div-le_of_le-mul (2 ^ 1023) h))
    go (inr l) = high-bound (size n) (size n - 53) (n / 2 ^ (size n - 53)) l refl (kept-lt 53 n)

scale-low : (U D : ℕ) → D ≤ U * 128 → 2 ^ 1067 * D ≤ U * 2 ^ 1074
scale-low U D h = le_trans (mul-le-mul_left (2 ^ 1067) h) (le_of_eq (mul_left_comm (2 ^ 1067) U 128))

scale-high : (U D : ℕ) → U ≤ 2 * D → U * 2 ^ 1074 ≤ D * 2 ^ 1075
scale-high U D h = le_trans (mul-le-mul_right (2 ^ 1074) h) (le_of_eq (ap (λ (z : ℕ). z * 2 ^ 1074) (mul_comm 2 D) ∙ mul_assoc D 2 (2 ^ 1074)))

abbrev pub least : Float
least = fin false 1 (negsuc 6)

abbrev pub most : Float
most = fin false 1 (pos 1)

positive-in : (t : Float) → T (le least t) → T (le t most) → T (positive t)
positive-in t h k = between least t most tt tt h k

pattern-is : (m : ℕ) (e : ℤ) → to_bits binary64 (fin false m e) ≡ 0 + (size (m * up e * 2 ^ 1074 / down e) - 53) * 2 ^ 52 + m * up e * 2 ^ 1074 / down e / 2 ^ (size (m * up e * 2 ^ 1074 / down e) - 53)
unfolding to_bits
pattern-is m e = refl

abbrev pub Between : Float → Type 0
Between t = (0x3f80_0000_0000_0000 ≤ to_bits binary64 t) × (to_bits binary64 t ≤ 0x4000_0000_0000_0000)

no_zero : (a b : ℕ) → 0 + a + b ≡ a + b
no_zero a b = omega arith

once : (D X : ℕ) → 1 * D ≤ X → D ≤ X
once D X h = omega arith

once-r : (D X : ℕ) → D * 1 ≤ X → D ≤ X
once-r D X h = omega arith

bits_in : (t : Float) → T (le least t) → T (le t most) → Between t
bits_in t h k = go t (positive-in t h k) h k
  where
    go : (t : Float) → T (positive t) → T (le least t) → T (le t most) → Between t
    go nan p h k = absurd p
    go (inf s) p h k = absurd p
    go (fin true m e) p h k = absurd p
    go (fin false m e) p h k =
        let U = m * up e in
        let D = down e in
        let n = U * 2 ^ 1074 / D in
        let cl = le→cross least (fin false m e) tt p h in
        let ch = le→cross (fin false m e) most p tt k in
        let nl : 2 ^ 1067 ≤ n = (le-div_iff_mul-le (down_pos e)).1 (scale-low U D (once D (U * 128) cl)) in
        let nh : n ≤ 2 ^ 1075 = div-le_of_le-mul D (scale-high U D (once-r U (2 * D) ch)) in
        let same : to_bits binary64 (fin false m e) ≡ pattern n = pattern-is m e ∙ no_zero _ _ in
        (subst (λ (b : ℕ). 0x3f80_0000_0000_0000 ≤ b) (sym same) (pattern-low n nl), subst (λ (b : ℕ). b ≤ 0x4000_0000_0000_0000) (sym same) (pattern-high n nh))

pub range-bits : (t : Float) → T (in_root_range t) → Between t
unfolding in_root_range decimal round
range-bits t h = bits_in t (and_l (le least t) (le t most) h) (and_r (le least t) (le t most) h)

pub range-no-nan : (t : Float) → T (in_root_range t) → T (not (is_nan t))
unfolding in_root_range decimal round
range-no-nan t h = positive-no-nan t (positive-in t (and_l (le least t) (le t most) h) (and_r (le least t) (le t most) h))
