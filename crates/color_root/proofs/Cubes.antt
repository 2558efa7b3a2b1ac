-- Squares and cubes by their digits in base 2 ^ 28, and cubes compared. Assumes nothing.
use mathlib.Core.Path.{◌≡◌, sym, ap, ◌∙◌}
use Prim.Native.Nat.{ℕ, ◌+◌, ◌-◌, ◌*◌, ◌/◌, ◌%◌, ◌^◌, ◌≤◌, ◌<◌}
use native.Mathlib.Nat.{add_assoc, add_comm, add_left_comm, mul_assoc, mul_comm, mul_left_comm, mul-add, add-mul, mul-one, one-mul, div-mul-le_self, mod-add-div', mul-le-mul, add-mul-div_right, div-div-eq-div-mul, le-div_iff_mul-le, div-lt_iff_lt-mul, le_trans, lt_of_le_of_lt, lt_of_lt_of_le, mul-le-mul_right, le_of_lt}
use lib.Dec.{lit<}
use native.Mathlib.Omega.{arith}
use lib.Pow.{pow_pos}
use Rattle.color_root.specs.Cubes.{cube, target, top, join, Digits}

twice : (x : ℕ) → 2 * x ≡ x + x
twice x = omega arith

-- (a + b B)² in the digits' places
sq : (B a b : ℕ) → (a + b * B) * (a + b * B) ≡ a * a + (2 * (a * b) + b * b * B) * B
sq B a b = simp (twice, mul-add, add-mul, mul_assoc, mul_comm, mul_left_comm, add_assoc, add_comm, add_left_comm)

-- a digit's carry
carry : (B x y : ℕ) → x + y * B ≡ x % B + (y + x / B) * B
carry B x y = ap (λ (z : ℕ). z + y * B) (sym (mod-add-div' x B)) ∙ simp (add-mul, add_assoc, add_comm, add_left_comm)

push : (B u v w : ℕ) → u + v * B + w ≡ u + w + v * B
push B u v w = simp (add_assoc, add_comm, add_left_comm)

cong : (B x : ℕ) {y z : ℕ} → y ≡ z → x + y * B ≡ x + z * B
cong B x p = ap (λ (u : ℕ). x + u * B) p

-- a + b B squared: each digit is what is left of its place, and the carry goes up
square-in : (B a b : ℕ)
    → let p0 = a * a in
    let p1 = 2 * (a * b) + p0 / B in
    let p2 = b * b + p1 / B in
    (a + b * B) * (a + b * B) ≡ p0 % B + (p1 % B + (p2 % B + p2 / B * B) * B) * B
square-in B a b =
    let p0 = a * a in
    let p1 = 2 * (a * b) + p0 / B in
    let p2 = b * b + p1 / B in
    sq B a b
    ∙ carry B p0 (2 * (a * b) + b * b * B)
    ∙ cong B (p0 % B) (push B (2 * (a * b)) (b * b) (p0 / B) ∙ carry B p1 (b * b) ∙ cong B (p1 % B) (sym (mod-add-div' p2 B)))

abbrev B28 : ℕ
B28 = 0x1000_0000

pub square-digits : (q : ℕ)
    → let a = q % 0x1000_0000 in
    let b = q / 0x1000_0000 in
    let p0 = a * a in
    let p1 = 2 * (a * b) + p0 / 0x1000_0000 in
    let p2 = b * b + p1 / 0x1000_0000 in
    q * q ≡ join (p0 % 0x1000_0000) (join (p1 % 0x1000_0000) (join (p2 % 0x1000_0000) (p2 / 0x1000_0000)))
unfolding join
square-digits q = ap (λ (z : ℕ). z * z) (sym (mod-add-div' q B28)) ∙ square-in B28 (q % B28) (q / B28)

-- S (a + b B), S by four digits
spread : (B a b s0 s1 s2 s3 : ℕ)
    → (s0 + (s1 + (s2 + s3 * B) * B) * B) * (a + b * B)
    ≡ a * s0 + (a * s1 + b * s0 + (a * s2 + b * s1 + (a * s3 + b * s2 + b * s3 * B) * B) * B) * B
spread B a b s0 s1 s2 s3 = simp (mul-add, add-mul, mul_assoc, mul_comm, mul_left_comm, add_assoc, add_comm, add_left_comm)

up-div : (B x y : ℕ) → 0 < B → (x + y * B) / B ≡ x / B + y
up-div B x y h = add-mul-div_right x y h

-- what is left of the cube above its three lowest digits
cube-in : (B a b s0 s1 s2 s3 : ℕ) → 0 < B
    → let c0 = a * s0 in
    let c1 = a * s1 + b * s0 + c0 / B in
    let c2 = a * s2 + b * s1 + c1 / B in
    let c3 = a * s3 + b * s2 + c2 / B in
    (s0 + (s1 + (s2 + s3 * B) * B) * B) * (a + b * B) / B / B / B ≡ c3 + b * s3 * B
cube-in B a b s0 s1 s2 s3 h =
    let c0 = a * s0 in
    let u1 = a * s1 + b * s0 in
    let u2 = a * s2 + b * s1 in
    let u3 = a * s3 + b * s2 in
    let c1 = u1 + c0 / B in
    let c2 = u2 + c1 / B in
    let v3 = u3 + b * s3 * B in
    let v2 = u2 + v3 * B in
    let v1 = u1 + v2 * B in
    let one : (c0 + v1 * B) / B ≡ c1 + v2 * B = up-div B c0 v1 h ∙ add_comm (c0 / B) v1 ∙ push B u1 v2 (c0 / B) in
    let two : (c1 + v2 * B) / B ≡ c2 + v3 * B = up-div B c1 v2 h ∙ add_comm (c1 / B) v2 ∙ push B u2 v3 (c1 / B) in
    let three : (c2 + v3 * B) / B ≡ u3 + c2 / B + b * s3 * B = up-div B c2 v3 h ∙ add_comm (c2 / B) v3 ∙ push B u3 (b * s3) (c2 / B) in
    ap (λ (z : ℕ). z / B / B / B) (spread B a b s0 s1 s2 s3)
    ∙ ap (λ (z : ℕ). z / B / B) one
    ∙ ap (λ (z : ℕ). z / B) two
    ∙ three

last : (x y : ℕ) → (x + y * 0x1000_0000) / 0x80_0000 ≡ x / 0x80_0000 + y * 32
last x y = omega arith

pub cube-digits : (q s0 s1 s2 s3 : ℕ) → Digits q s0 s1 s2 s3
    → let a = q % 0x1000_0000 in
    let b = q / 0x1000_0000 in
    let c0 = a * s0 in
    let c1 = a * s1 + b * s0 + c0 / 0x1000_0000 in
    let c2 = a * s2 + b * s1 + c1 / 0x1000_0000 in
    let c3 = a * s3 + b * s2 + c2 / 0x1000_0000 in
    c3 / 0x80_0000 + b * s3 * 32 ≡ top q
unfolding join cube top
cube-digits q s0 s1 s2 s3 d =
    let a = q % B28 in
    let b = q / B28 in
    let c0 = a * s0 in
    let c1 = a * s1 + b * s0 + c0 / B28 in
    let c2 = a * s2 + b * s1 + c1 / B28 in
    let c3 = a * s3 + b * s2 + c2 / B28 in
    let S = s0 + (s1 + (s2 + s3 * B28) * B28) * B28 in
    let same : q * q * q ≡ S * (a + b * B28) = ap (λ (z : ℕ). z * q) d.whole ∙ ap (λ (z : ℕ). S * z) (sym (mod-add-div' q B28)) in
    sym
    (sym (div-div-eq-div-mul (q * q * q) (2 ^ 84) (2 ^ 23))
    ∙ ap (λ (z : ℕ). z / 0x80_0000) (sym (div-div-eq-div-mul (q * q * q) (2 ^ 56) B28) ∙ ap (λ (z : ℕ). z / B28) (sym (div-div-eq-div-mul (q * q * q) B28 B28)))
    ∙ ap (λ (z : ℕ). z / B28 / B28 / B28 / 0x80_0000) same
    ∙ ap (λ (z : ℕ). z / 0x80_0000) (cube-in B28 a b s0 s1 s2 s3 (pow_pos 28))
    ∙ last c3 (b * s3))

-- ---- the comparison with n
pub top_lt : (q n : ℕ) → top q < n → cube q < target n
unfolding top target
top_lt q n h = (div-lt_iff_lt-mul (pow_pos 107)).0 h

pub le-top : (q n : ℕ) → n ≤ top q → target n ≤ cube q
unfolding top target
le-top q n h = (le-div_iff_mul-le (pow_pos 107)).0 h

pub cube-mono : (p q : ℕ) → p ≤ q → cube p ≤ cube q
unfolding cube
cube-mono p q h = mul-le-mul (mul-le-mul h h) h

-- ---- the two ends of the search
under-high : (n : ℕ) → n ≤ 2 ^ 55 → target n ≤ cube (2 ^ 54)
unfolding target cube
under-high n h = mul-le-mul_right (2 ^ 107) h

pub end-high : (n m : ℕ) → n < 2 ^ 55 → 2 ^ 53 ≤ m → target n ≤ cube (2 * m + 1)
end-high n m h k = le_trans (under-high n (le_of_lt h)) (cube-mono (2 ^ 54) (2 * m + 1) (omega arith))

over-low : (n : ℕ) → 2 ^ 52 ≤ n → cube (2 ^ 53 - 1) < target n
unfolding target cube
over-low n h = lt_of_lt_of_le (lit< tt) (mul-le-mul_right (2 ^ 107) h)

pub end_low : (n m : ℕ) → 2 ^ 52 ≤ n → m ≤ 2 ^ 52 → cube (2 * m - 1) < target n
end_low n m h k = lt_of_le_of_lt (cube-mono (2 * m - 1) (2 ^ 53 - 1) (omega arith)) (over-low n h)

-- ---- one cube shows both comparisons, with a little to spare
pub top_small : (q : ℕ) → q ≤ 2 ^ 56 → top q < 2 ^ 61 + 1
unfolding top cube
top_small q h = (div-lt_iff_lt-mul (pow_pos 107)).1 (lt_of_le_of_lt (mul-le-mul (mul-le-mul h h) h) (lit< tt))

times2 : (a b m : ℕ) → a * m * (b * m) ≡ a * b * (m * m)
times2 a b m = simp (mul_assoc, mul_comm, mul_left_comm)

times3 : (a b d m : ℕ) → a * m * (b * m) * (d * m) ≡ a * b * d * (m * m * m)
times3 a b d m = simp (mul_assoc, mul_comm, mul_left_comm)

square-next : (q : ℕ) → (q + 1) * (q + 1) ≡ q * q + 2 * q + 1
square-next q = simp (twice, mul-add, add-mul, mul-one, one-mul, add_assoc, add_comm, add_left_comm)

cube-next : (q : ℕ) → (q + 1) * (q + 1) * (q + 1) ≡ q * q * q + (q * q + q * q + q * q) + (q + q + q) + 1
cube-next q = simp (mul-add, add-mul, mul-one, one-mul, mul_assoc, mul_comm, mul_left_comm, add_assoc, add_comm, add_left_comm)

-- m³ in units of 2 ^ 98, rounded down
cube-from : (m : ℕ) → top (8 * m) * 2 ^ 98 ≤ m * m * m
unfolding top cube
cube-from m = let l = div-mul-le_self (8 * m * (8 * m) * (8 * m)) (2 ^ 107) in omega (arith, l, times3 8 8 8 m)

cube-to : (m : ℕ) → m * m * m < (top (8 * m) + 1) * 2 ^ 98
unfolding top cube
cube-to m =
    let l : 8 * m * (8 * m) * (8 * m) < (8 * m * (8 * m) * (8 * m) / 2 ^ 107 + 1) * 2 ^ 107 = (div-lt_iff_lt-mul (pow_pos 107)).0 (omega arith) in
    omega (arith, l, times3 8 8 8 m)

above-by : (n c w M3 M2 C : ℕ) → c * 2 ^ 98 ≤ M3 → w * 2 ^ 99 ≤ 3 * M2 → n * 64 ≤ c + w → 8 * M3 + 12 * M2 ≤ C → n * 2 ^ 107 ≤ C
above-by n c w M3 M2 C h k l e = omega arith

below_by : (n c w M3 M2 m C : ℕ) → M3 < (c + 1) * 2 ^ 98 → w * 2 ^ 99 ≤ 3 * M2 → c + 2 ≤ n * 64 + w → m ≤ 2 ^ 53 → C + 12 * M2 ≤ 8 * M3 + 6 * m → C < n * 2 ^ 107
below_by n c w M3 M2 m C h k l b e = omega arith

cube-up : (m : ℕ) → 8 * (m * m * m) + 12 * (m * m) ≤ cube (2 * m + 1)
unfolding cube
cube-up m = omega (arith, cube-next (2 * m), times3 2 2 2 m, times2 2 2 m)

cube-down : (m : ℕ) → 1 ≤ m → cube (2 * m - 1) + 12 * (m * m) ≤ 8 * (m * m * m) + 6 * m
unfolding cube
cube-down m h =
    let e : 2 * m - 1 + 1 ≡ 2 * m = omega arith in
    omega (arith, rw e at (cube-next (2 * m - 1)), rw e at (square-next (2 * m - 1)), times3 2 2 2 m, times2 2 2 m)

-- w is at most 3/2 m², in the same units
pub reach : (m : ℕ) → 3 * (m / 0x400_0000 * (m / 0x400_0000)) / 0x8000_0000_0000 * 2 ^ 99 ≤ 3 * (m * m)
reach m =
    let h = m / 0x400_0000 in
    let below : 0x400_0000 * h ≤ m = omega arith in
    omega (arith, mul-le-mul below below, times2 0x400_0000 0x400_0000 h)

pub half-square : (m : ℕ) → m ≤ 2 ^ 53 → m / 0x400_0000 * (m / 0x400_0000) ≤ 2 ^ 54
half-square m h = let below : m / 0x400_0000 ≤ 2 ^ 27 = omega arith in mul-le-mul below below

pub up-settled : (n m w : ℕ) → w * 2 ^ 99 ≤ 3 * (m * m) → n * 64 ≤ top (8 * m) + w → target n ≤ cube (2 * m + 1)
unfolding target
up-settled n m w k l = above-by n (top (8 * m)) w (m * m * m) (m * m) _ (cube-from m) k l (cube-up m)

pub down-settled : (n m w : ℕ) → w * 2 ^ 99 ≤ 3 * (m * m) → top (8 * m) + 2 ≤ n * 64 + w → 1 ≤ m → m ≤ 2 ^ 53 → cube (2 * m - 1) < target n
unfolding target
down-settled n m w k l o b = below_by n (top (8 * m)) w (m * m * m) (m * m) m _ (cube-to m) k l b (cube-down m o)
