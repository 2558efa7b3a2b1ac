-- The offset of a line step by step: with what an axis begins with for m, it is a quotient by twice the longer side, and the rest goes with it. Assumes nothing.
use mathlib.Core.Path.{◌≡◌, refl, sym, ap, ◌∙◌}
use mathlib.Core.Bool.{Bool, true, false, cond, ◌&&◌}
use Prim.Native.Nat.{ℕ, zero, suc, ◌+◌, ◌*◌, ◌-◌, ◌/◌, ◌%◌, ◌≤◌, ◌<◌}
use native.Mathlib.Nat.{suc-mul, add-mul, one-mul, zero-mul, div-zero, mod-zero, mod-lt, div-add-mod', div-lt_iff_lt-mul, mul-le-mul_left, mul_comm}
use native.Mathlib.Omega.{arith}
use borrow.Author.Tests.{eqb-true, eqb-false}
use lib.Arith.{digits_div, digits_mod}
use lib.Dec.{eqb}
use lib.IntN.{ℤ}
use lib.Signed.{lt_z}
use Rattle.tool_line.specs.Line.{side, dividend, halfway, offset}
use Rattle.tool_line.specs.Walk.{half}

-- ---- a number by its quotient and its rest
module _ (d q r : ℕ) (h : r < d) (v : ℕ) (e : v ≡ q * d + r) where
  pub quotient : v / d ≡ q
  quotient = ap (λ (x : ℕ). x / d) e ∙ digits_div q h

  remainder : v % d ≡ r
  remainder = ap (λ (x : ℕ). x % d) e ∙ digits_mod q h

-- ---- one less where a half is rounded down
less_one : (m n j : ℕ) (t : Bool) → halfway m n j ≡ t → cond t (dividend m n j / (2 * m) - 1) (dividend m n j / (2 * m)) ≡ (2 * (j * n) + (m - 1)) / (2 * m)
unfolding dividend halfway
less_one zero n j true e = rw (div-zero (2 * (j * n) + 0))
less_one zero n j false e = refl
less_one (suc m) n j true e =
    let d = 2 * suc m in
    let v = 2 * (j * n) + suc m in
    let z : v % d ≡ 0 = eqb-true (v % d) 0 e in
    let s : v ≡ v / d * d + v % d = sym (div-add-mod' v d) in
    sym (quotient d (v / d - 1) (d - 1) (omega arith) (2 * (j * n) + (suc m - 1)) (omega (arith, whole d (v / d) v (omega arith) (omega arith) (omega arith))))
  where
    whole : (d q v : ℕ) → 0 < d → v ≡ q * d → 0 < v → v - 1 ≡ (q - 1) * d + (d - 1)
    whole d zero v h e k = absurd (omega (arith, zero-mul d))
    whole d (suc q) v h e k = let z : suc q - 1 ≡ q = omega arith in omega (arith, suc-mul q d, ap (λ (x : ℕ). x * d) z)
less_one (suc m) n j false e =
    let d = 2 * suc m in
    let v = 2 * (j * n) + suc m in
    let z = eqb-false (v % d) 0 e in
    let s : v ≡ v / d * d + v % d = sym (div-add-mod' v d) in
    let r : v % d < d = mod-lt v (omega arith) in
    sym (quotient d (v / d) (v % d - 1) (omega arith) _ (omega arith))

-- the offset is the quotient
pub offset-is : (a b : ℤ) (m j : ℕ) → offset a b m j ≡ (2 * (j * side a b) + half a b m) / (2 * m)
unfolding offset half dividend
offset-is a b m j = by (halfway m (side a b) j) refl (lt_z a b)
  where
    by : (t : Bool) → halfway m (side a b) j ≡ t → (u : Bool)
        → cond (t && u) (dividend m (side a b) j / (2 * m) - 1) (dividend m (side a b) j / (2 * m)) ≡ (2 * (j * side a b) + cond u (m - 1) m) / (2 * m)
    by true e true = less_one m (side a b) j true e
    by false e true = less_one m (side a b) j false e
    by true e false = refl
    by false e false = refl

pub half-few : (a b : ℤ) (m : ℕ) → half a b m ≤ m
unfolding half
half-few a b m = by (lt_z a b)
  where
    by : (t : Bool) → cond t (m - 1) m ≤ m
    by true = omega arith
    by false = omega arith

module _ (a b : ℤ) (m : ℕ) where
  abbrev n : ℕ
  n = side a b

  abbrev t : ℕ
  t = half a b m

  abbrev sum : ℕ → ℕ
  sum j = 2 * (j * n) + t

  -- ---- the first point
  pub offset-first : offset a b m 0 ≡ 0
  offset-first = offset-is a b m 0 ∙ by m (half-few a b m)
    where
      by : (m : ℕ) → t ≤ m → sum 0 / (2 * m) ≡ 0
      by zero h = div-zero (sum 0)
      by (suc m) h = quotient (2 * suc m) 0 t (omega arith) _ (omega (arith, zero-mul n, zero-mul (2 * suc m)))

  pub rest-first : sum 0 % (2 * m) ≡ t
  rest-first = by m (half-few a b m)
    where
      by : (m : ℕ) → t ≤ m → sum 0 % (2 * m) ≡ t
      by zero h = mod-zero (sum 0) ∙ omega (arith, zero-mul n)
      by (suc m) h = remainder (2 * suc m) 0 t (omega arith) _ (omega (arith, zero-mul n, zero-mul (2 * suc m)))

  -- ---- the next point
  module _ (j : ℕ) where
    abbrev rest : ℕ
    rest = sum j % (2 * m)

    next : sum (j + 1) ≡ offset a b m j * (2 * m) + (rest + 2 * n)
    next = rw (offset-is a b m j) (omega (arith, add-mul j 1 n, one-mul n, div-add-mod' (sum j) (2 * m)))

    next_up : 2 * m ≤ rest + 2 * n → sum (j + 1) ≡ (offset a b m j + 1) * (2 * m) + (rest + 2 * n - 2 * m)
    next_up h = omega (arith, next, add-mul (offset a b m j) 1 (2 * m), one-mul (2 * m))

    -- no whole place more
    module _ (h : rest + 2 * n < 2 * m) where
      pub offset-same : offset a b m (j + 1) ≡ offset a b m j
      offset-same = offset-is a b m (j + 1) ∙ quotient (2 * m) (offset a b m j) (rest + 2 * n) h _ next

      pub rest_more : sum (j + 1) % (2 * m) ≡ rest + 2 * n
      rest_more = remainder (2 * m) (offset a b m j) (rest + 2 * n) h _ next

    -- a place more: the side is no longer than m
    module _ (h : 2 * m ≤ rest + 2 * n) (k : n ≤ m) (r : rest < 2 * m) where
      pub offset-more : offset a b m (j + 1) ≡ offset a b m j + 1
      offset-more = offset-is a b m (j + 1) ∙ quotient (2 * m) (offset a b m j + 1) (rest + 2 * n - 2 * m) (omega arith) _ (next_up h)

      pub rest-less : sum (j + 1) % (2 * m) ≡ rest + 2 * n - 2 * m
      rest-less = remainder (2 * m) (offset a b m j + 1) (rest + 2 * n - 2 * m) (omega arith) _ (next_up h)

-- ---- on the longer side the offset is the step
pub offset-longer : (a b : ℤ) (j : ℕ) → j ≤ side a b → offset a b (side a b) j ≡ j
offset-longer a b j h = offset-is a b (side a b) j ∙ by (side a b) (half a b (side a b)) (half-few a b (side a b)) h
  where
    by : (m t : ℕ) → t ≤ m → j ≤ m → (2 * (j * m) + t) / (2 * m) ≡ j
    by zero t h k = let e : j ≡ 0 = omega arith in rw e (div-zero (2 * (0 * 0) + t))
    by (suc m) t h k = quotient (2 * suc m) j t (omega arith) _ (omega (arith, mul_comm j (2 * suc m), mul_comm j (suc m)))

-- after the last step it is the whole side
pub offset-last : (a b : ℤ) (m : ℕ) → side a b ≤ m → offset a b m m ≡ side a b
offset-last a b m h = offset-is a b m m ∙ by m (half a b m) (half-few a b m) (side a b) h
  where
    by : (m t : ℕ) → t ≤ m → (n : ℕ) → n ≤ m → (2 * (m * n) + t) / (2 * m) ≡ n
    by zero t h n k = let e : n ≡ 0 = omega arith in rw e (div-zero (2 * (0 * 0) + t))
    by (suc m) t h n k = quotient (2 * suc m) n t (omega arith) _ (omega (arith, mul_comm n (2 * suc m), mul_comm n (suc m)))

-- on the shorter it is no more
pub offset-few : (a b : ℤ) (m j : ℕ) → side a b ≤ m → offset a b m j ≤ j
offset-few a b m j h = rw (offset-is a b m j) (by m (half a b m) (half-few a b m) (side a b) h)
  where
    by : (m t : ℕ) → t ≤ m → (n : ℕ) → n ≤ m → (2 * (j * n) + t) / (2 * m) ≤ j
    by zero t h n k = rw (div-zero (2 * (j * n) + t)) (omega arith)
    by (suc m) t h n k =
        omega (arith, (div-lt_iff_lt-mul {k = 2 * suc m} {x = 2 * (j * n) + t} {y = j + 1} (omega arith)).1 (omega (arith, mul-le-mul_left j k, add-mul j 1 (2 * suc m), one-mul (2 * suc m), mul_comm j (2 * suc m), mul_comm j (suc m))))
