-- From the code's whole number to the pattern: where m is nearest to the root of n 2 ^ 104, the pattern with the digits of m is `root_pattern` of
-- the double that n stands for. Assumes nothing.
use mathlib.Core.Path.{◌≡◌, refl, sym, ap, ◌∙◌, subst}
use mathlib.Core.Logic.{◌⊎◌, inl, inr}
use Prim.Native.Nat.{ℕ, suc, ◌+◌, ◌-◌, ◌*◌, ◌/◌, ◌%◌, ◌^◌, ◌≤◌, ◌<◌}
use native.Mathlib.Nat.{le_trans, le_of_eq, lt_of_lt_of_le, eq-or-lt_of_le, add_comm, add-mul, mul_assoc, mul_comm, mul_left_comm, mul-le-mul_left, mul-le-mul_right, mul-lt-mul_of_pos_left, mul-lt-mul_of_pos_right, add-le-add, mul-pos, pow-suc, pow-succ', pow-zero, pow-lt-pow_left, one-mul}
use native.Mathlib.Omega.{arith}
use lib.Pow.{pow_pos, pow-add}
use borrow.Author.Tests.{lt-ltb, le-ltb}
use Rattle.color_doubles.specs.NearestDouble.{units_of, above_middle}
use Rattle.color_root.specs.CubeRoot.{root_pattern, RootFound}
use Rattle.color_root.specs.Cubes.{cube, target, NearestRoot}
use Rattle.color_doubles.proofs.Units.{units-normal, units-next, units-at, units_lt}
use Rattle.color_doubles.proofs.NearestDouble.{Edge, at_edge, edge-nearest}
use Rattle.color_root.proofs.Cubes.{cube-mono}

-- ---- the pattern with the field f and the digits of m, from 2 ^ 52 to 2 ^ 53, and its neighbours
abbrev pub place : ℕ → ℕ → ℕ
place f m = f * 2 ^ 52 + (m - 2 ^ 52)

module _ (f m : ℕ) (F : 1 < f) (low : 2 ^ 52 ≤ m) (high : m ≤ 2 ^ 53) where
  -- m steps of 2 ^ (f - 1)
  units-here : units_of (place f m) ≡ m * 2 ^ (f - 1)
  units-here = go (eq-or-lt_of_le high)
    where
      last : (f m : ℕ) → m ≡ 2 ^ 53 → place f m ≡ f * 2 ^ 52 + (2 ^ 52 - 1) + 1
      last f m e = omega arith

      back : (m : ℕ) → 2 ^ 52 ≤ m → 2 ^ 52 + (m - 2 ^ 52) ≡ m
      back m l = omega arith

      go : (m ≡ 2 ^ 53) ⊎ (m < 2 ^ 53) → units_of (place f m) ≡ m * 2 ^ (f - 1)
      go (inl e) = ap units_of (last f m e) ∙ units-next f (2 ^ 52 - 1) (omega arith) (omega arith) ∙ ap (λ (x : ℕ). x * 2 ^ (f - 1)) (sym e)
      go (inr l) = units-at f (m - 2 ^ 52) (omega arith) (omega arith) ∙ ap (λ (x : ℕ). x * 2 ^ (f - 1)) (back m low)

  -- the next pattern up is at least one step more
  units-after : (m + 1) * 2 ^ (f - 1) ≤ units_of (place f m + 1)
  units-after = go (eq-or-lt_of_le high)
    where
      carried : (f m : ℕ) → m ≡ 2 ^ 53 → place f m + 1 ≡ (f + 1) * 2 ^ 52 + 1
      carried f m e = omega arith

      one_up : (f : ℕ) → 1 < f → f + 1 - 1 ≡ suc (f - 1)
      one_up f h = omega arith

      wide : (m P : ℕ) → m ≡ 2 ^ 53 → (m + 1) * P ≤ (2 ^ 52 + 1) * (2 * P)
      wide m P e = rw e (omega arith)

      go : (m ≡ 2 ^ 53) ⊎ (m < 2 ^ 53) → (m + 1) * 2 ^ (f - 1) ≤ units_of (place f m + 1)
      go (inl e) = rw (carried f m e, units-at (f + 1) 1 (omega arith) (omega arith), one_up f F, pow-succ' 2 (f - 1)) (wide m (2 ^ (f - 1)) e)
      go (inr l) = le_of_eq (sym (ap units_of (next f m low) ∙ units-next f (m - 2 ^ 52) (omega arith) (omega arith) ∙ ap (λ (x : ℕ). (x + 1) * 2 ^ (f - 1)) (back m low)))
        where
          next : (f m : ℕ) → 2 ^ 52 ≤ m → place f m + 1 ≡ f * 2 ^ 52 + (m - 2 ^ 52) + 1
          next f m l = refl

          back : (m : ℕ) → 2 ^ 52 ≤ m → 2 ^ 52 + (m - 2 ^ 52) ≡ m
          back m l = omega arith

-- and the one before, where m is above 2 ^ 52, one step less
units-before : (f m : ℕ) → 1 < f → 2 ^ 52 < m → m ≤ 2 ^ 53 → units_of (place f m - 1) ≡ (m - 1) * 2 ^ (f - 1)
units-before f m F low high = ap units_of (less f m low) ∙ units-here f (m - 1) F (omega arith) (omega arith)
  where
    less : (f m : ℕ) → 2 ^ 52 < m → place f m - 1 ≡ place f (m - 1)
    less f m l = omega arith

-- ---- cubes
cubed : (x : ℕ) → x ^ 3 ≡ cube x
unfolding cube
cubed x = rw (pow-suc x 2, pow-suc x 1, pow-suc x 0, pow-zero, one-mul)

cube-lt : (p q : ℕ) → p < q → cube p < cube q
cube-lt p q h = rw (← cubed p, ← cubed q) (pow-lt-pow_left h (λ e. no e))
  where
    no : ◌≡◌ {A = ℕ} 3 0 → ⊥
    no e = omega arith

cube-times : (x P : ℕ) → cube (x * P) ≡ cube x * cube P
unfolding cube
cube-times x P = simp (mul_assoc, mul_comm, mul_left_comm)

cube-pos : (P : ℕ) → 0 < P → 0 < cube P
unfolding cube
cube-pos P h = mul-pos (mul-pos h h) h

-- ---- the middles with the neighbours, in cubes of the step P
module _ (n m P : ℕ) (N : 2 ^ 52 ≤ n) (r : NearestRoot n m) (positive : 0 < P) where
  under-usual : (s : ℕ) → s ≡ (m - 1) * P → cube (s + m * P) < target n * cube P
  under-usual s e =
      rw (e, ← add-mul (m - 1) m P, twice m, cube-times (2 * m - 1) P) (mul-lt-mul_of_pos_right r.below (cube-pos P positive))
    where
      twice : (m : ℕ) → m - 1 + m ≡ 2 * m - 1
      twice m = omega arith

  -- at m = 2 ^ 52 the step down is half as long; but there the root is no less than m
  under_first : (s : ℕ) → m ≡ 2 ^ 52 → s < m * P → cube (s + m * P) < target n * cube P
  under_first s e l =
      lt_of_lt_of_le (cube-lt (s + m * P) (2 * m * P) (omega (arith, twice m P)))
      (rw (cube-times (2 * m) P) (mul-le-mul_right (cube P) (rw e (exact n N))))
    where
      twice : (m P : ℕ) → 2 * m * P ≡ m * P + m * P
      twice m P = simp (mul_assoc) (omega arith)

      exact : (n : ℕ) → 2 ^ 52 ≤ n → cube (2 * 2 ^ 52) ≤ target n
      exact n h = unfold cube target in mul-le-mul_right (2 ^ 107) h

  over : (s : ℕ) → (m + 1) * P ≤ s → target n * cube P ≤ cube (m * P + s)
  over s l =
      le_trans (mul-le-mul_right (cube P) r.above)
      (le_trans (le_of_eq (sym (cube-times (2 * m + 1) P))) (cube-mono ((2 * m + 1) * P) (m * P + s) (le_trans (le_of_eq (spread m P)) (add-le-add (le_of_eq refl) l))))
    where
      twice : (m : ℕ) → 2 * m + 1 ≡ m + (m + 1)
      twice m = omega arith

      spread : (m P : ℕ) → (2 * m + 1) * P ≡ m * P + (m + 1) * P
      spread m P = ap (λ (x : ℕ). x * P) (twice m) ∙ add-mul m (m + 1) P

-- ---- the double itself, in the same cubes
-- the exponent's field, from that of 2 ^ -9 on; n, and the root's field
abbrev pub exponent : ℕ → ℕ
exponent b = b / 2 ^ 52 - 1014

abbrev pub scaled_digits : ℕ → ℕ
scaled_digits b = (b % 2 ^ 52 + 2 ^ 52) * 2 ^ (exponent b % 3)

abbrev pub root_field : ℕ → ℕ
root_field b = 1020 + exponent b / 3

-- 2 ^ (d + 1013) by d's third and what is left
thirds : (d : ℕ) → 2 ^ (d + 1013) ≡ 2 ^ (d % 3) * cube (2 ^ (d / 3)) * 2 ^ 1013
unfolding cube
thirds d =
    pow-add 2 d 1013
    ∙ ap (λ (x : ℕ). x * 2 ^ 1013)
    (ap (λ (x : ℕ). 2 ^ x) (split d)
    ∙ pow-add 2 (d % 3) (d / 3 + d / 3 + d / 3)
    ∙ ap (λ (x : ℕ). 2 ^ (d % 3) * x) (pow-add 2 (d / 3 + d / 3) (d / 3) ∙ ap (λ (x : ℕ). x * 2 ^ (d / 3)) (pow-add 2 (d / 3) (d / 3))))
  where
    split : (d : ℕ) → d ≡ d % 3 + (d / 3 + d / 3 + d / 3)
    split d = omega arith

gathered : (m I Q a b c d e : ℕ) → a * b ≡ c * (d * e) → m * (I * Q * a) * b ≡ c * (m * I * d * (e * Q))
gathered m I Q a b c d e h = left m I Q a b ∙ ap (λ (x : ℕ). x * (m * I * Q)) h ∙ right m I Q c d e
  where
    left : (m I Q a b : ℕ) → m * (I * Q * a) * b ≡ a * b * (m * I * Q)
    left m I Q a b = simp (mul_assoc, mul_comm, mul_left_comm)

    right : (m I Q c d e : ℕ) → c * (d * e) * (m * I * Q) ≡ c * (m * I * d * (e * Q))
    right m I Q c d e = simp (mul_assoc, mul_comm, mul_left_comm)

whole : (b : ℕ) → 0x3f80_0000_0000_0000 ≤ b
    → units_of b * 2 ^ (1075 * 3) ≡ 2 ^ 1074 * (target (scaled_digits b) * cube (2 ^ (root_field b - 1)))
unfolding target cube
whole b h =
    let d = exponent b in
    let m = b % 2 ^ 52 + 2 ^ 52 in
    ap (λ (x : ℕ). x * 2 ^ (1075 * 3)) (units-normal b (usual b h) ∙ ap (λ (x : ℕ). x * 2 ^ (b / 2 ^ 52 - 1)) (add_comm (2 ^ 52) (b % 2 ^ 52)) ∙ ap (λ (x : ℕ). m * 2 ^ x) (field b h) ∙ ap (λ (x : ℕ). m * x) (thirds d))
    ∙ gathered m (2 ^ (d % 3)) (cube (2 ^ (d / 3))) (2 ^ 1013) (2 ^ (1075 * 3)) (2 ^ 1074) (2 ^ 107) (cube (2 ^ 1019)) constants
    ∙ ap (λ (x : ℕ). 2 ^ 1074 * (m * 2 ^ (d % 3) * 2 ^ 107 * x)) (sym (cube-times (2 ^ 1019) (2 ^ (d / 3))) ∙ ap cube (sym (pow-add 2 1019 (d / 3)) ∙ ap (λ (x : ℕ). 2 ^ x) (less (d / 3))))
  where
    usual : (b : ℕ) → 0x3f80_0000_0000_0000 ≤ b → 2 ^ 52 ≤ b
    usual b h = omega arith

    field : (b : ℕ) → 0x3f80_0000_0000_0000 ≤ b → b / 2 ^ 52 - 1 ≡ exponent b + 1013
    field b h = omega arith

    less : (q : ℕ) → 1019 + q ≡ 1020 + q - 1
    less q = omega arith

    constants : 2 ^ 1013 * 2 ^ (1075 * 3) ≡ 2 ^ 1074 * (2 ^ 107 * 2 ^ (1019 * 3))
    constants = refl

-- ---- so the pattern is at the edge that `root_pattern` looks for
module _ (b m : ℕ) (B : 0x3f80_0000_0000_0000 ≤ b) (N : 2 ^ 52 ≤ scaled_digits b) (r : NearestRoot (scaled_digits b) m) where
  abbrev field : ℕ
  field = root_field b

  abbrev step : ℕ
  step = 2 ^ (field - 1)

  units-m : units_of (place field m) ≡ m * step
  units-m = units-here field m (omega arith) r.low r.high

  middle-lt : (s t : ℕ) → cube (s + t) < target (scaled_digits b) * cube step → 2 ^ 1074 * (s + t) ^ 3 < units_of b * 2 ^ (1075 * 3)
  middle-lt s t h = rw (whole b B, cubed (s + t)) (mul-lt-mul_of_pos_left h (pow_pos 1074))

  middle-le : (s t : ℕ) → target (scaled_digits b) * cube step ≤ cube (s + t) → units_of b * 2 ^ (1075 * 3) ≤ 2 ^ 1074 * (s + t) ^ 3
  middle-le s t h = rw (whole b B, cubed (s + t)) (mul-le-mul_left (2 ^ 1074) h)

  holds : 2 ^ 1074 * (units_of (place field m - 1) + units_of (place field m)) ^ 3 < units_of b * 2 ^ (1075 * 3)
  holds = middle-lt (units_of (place field m - 1)) (units_of (place field m)) (rw units-m (go (eq-or-lt_of_le r.low)))
    where
      go : (2 ^ 52 ≡ m) ⊎ (2 ^ 52 < m) → cube (units_of (place field m - 1) + m * step) < target (scaled_digits b) * cube step
      go (inl e) = under_first (scaled_digits b) m step N r (pow_pos (field - 1)) (units_of (place field m - 1)) (sym e) (lt_of_lt_of_le (units_lt (place field m - 1) (place field m) (omega arith)) (le_of_eq units-m))
      go (inr l) = under-usual (scaled_digits b) m step N r (pow_pos (field - 1)) (units_of (place field m - 1)) (units-before field m (omega arith) l r.high)

  fails : units_of b * 2 ^ (1075 * 3) ≤ 2 ^ 1074 * (units_of (place field m) + units_of (place field m + 1)) ^ 3
  fails =
      middle-le (units_of (place field m)) (units_of (place field m + 1))
      (rw units-m (over (scaled_digits b) m step N r (pow_pos (field - 1)) (units_of (place field m + 1)) (units-after field m (omega arith) r.low r.high)))

  at-root : Edge (λ (p : ℕ). above_middle 3 (units_of b) (2 ^ 1074) (p - 1) p) (place field m)
  unfolding above_middle
  at-root = record { holds = λ _. lt-ltb _ _ holds; fails = le-ltb _ _ (subst (λ (q : ℕ). units_of b * 2 ^ (1075 * 3) ≤ 2 ^ 1074 * (units_of q + units_of (place field m + 1)) ^ 3) (same (place field m)) fails) }
    where
      same : (p : ℕ) → p ≡ p + 1 - 1
      same p = omega arith

  pub root-found : place field m ≤ 0x4000_0000_0000_0000 → RootFound b (place field m)
  unfolding root_pattern
  root-found h =
      record {
        value = sym (at_edge 3 (units_of b) (2 ^ 1074) (place field m) (omega arith) at-root);
        nearest = edge-nearest 3 (units_of b) (2 ^ 1074) (place field m) at-root;
        small = h;
      }
