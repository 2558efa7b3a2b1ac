-- "The double nearest to .., compared through .. powers of whole numbers": what that is, said once for the curve's table (fifth powers)
-- and for the cube root (cubes). The exact value is the k-th root of a fraction N / D. Definitions only. Assumes nothing.
use Rattle.std.specs.Prelude.{ℕ, zero, suc, ◌+◌, ◌-◌, ◌*◌, ◌/◌, ◌%◌, ◌^◌, ◌≤◌, ◌<◌, Bool, cond, ltb, Float}
use Rattle.std.specs.Float.{binary64}
use Rattle.std.specs.Float.Ieee.{of_bits}

-- The value of the double with the bit pattern g, from 0 up, in units of 2 ^ -1074, the smallest double: a field of 0 has no leading digit.
-- (`units-value` shows that this is its value.)
unfoldable pub units_of : ℕ → ℕ
units_of g = cond (ltb g (2 ^ 52)) g ((2 ^ 52 + g % 2 ^ 52) * 2 ^ (g / 2 ^ 52 - 1))

-- The root lies above the middle of the doubles with the patterns p and g: half their sum, (p + g) 2 ^ -1075, to the k-th power, is below N / D.
unfoldable pub above_middle : ℕ → ℕ → ℕ → ℕ → ℕ → Bool
above_middle k N D p g = ltb (D * (units_of p + units_of g) ^ k) (N * 2 ^ (1075 * k))

-- the greatest number of so many binary digits, from p up, at which f holds: its digits are found one after the other
unfoldable pub greatest : ℕ → (ℕ → Bool) → ℕ → ℕ
greatest zero f p = p
greatest (suc i) f p = greatest i f (cond (f (p + 2 ^ i)) (p + 2 ^ i) p)

-- The pattern of the nearest double: the greatest for which the root lies above the middle of it and the pattern before it.
unfoldable pub nearest_pattern : ℕ → ℕ → ℕ → ℕ
nearest_pattern k N D = greatest 63 (λ p. above_middle k N D (p - 1) p) 0

unfoldable pub nearest_double : ℕ → ℕ → ℕ → Float
nearest_double k N D = of_bits binary64 (nearest_pattern k N D)

-- Of all doubles none is nearer to the k-th root of N / D than the one with the pattern p: the root is not beyond the middle of the two.
-- (Patterns g of an infinity or a NaN are held to it as well, and a negative double is farther than 0.)
pub record NoneNearer (k N D p : ℕ) : Type 0 where
  pub above : (g : ℕ) → p < g → N * 2 ^ (1075 * k) ≤ D * (units_of p + units_of g) ^ k
  pub below : (g : ℕ) → g < p → D * (units_of p + units_of g) ^ k ≤ N * 2 ^ (1075 * k)
