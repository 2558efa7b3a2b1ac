-- The whole numbers behind the cube root's code. A double from 1/128 to 2 is n 2 ^ 104, with n from 2 ^ 52 to 2 ^ 55, times a power of 8; so its
-- root is the whole number nearest to the root of n 2 ^ 104, times a power of 2. Definitions only. Assumes nothing.
use Rattle.std.specs.Prelude.{ℕ, ◌+◌, ◌-◌, ◌*◌, ◌/◌, ◌^◌, ◌≤◌, ◌<◌, ◌≡◌}

unfoldable pub cube : ℕ → ℕ
cube q = q * q * q

-- n in the units in which a cube is compared with it
unfoldable pub target : ℕ → ℕ
target n = n * 2 ^ 107

unfoldable pub top : ℕ → ℕ
top q = cube q / 2 ^ 107

-- m is the whole number nearest to the cube root of n 2 ^ 104: (m - 1/2) ^ 3 < n 2 ^ 104 ≤ (m + 1/2) ^ 3, all three times 8
pub record NearestRoot (n m : ℕ) : Type 0 where
  pub low : 2 ^ 52 ≤ m
  pub high : m ≤ 2 ^ 53
  pub below : cube (2 * m - 1) < target n
  pub above : target n ≤ cube (2 * m + 1)

-- a digit in base 2 ^ 28, and the number above it
unfoldable pub join : ℕ → ℕ → ℕ
join x y = x + y * 2 ^ 28

-- q squared, by its digits
pub record Digits (q s0 s1 s2 s3 : ℕ) : Type 0 where
  pub whole : q * q ≡ join s0 (join s1 (join s2 s3))
  pub low0 : s0 < 2 ^ 28
  pub low1 : s1 < 2 ^ 28
  pub low2 : s2 < 2 ^ 28
  pub low3 : s3 < 2 ^ 29
