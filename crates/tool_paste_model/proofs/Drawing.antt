-- Loops that write a picture which is laid out in the scratch: after j steps it is `f j` of what it was. Assumes nothing.
use Prim.Native.Nat.{ℕ, ◌+◌, ◌*◌, ◌≤◌, ◌<◌, ◌^◌}
use mathlib.Core.Path.{◌≡◌, refl, ap, ◌∙◌}
use mathlib.Core.List.{List}
use native.Mathlib.Omega.{arith}
use native.Mathlib.Numerals.{add-one}
use native.Mathlib.Nat.{mul-le-mul_left, mul-le-mul_right}
use lib.IntN.{ℤ}
use lib.ListN.{length, set}
use mir.Syntax.{w64}
use mir.Val.{Fits}
use Rattle.change_list.specs.Between.{laid_out}
use Rattle.tool_paste_model.specs.Blocks.{written, block, Rows}

pub record Drawing (f : ℕ → List ℤ → List ℤ) (s₀ : List ℕ) (m : ℕ) (s : List ℕ) (j : ℕ) : Type 0 where
  pub upto : j ≤ m
  pub long : length s ≡ length s₀
  pub done : (p : ℕ) → laid_out p s ≡ f j (laid_out p s₀)

module _ {f : ℕ → List ℤ → List ℤ} {s₀ : List ℕ} {m : ℕ} where
  pub drawing-start : ((l : List ℤ) → l ≡ f 0 l) → Drawing f s₀ m s₀ 0
  drawing-start e = record { upto = omega arith; long = refl; done = λ p. e (laid_out p s₀) }

  pub drawing-next : (g : List ℤ → List ℤ) {s s' : List ℕ} {j : ℕ} → Drawing f s₀ m s j → j < m → ((l : List ℤ) → g (f j l) ≡ f (j + 1) l)
      → length s' ≡ length s → ((p : ℕ) → laid_out p s' ≡ g (laid_out p s)) → Drawing f s₀ m s' (j + 1)
  drawing-next g d h e l q = record { upto = omega arith; long = l ∙ d.long; done = λ p. q p ∙ ap g (d.done p) ∙ e (laid_out p s₀) }

  pub drawing-end : {s : List ℕ} {j : ℕ} → Drawing f s₀ m s j → m ≤ j → (p : ℕ) → laid_out p s ≡ f m (laid_out p s₀)
  drawing-end {s} {j} d h p = let u = d.upto in let e : j ≡ m = omega arith in rw (← e) (d.done p)

-- ---- a row, index by index
module _ (v : ℕ → ℤ) (to : ℕ) where
  pub written_none : (l : List ℤ) → l ≡ written v to 0 l
  unfolding written
  written_none l = refl

  pub written_next : (i : ℕ) (l : List ℤ) → set (written v to i l) (to + i) (v i) ≡ written v to (i + 1) l
  unfolding written
  written_next i l = rw add-one

-- ---- a block, row by row
module _ (v : ℕ → ℕ → ℤ) (w x y n : ℕ) where
  pub block_none : (l : List ℤ) → l ≡ block v w x y n 0 l
  unfolding block
  block_none l = refl

  pub block-next : (j : ℕ) (l : List ℤ) → written (v j) ((y + j) * w + x) n (block v w x y n j l) ≡ block v w x y n (j + 1) l
  unfolding block
  block-next j l = rw add-one

-- the place of a row's first index does not wrap
product_small : (a b : ℕ) → a ≤ 2 ^ 18 → b ≤ 2 ^ 16 → a * b ≤ 2 ^ 34
product_small a b h k = omega (arith, mul-le-mul_right b h, mul-le-mul_left (2 ^ 18) k)

module _ {w x y n m places : ℕ} (r : Rows w x y n m places) {j : ℕ} (h : j < m) where
  pub row_number : Fits w64 (y + j)
  row_number = let b = r.below in omega arith

  small : (y + j) * w ≤ 2 ^ 34
  small = product_small (y + j) w (let b = r.below in omega arith) r.wide

  pub row-place : Fits w64 ((y + j) * w)
  row-place = omega (arith, small)

  pub row-start : Fits w64 ((y + j) * w + x)
  row-start = let b = r.right in omega (arith, small)

  pub row_fits : {length : ℕ} → length ≡ places → 0 < n → (y + j) * w + x + n ≤ length
  row_fits e k = rw e (r.inside j h k)
