-- The first cell that a cell is a flip of. Assumes nothing.
use mathlib.Core.Path.{◌≡◌, ◌∙◌}
use mathlib.Core.Bool.{Bool}
use mathlib.Core.List.{List}
use Prim.Native.Nat.{ℕ, ◌+◌, ◌*◌, ◌<◌, ◌≤◌}
use native.Mathlib.Nat.{le_antisymm}
use native.Mathlib.Decide.{dec_lt, ℕ_discrete}
use native.Mathlib.Omega.{arith}
use borrow.Author.Tests.{ltb-true, ltb-false}
use lib.IntN.{ℤ}
use Rattle.base.specs.Lists.{range}
use Rattle.base.proofs.Collect.{length-range}
use Rattle.tile_cells.specs.Tile.{is_flip_of}
use Rattle.tile_cells.specs.Cells.{cell_of, order_of, first_cell, code_of}
use Rattle.tile_cells.specs.Key.{key_of}
use Rattle.tile_cells.proofs.Rows.{range_at}
use Rattle.tile_cells.proofs.Positions.{position-le, position-has, position-none}
use Rattle.tile_cells.proofs.Orders.{FlipOf, order_flip, flip-order, flip-trans, flip-sym, flip-self, flip-key}
use Rattle.tile_cells.proofs.Corners.{length-cell}

module _ (w t : ℕ) (l : List ℤ) where
  abbrev cell : ℕ → List ℤ
  cell = cell_of w t l

  abbrev first : ℕ → ℕ
  first = first_cell w t l

  abbrev order : ℕ → ℕ → ℕ
  order = order_of w t l

  abbrev tries : ℕ → ℕ → Bool
  tries c f = is_flip_of t (cell c) (cell f)

  -- ---- being a flip of, by its order
  flip_of : (c f : ℕ) → order c f < 4 → FlipOf t (cell c) (cell f)
  unfolding order_of
  flip_of c f h = order_flip t (cell c) (cell f) h

  of-flip : (c f : ℕ) → FlipOf t (cell c) (cell f) → order c f < 4
  unfolding order_of
  of-flip c f g = flip-order t (cell c) (cell f) g

  pub order-self : (c : ℕ) → order c c ≡ 0
  unfolding order_of
  order-self c = flip-self t (cell c) (length-cell w t l c)

  pub order_trans : (c d e : ℕ) → order c d < 4 → order d e < 4 → order c e < 4
  order_trans c d e h k = of-flip c e (flip-trans t (flip_of c d h) (flip_of d e k))

  pub order-sym : (c d : ℕ) → order c d < 4 → order d c < 4
  order-sym c d h = of-flip d c (flip-sym t (length-cell w t l c) (flip_of c d h))

  pub order-key : (c d : ℕ) → order c d < 4 → key_of t (cell c) ≡ key_of t (cell d)
  order-key c d h = flip-key t (flip_of c d h)

  -- ---- the first
  pub first-le : (c : ℕ) → first c ≤ c
  unfolding first_cell
  first-le c = omega (arith, position-le (tries c) (range 0 c), length-range 0 c)

  below : (c : ℕ) → first c < c → order c (first c) < 4
  unfolding first_cell is_flip_of order_of
  below c h = ltb-true (order c (first c)) 4 (rw (range_at c (first c) 0 h) at (position-has (tries c) 0 (range 0 c) (omega (arith, length-range 0 c))))

  pub first-flip : (c : ℕ) → order c (first c) < 4
  first-flip c = elim (ℕ_discrete (first c) c) [ yes e ↦ rw e (omega (arith, order-self c)) | no n ↦ below c (omega (arith, first-le c)) ]

  -- none before it
  pub first-none : (c f : ℕ) → f < first c → order c f < 4 → ⊥
  unfolding first_cell is_flip_of order_of
  first-none c f h k =
      let b : f < c = omega (arith, position-le (tries c) (range 0 c), length-range 0 c) in
      omega (arith, ltb-false (order c f) 4 (rw (range_at c f 0 b) at (position-none (tries c) 0 (range 0 c) f h)))

  pub first-least : (c f : ℕ) → order c f < 4 → first c ≤ f
  first-least c f h = elim (dec_lt f (first c)) [ yes k ↦ absurd (first-none c f k h) | no k ↦ omega arith ]

  -- it is its own first cell
  pub first-first : (c : ℕ) → first (first c) ≡ first c
  first-first c = le_antisymm (first-le (first c)) (first-least c (first (first c)) (order_trans c (first c) (first (first c)) (first-flip c) (first-flip (first c))))

  -- flips of each other have one first cell
  pub first-same : (c d : ℕ) → order c d < 4 → first c ≡ first d
  first-same c d h =
      le_antisymm (first-least c (first d) (order_trans c d (first d) h (first-flip d)))
      (first-least d (first c) (order_trans d c (first c) (order-sym c d h) (first-flip c)))

  -- and those that have are
  pub same_first : (c d : ℕ) → first c ≡ first d → order c d < 4
  same_first c d e = order_trans c (first c) d (first-flip c) (rw e (order-sym d (first d) (first-flip d)))

  -- a first cell that c is a flip of is the first cell of c
  pub first-is : (c f : ℕ) → first f ≡ f → order c f < 4 → first c ≡ f
  first-is c f e h = first-same c f h ∙ e

  -- a first cell is itself unflipped
  pub first-order : (c : ℕ) → first c ≡ c → order c (first c) ≡ 0
  first-order c e = rw e (order-self c)

  -- ---- the code has both
  pub code-small : (c : ℕ) → code_of w t l c < c * 4 + 4
  unfolding code_of
  code-small c = omega (arith, first-le c, first-flip c)

  pub code-found : (c f : ℕ) {o : ℕ} → first f ≡ f → o ≡ order c f → o < 4 → f * 4 + o ≡ code_of w t l c
  unfolding code_of
  code-found c f {o} e q h = rw (first-is c f e (rw q at h), q)

  pub code-self : (c : ℕ) → first c ≡ c → c * 4 ≡ code_of w t l c
  unfolding code_of
  code-self c e = rw e (omega (arith, order-self c))

  pub code-is-self : (c : ℕ) → code_of w t l c ≡ c * 4 → first c ≡ c
  unfolding code_of
  code-is-self c e = omega (arith, first-flip c)
