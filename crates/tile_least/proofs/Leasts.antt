-- A tile and its flips have one least reading, and tiles that have are flips of each other. Assumes nothing.
use mathlib.Core.Path.{◌≡◌, refl, sym, ap, ◌∙◌}
use mathlib.Core.Bool.{Bool, true, false}
use mathlib.Core.List.{List}
use Prim.Native.Nat.{ℕ, ◌*◌, ◌<◌}
use borrow.Author.Tests.{lt-ltb, ltb-true}
use lib.Dec.{eqb}
use lib.IntN.{ℤ, pos}
use lib.ListN.{length, get_or}
use Rattle.tile_cells.specs.Tile.{flipped, flips, flip_at, turned_by, order_to, is_flip_of}
use Rattle.tile_cells.specs.Cells.{cell_of, corner_of, order_of}
use Rattle.tile_cells.specs.Seen.{tile_at}
use Rattle.tile_cells.proofs.Flipping.{joint, flipped-twice, length-flipped}
use Rattle.tile_cells.proofs.Orders.{FlipOf, order_flip, flip-order, flip-trans, flip-sym}
use Rattle.tile_cells.proofs.Corners.{length-cell, cell-seen}
use Rattle.tile_cells.proofs.Positions.{cases}
use Rattle.tile_least.specs.Least.{compared, lesser, seen_in, least_of, Digit}
use Rattle.tile_least.proofs.Comparing.{lesser-swap}

-- the lesser of two is one of them
one_of : {X : Type 0} (l m : List ℤ) → (lesser l m ≡ l → X) → (lesser l m ≡ m → X) → X
unfolding lesser
one_of l m f g = cases (eqb (compared l m) 2) (λ e. g (rw e)) (λ e. f (rw e))

-- ---- the least of four readings, one for each flip
abbrev least_by : (Bool → Bool → List ℤ) → List ℤ
least_by f = lesser (lesser (f false false) (f true false)) (lesser (f false true) (f true true))

-- a flip before changes which two are compared first, and in which order
module _ (n : ℕ) (f : Bool → Bool → List ℤ) (long : (h v : Bool) → length (f h v) ≡ n) where
  across : (v : Bool) → lesser (f true v) (f false v) ≡ lesser (f false v) (f true v)
  across v = lesser-swap (f true v) (f false v) (long true v ∙ sym (long false v))

  half : (v : Bool) → length (lesser (f false v) (f true v)) ≡ n
  half v = one_of (f false v) (f true v) (λ e. rw e (long false v)) (λ e. rw e (long true v))

  down : lesser (lesser (f false true) (f true true)) (lesser (f false false) (f true false)) ≡ least_by f
  down = lesser-swap (lesser (f false true) (f true true)) (lesser (f false false) (f true false)) (half true ∙ sym (half false))

  least-by : (h v : Bool) → least_by (λ a b. f (joint h a) (joint v b)) ≡ least_by f
  least-by false false = refl
  least-by true false = rw (across false, across true)
  least-by false true = down
  least-by true true = rw (across false, across true) down

module _ (t : ℕ) where
  abbrev turn : Bool → Bool → List ℤ → List ℤ
  turn = flipped t

  least-is : (tile : List ℤ) → least_of t tile ≡ least_by (λ h v. turn h v tile)
  unfolding least_of turned_by flip_at flips
  least-is tile = refl

  -- ---- the least reading is a flip of the tile
  lesser-flip : {tile l m : List ℤ} → FlipOf t tile l → FlipOf t tile m → FlipOf t tile (lesser l m)
  lesser-flip {tile} {l} {m} f g = one_of l m (λ e. rw e f) (λ e. rw e g)

  flip-by : (h v : Bool) (tile : List ℤ) → FlipOf t tile (turn h v tile)
  flip-by h v tile = record { h = h; v = v; is = refl }

  least-flips : (tile : List ℤ) → FlipOf t tile (least_of t tile)
  least-flips tile =
      rw (least-is tile)
      (lesser-flip (lesser-flip (flip-by false false tile) (flip-by true false tile)) (lesser-flip (flip-by false true tile) (flip-by true true tile)))

  pub length-least : (tile : List ℤ) → length (least_of t tile) ≡ t * t
  length-least tile = let f = least-flips tile in rw (← f.is) (length-flipped t f.h f.v tile)

  least-flipped : (h v : Bool) (tile : List ℤ) → least_of t (turn h v tile) ≡ least_of t tile
  least-flipped h v tile =
      rw (least-is (turn h v tile), least-is tile, flipped-twice t false false h v tile, flipped-twice t true false h v tile)
      (rw (flipped-twice t false true h v tile, flipped-twice t true true h v tile)
      (least-by (t * t) (λ a b. turn a b tile) (λ a b. length-flipped t a b tile) h v))

  -- ---- flips of each other, and they alone, have one least reading
  flips-least : {a b : List ℤ} → FlipOf t a b → least_of t a ≡ least_of t b
  flips-least {a} f = sym (least-flipped f.h f.v a) ∙ ap (least_of t) f.is

  least-flips-of : (a b : List ℤ) → length b ≡ t * t → least_of t a ≡ least_of t b → FlipOf t a b
  least-flips-of a b h e = flip-trans t (least-flips a) (rw e (flip-sym t h (least-flips b)))

  pub flip-least : (a b : List ℤ) → is_flip_of t a b ≡ true → least_of t a ≡ least_of t b
  unfolding is_flip_of
  flip-least a b e = flips-least (order_flip t a b (ltb-true (order_to t a b) 4 e))

  pub least-flip : (a b : List ℤ) → length b ≡ t * t → least_of t a ≡ least_of t b → is_flip_of t a b ≡ true
  unfolding is_flip_of
  least-flip a b h e = lt-ltb (order_to t a b) 4 (flip-order t a b (least-flips-of a b h e))

-- ---- the same of cells
module _ (w t : ℕ) (l : List ℤ) (c : ℕ) where
  abbrev cell : ℕ → List ℤ
  cell = cell_of w t l

  pub alike-least : (d : ℕ) → order_of w t l c d < 4 → least_of t (cell c) ≡ least_of t (cell d)
  unfolding order_of
  alike-least d h = flips-least t (order_flip t (cell c) (cell d) h)

  pub least-alike : (d : ℕ) → least_of t (cell c) ≡ least_of t (cell d) → order_of w t l c d < 4
  unfolding order_of
  least-alike d e = flip-order t (cell c) (cell d) (least-flips-of t (cell c) (cell d) (length-cell w t l d) e)

  -- what was read at the order in which the cell reads least
  pub least-digit : {corner r : ℕ} (o p : ℕ) → corner ≡ corner_of w t c → seen_in l corner w t o ≡ least_of t (tile_at l corner w t)
      → Digit (get_or (seen_in l corner w t o) p (pos 0)) r
      → Digit (get_or (least_of t (cell c)) p (pos 0)) r
  least-digit o p a e d = rw (← cell-seen w t l c, ← a, ← e) d
