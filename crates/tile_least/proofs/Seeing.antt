-- Two flips of a tile compared where it lies, index by index and row by row, and an index of a flip. Assumes nothing.
use mathlib.Core.Path.{◌≡◌, sym, ap, ◌∙◌}
use mathlib.Core.Bool.{Bool}
use mathlib.Core.List.{List, map, flat_map}
use Prim.Native.Nat.{ℕ, ◌+◌, ◌*◌, ◌/◌, ◌%◌, ◌<◌, ◌≤◌}
use native.Mathlib.Nat.{mod-lt, div-add-mod', div-lt_iff_lt-mul}
use native.Mathlib.Omega.{arith}
use lib.IntN.{ℤ, pos}
use lib.ListN.{get_or}
use Rattle.base.specs.Lists.{range}
use Rattle.tile_cells.specs.Tile.{grid, turned, flip_at, turned_by}
use Rattle.tile_cells.specs.Seen.{in_row, row_seen, row_of, tile_seen}
use Rattle.tile_cells.proofs.Grids.{grid-at}
use Rattle.tile_cells.proofs.Lying.{length-row-seen}
use Rattle.tile_cells.proofs.Flipping.{seen-flipped}
use Rattle.base.specs.Checks.{or_else}
use Rattle.tile_least.specs.Least.{compared_z, compared, seen_in}
use Rattle.tile_least.proofs.Comparing.{still-same, decides, row-grows, rows_grow}

-- ---- two rows, once their first x indices are the same
module _ (l : List ℤ) (p q t : ℕ) (ph qh : Bool) (x : ℕ) where
  abbrev f : ℕ → ℤ
  f = in_row l p t ph

  abbrev g : ℕ → ℤ
  g = in_row l q t qh

  abbrev up_to : ℕ → ℕ
  up_to x = compared (map f (range 0 x)) (map g (range 0 x))

  -- the two that were read
  pub indices-are : {r : ℕ} {a b : ℤ} → r ≡ compared_z a b → a ≡ f x → b ≡ g x → r ≡ compared_z (f x) (g x)
  indices-are e u v = rw (← u, ← v) e

  module _ (s : up_to x ≡ 0) {r : ℕ} (e : r ≡ compared_z (f x) (g x)) where
    pub index_same : r ≡ 0 → up_to (x + 1) ≡ 0
    index_same z = still-same up_to (λ x. compared_z (f x) (g x)) (row-grows f g) x s e z

    pub index-decides : x < t → 1 ≤ r → r ≡ compared (row_seen l p t ph) (row_seen l q t qh)
    unfolding row_seen
    index-decides h z = decides up_to (λ x. compared_z (f x) (g x)) (row-grows f g) x t r (omega arith) s e z

-- ---- two flips, once their first y rows are the same
module _ (l : List ℤ) (corner stride t : ℕ) (ph pv qh qv : Bool) (y : ℕ) where
  abbrev rf : ℕ → List ℤ
  rf = row_of l corner stride t ph pv

  abbrev rg : ℕ → List ℤ
  rg = row_of l corner stride t qh qv

  abbrev rows : ℕ → ℕ
  rows y = compared (flat_map rf (range 0 y)) (flat_map rg (range 0 y))

  -- the two that were compared
  pub rows_are : {r i j : ℕ} → r ≡ compared (row_seen l (corner + i * stride) t ph) (row_seen l (corner + j * stride) t qh)
      → i ≡ turned pv t y → j ≡ turned qv t y → r ≡ compared (rf y) (rg y)
  rows_are e u v = rw (← u, ← v) e

  grow : (y : ℕ) → rows (y + 1) ≡ or_else (rows y) (compared (rf y) (rg y))
  grow = rows_grow rf rg t (λ y. length-row-seen l (corner + turned pv t y * stride) t ph) (λ y. length-row-seen l (corner + turned qv t y * stride) t qh)

  module _ (s : rows y ≡ 0) {r : ℕ} (e : r ≡ compared (rf y) (rg y)) where
    pub row_same : r ≡ 0 → rows (y + 1) ≡ 0
    row_same z = still-same rows (λ y. compared (rf y) (rg y)) grow y s e z

    pub row-decides : y < t → 1 ≤ r → r ≡ compared (tile_seen l corner stride t ph pv) (tile_seen l corner stride t qh qv)
    unfolding tile_seen
    row-decides h z = decides rows (λ y. compared (rf y) (rg y)) grow y t r (omega arith) s e z

-- ---- a tile seen in an order, where it lies
order-seen : (l : List ℤ) (corner stride t order : ℕ) {fh fv : Bool} → order < 4 → fh ≡ (flip_at (order % 4)).h → fv ≡ (flip_at (order % 4)).v
    → seen_in l corner stride t order ≡ tile_seen l corner stride t fh fv
unfolding turned_by
order-seen l corner stride t order {fh} {fv} o a b =
    let e : order % 4 ≡ order = omega arith in
    rw (← (rw e at a), ← (rw e at b)) (seen-flipped t l corner stride fh fv)

-- ---- the index at place p
seen_at : (l : List ℤ) (corner stride t : ℕ) (fh fv : Bool) (p : ℕ) → 0 < t → p < t * t
    → get_or (tile_seen l corner stride t fh fv) p (pos 0) ≡ get_or l (corner + turned fv t (p / t) * stride + turned fh t (p % t)) (pos 0)
unfolding tile_seen row_seen grid
seen_at l corner stride t fh fv p side h =
    ap (λ (q : ℕ). get_or (tile_seen l corner stride t fh fv) q (pos 0)) (sym (div-add-mod' p t))
    ∙ grid-at t (λ y x. get_or l (corner + turned fv t y * stride + turned fh t x) (pos 0)) (pos 0) ((div-lt_iff_lt-mul side).1 h) (mod-lt p side)

pub index_at : (l : List ℤ) (corner stride t order p : ℕ) {fh fv : Bool} {y x : ℕ} → 0 < t → p < t * t → order < 4 → fh ≡ (flip_at (order % 4)).h → fv ≡ (flip_at (order % 4)).v
    → x ≡ turned fh t (p % t) → y ≡ turned fv t (p / t)
    → get_or l (corner + y * stride + x) (pos 0) ≡ get_or (seen_in l corner stride t order) p (pos 0)
index_at l corner stride t order p {fh} {fv} side h o a b u v =
    rw (u, v, order-seen l corner stride t order o a b) (sym (seen_at l corner stride t fh fv p side h))

-- ---- the two orders that were compared
pub orders-are : (l : List ℤ) (corner stride t o q : ℕ) {oh ov qh qv : Bool} {n : ℕ} → o < 4 → q < 4 → oh ≡ (flip_at (o % 4)).h → ov ≡ (flip_at (o % 4)).v
    → qh ≡ (flip_at (q % 4)).h → qv ≡ (flip_at (q % 4)).v
    → n ≡ compared (tile_seen l corner stride t oh ov) (tile_seen l corner stride t qh qv)
    → n ≡ compared (seen_in l corner stride t o) (seen_in l corner stride t q)
orders-are l corner stride t o q f g a b c d e = rw (order-seen l corner stride t o f a b, order-seen l corner stride t q g c d) e
