-- The first order in which a tile is another one, and that being a flip of is an equivalence. Assumes nothing.
use mathlib.Core.Path.{◌≡◌, refl, sym, ap, ◌∙◌}
use mathlib.Core.Bool.{Bool, true, false}
use mathlib.Core.List.{List}
use Prim.Native.Nat.{ℕ, ◌*◌, ◌<◌, ◌≤◌}
use native.Mathlib.Decide.{dec_le}
use native.Mathlib.Omega.{arith}
use lib.IntN.{ℤ}
use lib.ListN.{length}
use Rattle.base.specs.Lists.{range}
use Rattle.base.proofs.Collect.{length-range}
use Rattle.base.proofs.Back.{never}
use Rattle.tile_cells.specs.Tile.{flipped, flips, flip_at, turned_by, same_tile, position, order_to}
use Rattle.tile_cells.proofs.Rows.{range_at}
use Rattle.tile_cells.proofs.Sameness.{same-equal, equal-same}
use Rattle.tile_cells.specs.Seen.{tile_seen, tile_at}
use Rattle.tile_cells.specs.Key.{key_of}
use Rattle.tile_cells.proofs.Flipping.{joint, flipped-twice, flipped-none, flipped-back, seen-flipped, key-flipped}
use Rattle.tile_cells.proofs.Positions.{position-le, position-has, position-none}

-- the order of a flip
abbrev pub order_for : Bool → Bool → ℕ
order_for false false = 0
order_for true false = 1
order_for false true = 2
order_for true true = 3

pub order_below : (h v : Bool) → order_for h v < 4
order_below false false = omega arith
order_below true false = omega arith
order_below false true = omega arith
order_below true true = omega arith

pub turned-for : (t : ℕ) (h v : Bool) (l : List ℤ) → turned_by t (order_for h v) l ≡ flipped t h v l
unfolding turned_by flip_at flips
turned-for t false false l = refl
turned-for t true false l = refl
turned-for t false true l = refl
turned-for t true true l = refl

-- tile, flipped by h and v, is u
pub record FlipOf (t : ℕ) (tile u : List ℤ) : Type 0 where
  pub h : Bool
  pub v : Bool
  pub is : flipped t h v tile ≡ u

abbrev tries : ℕ → List ℤ → List ℤ → ℕ → Bool
tries t tile u order = same_tile (turned_by t order tile) u

module _ (t : ℕ) (tile u : List ℤ) where
  pub order-at : order_to t tile u < 4 → turned_by t (order_to t tile u) tile ≡ u
  unfolding order_to
  order-at h =
      let o : ℕ = position (tries t tile u) (range 0 4) in
      same-equal (turned_by t o tile) u (rw (range_at 4 o 0 h) at (position-has (tries t tile u) 0 (range 0 4) (omega (arith, length-range 0 4))))

  pub order-most : order_to t tile u ≤ 4
  unfolding order_to
  order-most = omega (arith, position-le (tries t tile u) (range 0 4), length-range 0 4)

  -- no order below it does
  pub order-before : (o : ℕ) → o < order_to t tile u → tries t tile u o ≡ false
  unfolding order_to
  order-before o h =
      let k : position (tries t tile u) (range 0 4) ≤ 4 = omega (arith, position-le (tries t tile u) (range 0 4), length-range 0 4) in
      rw (range_at 4 o 0 (omega arith)) at (position-none (tries t tile u) 0 (range 0 4) o h)

  pub order-below-of : (o : ℕ) → o < 4 → turned_by t o tile ≡ u → order_to t tile u ≤ o
  order-below-of o h e = elim (dec_le (order_to t tile u) o) [
    | yes k ↦ k
    | no k ↦ never (sym (order-before o (omega arith)) ∙ equal-same (turned_by t o tile) u e)
  ]

  pub flip-order : FlipOf t tile u → order_to t tile u < 4
  flip-order f =
      let o : ℕ = order_for f.h f.v in
      omega (arith, order_below f.h f.v, order-below-of o (order_below f.h f.v) (turned-for t f.h f.v tile ∙ f.is))

  pub order_flip : order_to t tile u < 4 → FlipOf t tile u
  unfolding turned_by
  order_flip h = record { h = (flip_at (order_to t tile u)).h; v = (flip_at (order_to t tile u)).v; is = order-at h }

-- ---- being a flip of is an equivalence
pub flip-trans : (t : ℕ) {k l m : List ℤ} → FlipOf t k l → FlipOf t l m → FlipOf t k m
flip-trans t {k} f g = record { h = joint f.h g.h; v = joint f.v g.v; is = sym (flipped-twice t g.h g.v f.h f.v k) ∙ rw f.is g.is }

module _ (t : ℕ) {k l : List ℤ} where
  pub flip-sym : length k ≡ t * t → FlipOf t k l → FlipOf t l k
  flip-sym e f = record { h = f.h; v = f.v; is = rw (← f.is) (flipped-back t k e f.h f.v) }

  pub flip-key : FlipOf t k l → key_of t k ≡ key_of t l
  flip-key f = sym (key-flipped t f.h f.v k) ∙ ap (key_of t) f.is

pub flip-self : (t : ℕ) (k : List ℤ) → length k ≡ t * t → order_to t k k ≡ 0
unfolding turned_by flip_at flips
flip-self t k e = omega (arith, order-below-of t k k 0 (omega arith) (flipped-none t k e))

-- ---- the four tests in a row
module _ (l : List ℤ) (p q stride t : ℕ) where
  abbrev of : Bool → Bool → Bool
  of h v = same_tile (tile_seen l p stride t h v) (tile_at l q stride t)

  abbrev order : ℕ
  order = order_to t (tile_at l p stride t) (tile_at l q stride t)

  tried : (h v : Bool) {r b : Bool} → r ≡ of h v → r ≡ b → tries t (tile_at l p stride t) (tile_at l q stride t) (order_for h v) ≡ b
  tried h v e k = ap (λ (n : List ℤ). same_tile n (tile_at l q stride t)) (turned-for t h v (tile_at l p stride t) ∙ seen-flipped t l p stride h v) ∙ sym e ∙ k

  module _ {a : Bool} (ea : a ≡ of false false) where
    pub order-0 : a ≡ true → 0 ≡ order
    unfolding order_to position range
    order-0 x = rw (tried false false ea x)

    module _ {b : Bool} (na : a ≡ false) (eb : b ≡ of true false) where
      pub order-1 : b ≡ true → 1 ≡ order
      unfolding order_to position range
      order-1 x = rw (tried false false ea na, tried true false eb x)

      module _ {c : Bool} (nb : b ≡ false) (ec : c ≡ of false true) where
        pub order-2 : c ≡ true → 2 ≡ order
        unfolding order_to position range
        order-2 x = rw (tried false false ea na, tried true false eb nb, tried false true ec x)

        module _ {d : Bool} (nc : c ≡ false) (ed : d ≡ of true true) where
          pub order-3 : d ≡ true → 3 ≡ order
          unfolding order_to position range
          order-3 x = rw (tried false false ea na, tried true false eb nb, tried false true ec nc, tried true true ed x)

          pub order-4 : d ≡ false → 4 ≡ order
          unfolding order_to position range
          order-4 x = rw (tried false false ea na, tried true false eb nb, tried false true ec nc, tried true true ed x)
