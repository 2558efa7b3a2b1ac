-- The flips of a tile: one after the other they are one flip, and each undoes itself. Assumes nothing.
use mathlib.Core.Path.{◌≡◌, refl, ap, ◌∙◌}
use mathlib.Core.Bool.{Bool, true, false, not}
use mathlib.Core.List.{List}
use Prim.Native.Nat.{ℕ, ◌+◌, ◌*◌, ◌<◌, ◌%◌, ◌^◌}
use native.Mathlib.Omega.{arith}
use lib.IntN.{ℤ, pos}
use lib.ListN.{length, get_or}
use Rattle.tile_cells.specs.Tile.{grid, turned, flipped}
use Rattle.tile_cells.specs.Seen.{row_seen, tile_seen, tile_at}
use Rattle.tile_cells.specs.Key.{number_of, key_of}
use Rattle.tile_cells.proofs.Grids.{length-grid, grid-at, grid-same, grid-of}

-- one flip after another, on one axis
abbrev pub joint : Bool → Bool → Bool
joint true b = not b
joint false b = b

pub joint-self : (b : Bool) → joint b b ≡ false
joint-self true = refl
joint-self false = refl

pub turned-below : (f : Bool) {t y : ℕ} → y < t → turned f t y < t
unfolding turned
turned-below true h = omega arith
turned-below false h = h

pub turned-twice : (a b : Bool) {t y : ℕ} → y < t → turned a t (turned b t y) ≡ turned (joint a b) t y
unfolding turned
turned-twice true true h = omega arith
turned-twice true false h = refl
turned-twice false true h = refl
turned-twice false false h = refl

module _ (t : ℕ) where
  pub flipped-grid : (fh fv : Bool) (f : ℕ → ℕ → ℤ) → flipped t fh fv (grid t f) ≡ grid t (λ y x. f (turned fv t y) (turned fh t x))
  unfolding flipped
  flipped-grid fh fv f = grid-same t _ _ (λ y x h k. grid-at t f (pos 0) (turned-below fv h) (turned-below fh k))

  pub length-flipped : (fh fv : Bool) (l : List ℤ) → length (flipped t fh fv l) ≡ t * t
  unfolding flipped
  length-flipped fh fv l = length-grid t _

  pub flipped-twice : (a b c d : Bool) (l : List ℤ) → flipped t a b (flipped t c d l) ≡ flipped t (joint c a) (joint d b) l
  unfolding flipped
  flipped-twice a b c d l =
      flipped-grid a b (λ y x. get_or l (turned d t y * t + turned c t x) (pos 0))
      ∙ grid-same t _ _ (λ y x h k. rw (turned-twice d b h, turned-twice c a k))

  module _ (l : List ℤ) (e : length l ≡ t * t) where
    pub flipped-none : flipped t false false l ≡ l
    unfolding flipped turned
    flipped-none = grid-of t (pos 0) l e

    pub flipped-back : (fh fv : Bool) → flipped t fh fv (flipped t fh fv l) ≡ l
    flipped-back fh fv = flipped-twice fh fv fh fv l ∙ rw (joint-self fh, joint-self fv) flipped-none

  -- ---- a tile where it lies
  pub seen-flipped : (l : List ℤ) (corner stride : ℕ) (fh fv : Bool) → flipped t fh fv (tile_at l corner stride t) ≡ tile_seen l corner stride t fh fv
  unfolding tile_seen row_seen grid turned
  seen-flipped l corner stride fh fv = flipped-grid fh fv (λ y x. get_or l (corner + y * stride + x) (pos 0))

  -- a tile that stands by itself
  pub alone-flipped : (l : List ℤ) (fh fv : Bool) → tile_seen l 0 t t fh fv ≡ flipped t fh fv l
  unfolding tile_seen row_seen grid flipped
  alone-flipped l fh fv = grid-same t (λ y x. get_or l (0 + turned fv t y * t + turned fh t x) (pos 0)) (λ y x. get_or l (turned fv t y * t + turned fh t x) (pos 0)) (λ y x h k. ap (λ (p : ℕ). get_or l p (pos 0)) (omega arith))

  -- ---- flips keep the key
  pub key-flipped : (fh fv : Bool) (l : List ℤ) → key_of t (flipped t fh fv l) ≡ key_of t l
  unfolding key_of
  key-flipped fh fv l =
      rw (flipped-twice false false fh fv l, flipped-twice true false fh fv l, flipped-twice false true fh fv l, flipped-twice true true fh fv l)
      (together fh fv)
    where
      n : Bool → Bool → ℕ
      n a b = number_of (flipped t a b l)

      together : (fh fv : Bool)
          → (n (joint fh false) (joint fv false) + n (joint fh true) (joint fv false) + n (joint fh false) (joint fv true) + n (joint fh true) (joint fv true)) % 2 ^ 32
          ≡ (n false false + n true false + n false true + n true true) % 2 ^ 32
      together false false = refl
      together true false = ap (λ (m : ℕ). m % 2 ^ 32) (omega arith)
      together false true = ap (λ (m : ℕ). m % 2 ^ 32) (omega arith)
      together true true = ap (λ (m : ℕ). m % 2 ^ 32) (omega arith)

  pub key-seen : (l : List ℤ) (corner stride : ℕ) {a b c d : ℕ} → a ≡ number_of (tile_seen l corner stride t false false) → b ≡ number_of (tile_seen l corner stride t true false)
      → c ≡ number_of (tile_seen l corner stride t false true) → d ≡ number_of (tile_seen l corner stride t true true) → (a + b + c + d) % 2 ^ 32 ≡ key_of t (tile_at l corner stride t)
  unfolding key_of
  key-seen l corner stride p q r s =
      rw (seen-flipped l corner stride false false, seen-flipped l corner stride true false, seen-flipped l corner stride false true, seen-flipped l corner stride true true, p, q, r, s)
