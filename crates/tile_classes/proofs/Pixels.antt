-- The cells told apart by the pixels of their least flip: the numbers, a round, and what all rounds tell. Assumes nothing.
use mathlib.Core.Path.{◌≡◌, sym, ap, ◌∙◌}
use mathlib.Core.List.{List}
use Prim.Native.Nat.{ℕ, ◌+◌, ◌*◌, ◌%◌, ◌^◌, ◌<◌, ◌≤◌}
use native.Mathlib.Nat.{zero-add}
use native.Mathlib.Omega.{arith}
use lib.IntN.{ℤ, pos}
use lib.ListN.{length, get_or}
use lib.Seq.{ext_get_or}
use Rattle.tile_cells.specs.Tile.{turned_by}
use Rattle.tile_cells.specs.Seen.{tile_at}
use Rattle.tile_cells.specs.Cells.{cell_of, corner_of}
use Rattle.tile_cells.proofs.Corners.{cell-seen}
use Rattle.tile_least.specs.Least.{least_of, Digit}
use Rattle.tile_least.proofs.Bits.{digit-same}
use Rattle.tile_least.proofs.Leasts.{length-least, alike-least, least-alike}
use Rattle.tile_classes.specs.Places.{class_in, order_in, key_in, cell_in}
use Rattle.tile_classes.specs.Ranks.{Written, Ranked, Listed}
use Rattle.tile_classes.specs.Classes.{old_in, digit_in, NumberOf, Numbered}
use Rattle.tile_classes.specs.Pixels.{pixel_of, LeastBy, Told}
use Rattle.tile_classes.specs.Firsts.{Grouped}
use Rattle.tile_classes.proofs.Shuffles.{Shuffled}
use Rattle.tile_classes.proofs.Round.{listed, kept-order, classed-none, classed-next}

digit-unique : (z : ℤ) (r q : ℕ) → Digit z r → Digit z q → r ≡ q
digit-unique z r q a b = a.is ∙ sym b.is

digit-distinct : (y z : ℤ) (r : ℕ) → Digit y r → Digit z r → y ≡ z
digit-distinct y z r a b = digit-same a b

-- a number by its parts
module _ (class d c : ℕ) (k : c < 2 ^ 20) (h : d < 2 ^ 16) where
  cell-of : cell_in (class * 2 ^ 37 + d * 2 ^ 21 + c) ≡ c
  unfolding cell_in
  cell-of = omega arith

  old-of : old_in (class * 2 ^ 37 + d * 2 ^ 21 + c) ≡ class
  unfolding old_in key_in
  old-of = omega arith

  digit-of : digit_in (class * 2 ^ 37 + d * 2 ^ 21 + c) ≡ d
  unfolding digit_in key_in
  digit-of = omega arith

pub number_is : {x : ℤ} (class d c : ℕ) → c < 2 ^ 20 → Digit x d → NumberOf Digit (class * 2 ^ 37 + d * 2 ^ 21 + c) class c x
number_is class d c k g =
    record { cell-is = cell-of class d c k g.small; class-is = old-of class d c k g.small; digit-is = rw (digit-of class d c k g.small) g }

module _ (w t : ℕ) (l : List ℤ) where
  -- what `least_order` and `digit` say of a cell
  pub order_least : (c : ℕ) {corner : ℕ} (r : ℕ) → corner ≡ corner_of w t c → r < 4 → turned_by t r (tile_at l corner w t) ≡ least_of t (tile_at l corner w t)
      → (class_in r ≡ 0) × LeastBy w t l c r
  unfolding class_in order_in
  order_least c r e h q = let o : r % 4 ≡ r = omega arith in (omega arith, rw o (rw (e, cell-seen w t l c) at q))

  pub pixel-digit : (c p : ℕ) {corner o r : ℕ} (v : ℕ) → corner ≡ corner_of w t c → o ≡ order_in v → LeastBy w t l c v
      → Digit (get_or (turned_by t o (tile_at l corner w t)) p (pos 0)) r → Digit (pixel_of w t l c p) r
  unfolding pixel_of
  pixel-digit c p v e q b g = rw (e, cell-seen w t l c, q, b) at g

  -- ---- every cell in its least order, in one class
  abbrev pub Started : List ℕ → List ℕ → ℕ → Type 0
  Started s₀ s c = Written 0 (λ d v. (class_in v ≡ 0) × LeastBy w t l d v) s₀ s c

  pub told_none : (n : ℕ) {s₀ s : List ℕ} → Started s₀ s n → n + n ≤ length s₀ → Told w t l n 0 s
  told_none n {s₀} {s} k r =
      record {
        classed = classed-none (omega (arith, k.long)) (λ c h. rw (zero-add c) at (k.numbers c h).0);
        least = λ c h. rw (zero-add c) at (k.numbers c h).1;
      }

  -- ---- a round
  module _ {n p : ℕ} {s₀ s₁ s₂ : List ℕ} (d : Told w t l n p s₀) (a : Numbered Digit n (λ c. pixel_of w t l c p) s₀ s₁ n) (b : Shuffled n s₁ s₂) where
    pub round-listed : Listed n s₂
    round-listed = listed Digit digit-unique digit-distinct d.classed.room a b

    pub told-next : {s₃ : List ℕ} → Ranked n s₂ s₃ n → Told w t l n (p + 1) s₃
    told-next {s₃} k =
        record {
          classed = classed-next Digit digit-unique digit-distinct d.classed a b k;
          least = λ c h. rw (kept-order Digit digit-unique digit-distinct d.classed.room a b k c h) (d.least c h);
        }

  -- ---- after all rounds cells have one class exactly when they are flips of each other
  pub told-all : {n : ℕ} {s : List ℕ} → Told w t l n (t * t) s → Grouped w t l n 0 s
  unfolding pixel_of
  told-all {n} {s} d =
      record {
        room = d.classed.room;
        small = λ c a h. d.classed.small c h;
        same = λ c e a h b g o. d.classed.same c e h g (λ q k. ap (λ (m : List ℤ). get_or m q (pos 0)) (alike-least w t l c e o));
        only = λ c e a h b g o. least-alike w t l c e (ext_get_or (pos 0) (least_of t (cell_of w t l c)) (least_of t (cell_of w t l e))
            (length-least t (cell_of w t l c) ∙ sym (length-least t (cell_of w t l e)))
            (λ q k. d.classed.only c e h g o q (omega (arith, length-least t (cell_of w t l c)))));
      }
