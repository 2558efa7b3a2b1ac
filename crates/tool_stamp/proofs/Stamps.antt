-- The places of a brush's stamps: one box each, and stamp after stamp along a path. Assumes nothing.
use mathlib.Core.Path.{◌≡◌, refl, sym, ap, ◌∙◌}
use mathlib.Core.List.{List, [], ◌∷◌, ◌++◌, map, flat_map, map-append}
use Prim.Native.Nat.{ℕ, zero, suc, ◌+◌, ◌-◌, ◌/◌, ◌≤◌, ◌<◌}
use native.Mathlib.Omega.{arith}
use lib.IntN.{ℤ, pos, nat_abs, neg_ℤ, ◌+ℤ◌, ◌-ℤ◌, +ℤ-suc_ℤ}
use mir.Syntax.{w32}
use mir.Val.{SFits, to_z, of_z}
use mir.Facts.{to_z-of_z}
use mathlib.Core.Bool.{false}
use lib.ListN.{length}
use Rattle.base.specs.Lists.{range}
use Rattle.base.proofs.Collect.{range-next, flat_map-append, flat_map-one}
use Rattle.base.proofs.Sums.{abs-sum}
use Rattle.selection.specs.declared.Selection.{Selection}
use Rattle.base.specs.Ints.{far}
use Rattle.base.proofs.Back.{near-abs}
use Rattle.tool_line.specs.declared.Walk.{Walk}
use Rattle.tool_line.specs.Line.{Point, point, longer, point_at}
use Rattle.tool_line.specs.Walk.{standing, StandsAt}
use Rattle.tool_line.proofs.Points.{stands-point, stands-small}
use Rattle.tool_line.specs.Brush.{clamped, covered, stamp_at}
use Rattle.tool_line.proofs.Toward.{small, nat-back}
use Rattle.tool_stamp.specs.declared.Run.{Run}
use Rattle.tool_stamp.specs.Places.{set_all, place_at, places_of, clipped, box_places, stamp_places, Brush, Close}
use Rattle.tool_stamp.proofs.Clipping.{as-run, held, in_row, rows-held}
use Rattle.tool_stamp.proofs.Frames.{places, run-held, row-run, flat_map-same}
use Rattle.tool_stamp.proofs.Painted.{set-append}

-- ---- one axis
unfoldable pub axis : ℕ → ℤ → ℕ → ℕ → Run
axis n z from end = clipped (z -ℤ pos ((n - 1) / 2)) (z -ℤ pos ((n - 1) / 2) +ℤ pos (n - 1)) from end

covered-held : (from size n : ℕ) (z : ℤ) → 1 ≤ n → held from size (covered n z) ≡ places (axis n z from (from + size))
unfolding covered axis
covered-held from size n z h =
    let a : ℤ = z -ℤ pos ((n - 1) / 2) in
    let m : n ≡ suc (n - 1) = omega arith in
    ap (held from size) (as-run a n) ∙ run-held from size a (a +ℤ pos (n - 1)) n (ap (λ k. a +ℤ pos k) m ∙ +ℤ-suc_ℤ a (pos (n - 1)))

pub clamped-brush : (n : ℕ) → Brush n → clamped n ≡ n
unfolding clamped
clamped-brush n b = let s = b.some in let m = b.most in omega arith

pub brush-clamped : (size : ℕ) → Brush (clamped size)
unfolding clamped
brush-clamped size = record { some = omega arith; most = omega arith }

-- ---- one stamp
module _ (region : Selection) (w n : ℕ) (b : Brush n) where
  abbrev box : Point → List ℕ
  box p = box_places w (axis n p.x region.x (region.x + region.w)) (axis n p.y region.y (region.y + region.h))

  stamp-box : (p : Point) → places_of region w (stamp_at n p) ≡ box p
  unfolding stamp_at box_places
  stamp-box p =
      ap (λ k. places_of region w (flat_map (λ (y : ℤ). map (λ (x : ℤ). point x y) (covered k p.x)) (covered k p.y))) (clamped-brush n b)
      ∙ rows-held region w (λ y. covered n p.x) (covered n p.y)
      ∙ ap (flat_map (λ y. in_row region w (covered n p.x) y)) (covered-held region.y region.h n p.y b.some)
      ∙ flat_map-same _ _ (λ y. row-run region w (covered n p.x) (axis n p.x region.x (region.x + region.w)) y (covered-held region.x region.w n p.x b.some)) _

  pub one-stamp : (p : Point) → stamp_places region w n (p ∷ []) ≡ box p
  unfolding stamp_places
  one-stamp p = ap (places_of region w) (flat_map-one (stamp_at n) p) ∙ stamp-box p

-- ---- stamp after stamp
module _ (region : Selection) (w n : ℕ) where
  pub stamps-append : (ps qs : List Point) → stamp_places region w n (ps ++ qs) ≡ stamp_places region w n ps ++ stamp_places region w n qs
  unfolding stamp_places places_of
  stamps-append ps qs = ap (flat_map (place_at region w)) (flat_map-append (stamp_at n) ps qs) ∙ flat_map-append (place_at region w) (flat_map (stamp_at n) ps) (flat_map (stamp_at n) qs)

  module _ {A : Type 0} (v : A) where
    pub paint-append : (ps qs : List Point) (l : List A) → set_all (stamp_places region w n (ps ++ qs)) v l ≡ set_all (stamp_places region w n qs) v (set_all (stamp_places region w n ps) v l)
    paint-append ps qs l = ap (λ (k : List ℕ). set_all k v l) (stamps-append ps qs) ∙ set-append (stamp_places region w n ps) (stamp_places region w n qs) v l

-- ---- what fits
neg-abs : (k : ℕ) → nat_abs (neg_ℤ (pos k)) ≡ k
neg-abs zero = refl
neg-abs (suc k) = refl

module _ {n : ℕ} (b : Brush n) (z : ℤ) (c : Close z) where
  abbrev half : ℕ
  half = (n - 1) / 2

  half-small : half ≤ 8
  half-small = let m = b.most in omega arith

  few : nat_abs (z -ℤ pos half) ≤ 262152
  unfolding Close
  few = omega (arith, abs-sum z (neg_ℤ (pos half)), neg-abs half, half-small)

  -- the number as the code has it
  start : to_z w32 (of_z w32 z) -ℤ to_z w32 half ≡ z -ℤ pos half
  unfolding Close
  start = rw (to_z-of_z (small z (omega arith)), nat-back half (omega (arith, half-small)))

  start_fits : SFits w32 (z -ℤ pos half)
  start_fits = small (z -ℤ pos half) (omega (arith, few))

  pub sub-fits : SFits w32 (to_z w32 (of_z w32 z) -ℤ to_z w32 half)
  sub-fits = rw start start_fits

  end : to_z w32 (of_z w32 (to_z w32 (of_z w32 z) -ℤ to_z w32 half)) +ℤ to_z w32 (n - 1) ≡ z -ℤ pos half +ℤ pos (n - 1)
  end = let m = b.most in rw (start, to_z-of_z start_fits, nat-back (n - 1) (omega arith))

  end_fits : SFits w32 (z -ℤ pos half +ℤ pos (n - 1))
  end_fits = let m = b.most in small (z -ℤ pos half +ℤ pos (n - 1)) (omega (arith, few, abs-sum (z -ℤ pos half) (pos (n - 1))))

  pub add-fits : SFits w32 (to_z w32 (of_z w32 (to_z w32 (of_z w32 z) -ℤ to_z w32 half)) +ℤ to_z w32 (n - 1))
  add-fits = rw end end_fits

  pub run-clipped : (from stop : ℕ)
      → clipped (to_z w32 (of_z w32 (to_z w32 (of_z w32 z) -ℤ to_z w32 half))) (to_z w32 (of_z w32 (to_z w32 (of_z w32 (to_z w32 (of_z w32 z) -ℤ to_z w32 half)) +ℤ to_z w32 (n - 1)))) from stop
      ≡ clipped (z -ℤ pos half) (z -ℤ pos half +ℤ pos (n - 1)) from stop
  run-clipped from stop = rw (end, start, to_z-of_z start_fits, to_z-of_z end_fits)

-- ---- along a line
module _ (region : Selection) (w n : ℕ) (v : ℕ) (a b : Point) (s₀ : List ℕ) where
  pub record Lining (walk : Walk) (s : List ℕ) (j : ℕ) : Type 0 where
    pub stands : StandsAt a b j walk
    pub long : length s ≡ length s₀
    pub done : s ≡ set_all (stamp_places region w n (map (point_at a b) (range 1 j))) v s₀

  pub lining-next : (walk next : Walk) (s t : List ℕ) (j : ℕ) → Lining walk s j → j < longer a b
      → ((a b : Point) (j : ℕ) → StandsAt a b j walk → j < longer a b → StandsAt a b (j + 1) next)
      → t ≡ set_all (stamp_places region w n (standing next ∷ [])) v s → length t ≡ length s → Lining next t (j + 1)
  lining-next walk next s t j l h f e k =
      let g = f a b j l.stands h in
      let here : standing next ≡ point_at a b (1 + j) = stands-point g ∙ ap (point_at a b) (omega arith) in
      let path : map (point_at a b) (range 1 (j + 1)) ≡ map (point_at a b) (range 1 j) ++ (point_at a b (1 + j) ∷ []) = ap (map (point_at a b)) (range-next 1 j) ∙ map-append (point_at a b) (range 1 j) ((1 + j) ∷ []) in
      record {
        stands = g;
        long = k ∙ l.long;
        done = e ∙ ap (λ (q : Point). set_all (stamp_places region w n (q ∷ [])) v s) here ∙ ap (set_all (stamp_places region w n (point_at a b (1 + j) ∷ [])) v) l.done
            ∙ sym (paint-append region w n v (map (point_at a b) (range 1 j)) (point_at a b (1 + j) ∷ []) s₀) ∙ ap (λ (ps : List Point). set_all (stamp_places region w n ps) v s₀) (sym path);
      }

pub record Standing (walk : Walk) : Type 0 where
  pub across : Close walk.x.at
  pub down : Close walk.y.at
  pub x_fits : SFits w32 walk.x.at
  pub y-fits : SFits w32 walk.y.at

pub stand-close : {a b : Point} {j : ℕ} {walk : Walk} → StandsAt a b j walk → Standing walk
unfolding Close
stand-close {walk = walk} s = let f = stands-small s in let x = f.across in let y = f.down in record { across = x; down = y; x_fits = small walk.x.at (omega arith); y-fits = small walk.y.at (omega arith) }

pub near-close : (z : ℤ) → far z ≡ false → Close z
unfolding Close
near-close z e = omega (arith, near-abs z e)
