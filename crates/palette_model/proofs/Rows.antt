-- The remap, listed row by row. Assumes nothing.
use mathlib.Core.Path.{◌≡◌, refl, sym, ap, ◌∙◌}
use mathlib.Core.Bool.{Bool, true, false, cond}
use mathlib.Core.List.{List, [], ◌∷◌, ◌++◌, map, map-append}
use Prim.Native.Nat.{ℕ, suc, ◌+◌, ◌*◌, ◌-◌, ◌^◌, ◌<◌, ◌≤◌}
use native.Mathlib.Nat.{add-zero, add-suc, zero-add, zero-mul, suc-mul, mul_comm, mul-le-mul_right, le_antisymm}
use native.Mathlib.Numerals.{add-one}
use native.Mathlib.Omega.{arith}
use borrow.Rule.Slice.PartMut.{put_mid}
use lib.Arith.{digits_div, digits_mod}
use mir.Syntax.{w16}
use mir.Val.{hbits, to_z, of_z}
use mir.Facts.{to_z_pos}
use lib.IntN.{ℤ, pos}
use lib.ListN.{length, take, drop, length-append, length-map, length-take, length-drop}
use lib.Seq.{take-add, take_all, length-take-le}
use Rattle.base.specs.Lists.{over}
use Rattle.base.proofs.Over.{over_none, over-lent, length_over}
use Rattle.base.specs.Ints.{eq_z}
use Rattle.edit.specs.Change.{packed}
use Rattle.edit_pixels.specs.Listing.{places_from}
use Rattle.palette_model.specs.Removal.{moved, remap_of}
use Rattle.edit_pixels.proofs.Places.{places-append, front, front-within}

-- an entry is an index
pub as-entry : {z : ℤ} {n : ℕ} → n ≤ 255 → z ≡ pos n → to_z w16 (of_z w16 z) ≡ pos n
as-entry {n = n} h e = rw e (to_z_pos w16 (small n h))
  where
    small : (n : ℕ) → n ≤ 255 → n < 2 ^ hbits w16
    small n h = omega arith

-- a row below h is inside the sheet
pub row_inside : (w h y : ℕ) → y < h → y * w + w ≤ w * h
row_inside w h y a = omega (arith, mul-le-mul_right w a, suc-mul y w, mul_comm h w)

module _ (i : ℕ) where
  -- how many there are does not depend on where they are counted from
  places_count : (p q : ℕ) (l : List ℤ) → length (places_from (pos i) p l) ≡ length (places_from (pos i) q l)
  unfolding places_from
  places_count p q [] = refl
  places_count p q (z ∷ l) = go (eq_z z (pos i)) (places_count (suc p) (suc q) l)
    where
      go : (b : Bool) → length (places_from (pos i) (suc p) l) ≡ length (places_from (pos i) (suc q) l)
          → length (cond b (p ∷ places_from (pos i) (suc p) l) (places_from (pos i) (suc p) l)) ≡ length (cond b (q ∷ places_from (pos i) (suc q) l) (places_from (pos i) (suc q) l))
      go true e = ap suc e
      go false e = e

module _ (w i target : ℕ) where
  -- the changes of places, as numbers
  pub numbers : List ℕ → List ℕ
  numbers ps = map packed (map (moved w i target) ps)

  numbers-append : (ps qs : List ℕ) → numbers (ps ++ qs) ≡ numbers ps ++ numbers qs
  unfolding numbers
  numbers-append ps qs = ap (map packed) (map-append (moved w i target) ps qs) ∙ map-append packed (map (moved w i target) ps) (map (moved w i target) qs)

  pub numbers-length : (ps : List ℕ) → length (numbers ps) ≡ length ps
  unfolding numbers
  numbers-length ps = length-map (map (moved w i target) ps) packed ∙ length-map ps (moved w i target)

  -- the change of a row's first pixel, and that of column x
  abbrev pub rowFirst : ℕ → ℕ
  rowFirst y = packed (record { x = 0; y = y; old = pos i; new = pos target })

  column : (y x : ℕ) → x < w → packed (moved w i target (y * w + x)) ≡ rowFirst y + x
  unfolding packed moved
  column y x h = rw (digits_mod y h, digits_div y h) (omega arith)

  -- the changes of a row's pixels
  in-row : (y x : ℕ) (l : List ℤ) → x + length l ≤ w → numbers (places_from (pos i) (y * w + x) l) ≡ map (λ c. rowFirst y + c) (places_from (pos i) x l)
  unfolding numbers places_from
  in-row y x [] h = refl
  in-row y x (z ∷ l) h = rw (← add-suc (y * w) x) (go (eq_z z (pos i)) (in-row y (suc x) l (omega arith)))
    where
      go : (b : Bool) → numbers (places_from (pos i) (y * w + suc x) l) ≡ map (λ c. rowFirst y + c) (places_from (pos i) (suc x) l)
          → numbers (cond b ((y * w + x) ∷ places_from (pos i) (y * w + suc x) l) (places_from (pos i) (y * w + suc x) l))
          ≡ map (λ c. rowFirst y + c) (cond b (x ∷ places_from (pos i) (suc x) l) (places_from (pos i) (suc x) l))
      go true e = rw (column y x (omega arith), e)
      go false e = e

  module _ (l : List ℤ) where
    -- the pixels of row y, as the code lends them
    abbrev row : ℕ → List ℤ
    row y = take (y * w + w - y * w) (drop (y * w) l)

    row-length : (y : ℕ) → y * w + w ≤ length l → length (row y) ≡ w
    row-length y h = simp (length-take, length-drop) (omega arith)

    rows_more : (y : ℕ) → take ((y + 1) * w) l ≡ take (y * w) l ++ row y
    rows_more y =
        let next : (y + 1) * w ≡ y * w + w = ap (λ (n : ℕ). n * w) (add-one y) ∙ suc-mul y w in
        let wide : w ≡ y * w + w - y * w = omega arith in
        ap (λ (n : ℕ). take n l) next ∙ take-add (y * w) w l ∙ ap (λ (n : ℕ). take (y * w) l ++ take n (drop (y * w) l)) wide

    front-more : (y : ℕ) → y * w + w ≤ length l → front (pos i) l ((y + 1) * w) ≡ front (pos i) l (y * w) ++ places_from (pos i) (y * w + 0) (row y)
    unfolding front
    front-more y h =
        rw (rows_more y, places-append (pos i) 0 (take (y * w) l) (row y), length-take-le (y * w) l (omega arith), zero-add (y * w), add-zero (y * w))

    count-more : (y : ℕ) → y * w + w ≤ length l → length (front (pos i) l ((y + 1) * w)) ≡ length (front (pos i) l (y * w)) + length (places_from (pos i) 0 (row y))
    count-more y h =
        ap (λ (m : List ℕ). length m) (front-more y h) ∙ length-append (front (pos i) l (y * w)) _ ∙ ap (λ (n : ℕ). length (front (pos i) l (y * w)) + n) (places_count i (y * w + 0) 0 (row y))

    numbers_more : (y : ℕ) → y * w + w ≤ length l → numbers (front (pos i) l ((y + 1) * w)) ≡ numbers (front (pos i) l (y * w)) ++ map (λ c. rowFirst y + c) (places_from (pos i) 0 (row y))
    numbers_more y h =
        ap numbers (front-more y h) ∙ numbers-append (front (pos i) l (y * w)) _
        ∙ ap (λ (m : List ℕ). numbers (front (pos i) l (y * w)) ++ m) (in-row y 0 (row y) (omega (arith, row-length y h)))

-- y rows are listed, n changes
pub record Rows (w i target : ℕ) (l : List ℤ) (list₀ list : List ℕ) (n y : ℕ) : Type 0 where
  pub long : length list ≡ length list₀
  pub within : n ≤ length list₀
  met : n ≡ length (front (pos i) l (y * w))
  listed : list ≡ over (numbers w i target (front (pos i) l (y * w))) list₀

module _ (w i target : ℕ) (l : List ℤ) where
  none-met : front (pos i) l (0 * w) ≡ []
  unfolding front places_from
  none-met = rw (zero-mul w)

  pub rows_none : (list : List ℕ) → Rows w i target l list list 0 0
  unfolding numbers
  rows_none list = record { long = refl; within = omega arith; met = rw none-met; listed = rw none-met (over_none list) }

module _ {w i target : ℕ} {l : List ℤ} {list₀ list : List ℕ} {n y : ℕ} (p : Rows w i target l list₀ list n y) where
  -- the row's changes have room
  pub rows-room : y * w + w ≤ length l → length (places_from (pos i) 0 l) ≤ length list₀ → n + length (places_from (pos i) 0 (row w i target l y)) ≤ length list₀
  rows-room h room = omega (arith, count-more w i target l y h, front-within (pos i) l ((y + 1) * w), p.met)

  pub rows-lent : y * w + w ≤ length l → length (places_from (pos i) 0 l) ≤ length list₀
      → length (places_from (pos i) 0 (row w i target l y)) ≤ length (take (length list - n) (drop n list))
  rows-lent h room = simp (length-take, length-drop) (omega (arith, rows-room h room, p.long))

  pub rows-wide : y * w + w ≤ length l → length (row w i target l y) ≡ w
  rows-wide h = row-length w i target l y h

  pub rows_next : (list' part : List ℕ) (first r : ℕ) → y * w + w ≤ length l → length (places_from (pos i) 0 l) ≤ length list₀ → first ≡ rowFirst w i target y
      → r ≡ length (places_from (pos i) 0 (row w i target l y))
      → part ≡ over (map (λ c. first + c) (places_from (pos i) 0 (row w i target l y))) (take (length list - n) (drop n list))
      → list' ≡ put_mid n (length list - n) list part
      → Rows w i target l list₀ list' (n + r) (y + 1)
  rows_next list' part first r h room f e q put =
      let fits = rows-room h room in
      let count = count-more w i target l y h in
      let joined : numbers w i target (front (pos i) l (y * w)) ++ map (λ c. first + c) (places_from (pos i) 0 (row w i target l y)) ≡ numbers w i target (front (pos i) l ((y + 1) * w))
      = rw f (sym (numbers_more w i target l y h)) in
      let written = put ∙ over-lent (numbers w i target (front (pos i) l (y * w))) (map (λ c. first + c) (places_from (pos i) 0 (row w i target l y))) list₀ list part n
      (numbers-length w i target (front (pos i) l (y * w)) ∙ sym p.met) p.listed q
      ∙ ap (λ (m : List ℕ). over m list₀) joined in
      let met : n + r ≡ length (front (pos i) l ((y + 1) * w)) = omega (arith, count, p.met, e) in
      record {
        long = ap (λ (m : List ℕ). length m) written
            ∙ length_over (numbers w i target (front (pos i) l ((y + 1) * w))) list₀ (omega (arith, numbers-length w i target (front (pos i) l ((y + 1) * w)), met, fits, e));
        within = omega (arith, fits, e);
        met = met;
        listed = written;
      }

  pub rows_all : (h : ℕ) → y ≤ h → h ≤ y → length l ≡ w * h → list ≡ over (map packed (remap_of w l i target)) list₀
  unfolding front numbers remap_of
  rows_all h a b e =
      let all : length l ≤ y * w = omega (arith, e, ap (λ (m : ℕ). m * w) (le_antisymm a b), mul_comm h w) in
      rw (take_all (y * w) l all) at p.listed
