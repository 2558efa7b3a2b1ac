-- The changes of a region, row by row: what a row of it gives, and the rows so far. Assumes nothing.
use mathlib.Core.Path.{◌≡◌, refl, sym, ap, ◌∙◌}
use mathlib.Core.Bool.{Bool, true, false, cond}
use mathlib.Core.List.{List, ◌∷◌, ◌++◌, map, map-append, flat_map}
use Prim.Native.Nat.{ℕ, zero, suc, ◌+◌, ◌*◌, ◌-◌, ◌<◌, ◌≤◌}
use native.Mathlib.Nat.{add-zero, add-suc}
use native.Mathlib.Omega.{arith}
use borrow.Rule.Slice.PartMut.{put_mid}
use lib.IntN.{ℤ, pos}
use lib.ListN.{length, get_or, take, drop, length-append, length-map, length-take, length-drop}
use lib.Seq.{drop-cons}
use Rattle.base.specs.Lists.{range, over, kept}
use Rattle.base.proofs.Kept.{kept_append}
use Rattle.base.proofs.Over.{over_none, over-lent, length_over}
use Rattle.base.proofs.Collect.{range-next, range-append, flat_map-append, flat_map-one}
use Rattle.base.specs.Ints.{eq_z}
use Rattle.selection_spans.specs.Positions.{Position, position, row, rows}
use Rattle.edit.specs.Change.{packed}
use Rattle.edit_pixels.specs.Listing.{places_from}
use Rattle.edit_pixels.proofs.Places.{places-few}
use Rattle.tool_fill_model.specs.Fills.{has_index, replacing}

module _ (w : ℕ) (l : List ℤ) (from : ℤ) where
  abbrev pub hits : List Position → List Position
  hits ps = kept (has_index w l from) ps

  -- n pixels at a place, as the code lends them
  abbrev pub lent : ℕ → ℕ → List ℤ
  lent at n = take (at + n - at) (drop at l)

  lent_is : (at n : ℕ) → lent at n ≡ take n (drop at l)
  lent_is at n = let e : at + n - at ≡ n = omega arith in rw e

  pub lent_length : (at n : ℕ) → at + n ≤ length l → length (lent at n) ≡ n
  lent_length at n h = simp (length-take, length-drop) (omega arith)

  -- ---- the changes as numbers
  module _ (to : ℤ) where
    unfoldable pub numbers : List Position → List ℕ
    numbers ps = map packed (map (replacing from to) ps)

    numbers-append : (ps qs : List Position) → numbers (ps ++ qs) ≡ numbers ps ++ numbers qs
    unfolding numbers
    numbers-append ps qs = ap (map packed) (map-append (replacing from to) ps qs) ∙ map-append packed (map (replacing from to) ps) (map (replacing from to) qs)

    pub numbers-length : (ps : List Position) → length (numbers ps) ≡ length ps
    unfolding numbers
    numbers-length ps = length-map (map (replacing from to) ps) packed ∙ length-map ps (replacing from to)

    -- the change of a row's first pixel, and that of column x + i
    abbrev pub rowFirst : ℕ → ℕ → ℕ
    rowFirst x y = packed (record { x = x; y = y; old = from; new = to })

    column : (x y i : ℕ) → packed (replacing from to (position y (x + i))) ≡ rowFirst x y + i
    unfolding packed replacing
    column x y i = omega arith

    in-row : (x y i n : ℕ) → y * w + (x + i) + n ≤ length l
        → numbers (hits (map (position y) (range (x + i) n))) ≡ map (λ c. rowFirst x y + c) (places_from from i (take n (drop (y * w + (x + i)) l)))
    unfolding numbers kept range places_from has_index
    in-row x y i zero h = refl
    in-row x y i (suc n) h =
        rw (drop-cons l (y * w + (x + i)) (pos 0) (omega arith))
        (go (eq_z (get_or l (y * w + (x + i)) (pos 0)) from) (rw (add-suc x i, add-suc (y * w) (x + i)) at (in-row x y (suc i) n (omega (arith, add-suc x i)))))
      where
        go : (b : Bool) → numbers (hits (map (position y) (range (suc (x + i)) n))) ≡ map (λ c. rowFirst x y + c) (places_from from (suc i) (take n (drop (suc (y * w + (x + i))) l)))
            → numbers (cond b (position y (x + i) ∷ hits (map (position y) (range (suc (x + i)) n))) (hits (map (position y) (range (suc (x + i)) n))))
            ≡ map (λ c. rowFirst x y + c) (cond b (i ∷ places_from from (suc i) (take n (drop (suc (y * w + (x + i))) l))) (places_from from (suc i) (take n (drop (suc (y * w + (x + i))) l))))
        go true e = rw (column x y i, e)
        go false e = e

    row-numbers : (x y n : ℕ) → y * w + x + n ≤ length l → numbers (hits (row x n y)) ≡ map (λ c. rowFirst x y + c) (places_from from 0 (lent (y * w + x) n))
    unfolding row
    row-numbers x y n h = rw (lent_is (y * w + x) n) (rw (add-zero x) at (in-row x y 0 n (omega (arith, add-zero x))))

  pub row_count : (x y n : ℕ) → y * w + x + n ≤ length l → length (places_from from 0 (lent (y * w + x) n)) ≡ length (hits (row x n y))
  row_count x y n h =
      sym (length-map (places_from from 0 (lent (y * w + x) n)) (λ c. rowFirst from x y + c))
      ∙ ap (λ (m : List ℕ). length m) (sym (row-numbers from x y n h))
      ∙ numbers-length from (hits (row x n y))

  row-few : (x y n : ℕ) → y * w + x + n ≤ length l → length (places_from from 0 (lent (y * w + x) n)) ≤ n
  row-few x y n h = omega (arith, places-few from 0 (lent (y * w + x) n), lent_length (y * w + x) n h)

  -- ---- the first j rows
  module _ (x y width : ℕ) where
    abbrev pub met : ℕ → List Position
    met j = hits (rows x width y j)

    met-more : (j : ℕ) → met (j + 1) ≡ met j ++ hits (row x width (y + j))
    met-more j = ap hits (rw (range-next y j, flat_map-append, flat_map-one)) ∙ kept_append (has_index w l from) (rows x width y j) (row x width (y + j))

    count-more : (j : ℕ) → length (met (j + 1)) ≡ length (met j) + length (hits (row x width (y + j)))
    count-more j = ap (λ (m : List Position). length m) (met-more j) ∙ length-append (met j) (hits (row x width (y + j)))

    -- no more than all of them
    met-within : (j h : ℕ) → j ≤ h → length (met j) ≤ length (met h)
    met-within j h k =
        let split : h ≡ j + (h - j) = omega arith in
        let rest = flat_map (row x width) (range (y + j) (h - j)) in
        let whole : met (j + (h - j)) ≡ met j ++ hits rest
        = ap hits (rw (range-append y j (h - j), flat_map-append)) ∙ kept_append (has_index w l from) (rows x width y j) rest in
        omega (arith, ap (λ (n : ℕ). length (met n)) split, ap (λ (m : List Position). length m) whole, length-append (met j) (hits rest))

    -- ---- a loop that counts them
    pub record Counted (n j : ℕ) : Type 0 where
      pub counted : n ≡ length (met j)
      pub few : n ≤ 1024 * j

    pub counted_none : Counted 0 0
    unfolding kept range flat_map
    counted_none = record { counted = refl; few = omega arith }

    pub counted-more : (n j r : ℕ) → Counted n j → (y + j) * w + x + width ≤ length l → width ≤ 1024
        → r ≡ length (places_from from 0 (lent ((y + j) * w + x) width)) → Counted (n + r) (j + 1)
    counted-more n j r p h small e =
        record {
          counted = omega (arith, p.counted, count-more j, row_count x (y + j) width h, e);
          few = omega (arith, p.few, row-few x (y + j) width h, e);
        }

    -- ---- a loop that lists them
    pub record Listed (to : ℤ) (out₀ out : List ℕ) (n j : ℕ) : Type 0 where
      pub long : length out ≡ length out₀
      pub counted : n ≡ length (met j)
      pub listed : out ≡ over (numbers to (met j)) out₀

    pub listed-none : (to : ℤ) (out : List ℕ) → Listed to out out 0 0
    unfolding numbers kept range flat_map
    listed-none to out = record { long = refl; counted = refl; listed = over_none out }

    module _ {to : ℤ} {out₀ out : List ℕ} {n j : ℕ} (p : Listed to out₀ out n j) (h : ℕ) (k : j < h) (inside : (y + j) * w + x + width ≤ length l)
        (room : length (met h) ≤ length out₀) where
      pub listed-room : n + length (places_from from 0 (lent ((y + j) * w + x) width)) ≤ length out₀
      listed-room = omega (arith, p.counted, count-more j, row_count x (y + j) width inside, met-within (j + 1) h (omega arith))

      pub listed-lent : length (places_from from 0 (lent ((y + j) * w + x) width)) ≤ length (take (length out - n) (drop n out))
      listed-lent = simp (length-take, length-drop) (omega (arith, listed-room, p.long))

      pub listed_more : (out' part : List ℕ) (first r : ℕ) → first ≡ rowFirst to x (y + j)
          → r ≡ length (places_from from 0 (lent ((y + j) * w + x) width))
          → part ≡ over (map (λ c. first + c) (places_from from 0 (lent ((y + j) * w + x) width))) (take (length out - n) (drop n out))
          → out' ≡ put_mid n (length out - n) out part
          → Listed to out₀ out' (n + r) (j + 1)
      listed_more out' part first r f e q put =
          let here = map (λ c. first + c) (places_from from 0 (lent ((y + j) * w + x) width)) in
          let joined : numbers to (met j) ++ here ≡ numbers to (met (j + 1))
          = rw (f, ← row-numbers to x (y + j) width inside) (sym (ap (numbers to) (met-more j) ∙ numbers-append to (met j) (hits (row x width (y + j))))) in
          let written = put ∙ over-lent (numbers to (met j)) here out₀ out part n (numbers-length to (met j) ∙ sym p.counted) p.listed q
          ∙ ap (λ (m : List ℕ). over m out₀) joined in
          let count : n + r ≡ length (met (j + 1)) = omega (arith, p.counted, count-more j, row_count x (y + j) width inside, e) in
          record {
            long = ap (λ (m : List ℕ). length m) written ∙ length_over (numbers to (met (j + 1))) out₀ (omega (arith, numbers-length to (met (j + 1)), count, listed-room, e));
            counted = count;
            listed = written;
          }
