-- What lies of a run of whole numbers in a span of places is a run of places; so the points of a box that a region contains are the places of a
-- smaller box, in the same order. Assumes nothing.
use mathlib.Core.Path.{◌≡◌, refl, sym, ap, ◌∙◌}
use mathlib.Core.Bool.{Bool, true, false, cond, ◌&&◌}
use mathlib.Core.List.{List, [], ◌∷◌, ◌++◌, map, flat_map}
use Prim.Native.Nat.{ℕ, zero, suc, ◌+◌, ◌-◌, ◌*◌, ◌≤◌, ◌<◌, min, max}
use native.Mathlib.Nat.{add-zero, add-suc, suc-add}
use native.Mathlib.Decide.{dec_lt}
use native.Mathlib.Omega.{arith}
use borrow.Author.Tests.{lt-ltb, le-ltb, le-leb, lt-leb}
use lib.IntN.{ℤ, pos, negsuc, nat_abs, suc_ℤ, ◌+ℤ◌, +ℤ-suc_ℤ, suc_ℤ-+ℤ, +ℤ_idr}
use lib.Signed.{non_neg}
use Rattle.base.specs.Lists.{range}
use Rattle.base.proofs.Collect.{flat_map-append}
use Rattle.base.specs.Ints.{from_zero}
use Rattle.selection_spans.specs.Spans.{in_span}
use Rattle.selection.specs.declared.Selection.{Selection}
use Rattle.selection.specs.Selection.{contains, contains_i}
use Rattle.tool_line.specs.Line.{point}
use Rattle.tool_stamp.specs.Places.{place_at, places_of}

-- n numbers from a on
unfoldable pub run : ℤ → ℕ → List ℤ
run a zero = []
run a (suc n) = a ∷ run (suc_ℤ a) n

shifted : (a : ℤ) (j n : ℕ) → map (λ (i : ℕ). a +ℤ pos i) (range j n) ≡ run (a +ℤ pos j) n
unfolding range run
shifted a j zero = refl
shifted a j (suc n) = ap (λ l. (a +ℤ pos j) ∷ l) (shifted a (suc j) n ∙ ap (λ z. run z n) (+ℤ-suc_ℤ a (pos j)))

pub as-run : (a : ℤ) (n : ℕ) → map (λ (i : ℕ). a +ℤ pos i) (range 0 n) ≡ run a n
as-run a n = shifted a 0 n ∙ ap (λ z. run z n) (+ℤ_idr a)

-- whether a coordinate is one of `size` from `from` on, and those that are
unfoldable pub holds : ℕ → ℕ → ℤ → Bool
holds from size z = non_neg z && in_span from size (nat_abs z)

unfoldable pub held : ℕ → ℕ → List ℤ → List ℕ
held from size [] = []
held from size (z ∷ zs) = cond (holds from size z) (nat_abs z ∷ held from size zs) (held from size zs)

pub held-append : (from size : ℕ) (k l : List ℤ) → held from size (k ++ l) ≡ held from size k ++ held from size l
unfolding held
held-append from size [] l = refl
held-append from size (z ∷ k) l = rw (held-append from size k l) (go (holds from size z))
  where
    go : (b : Bool) → cond b (nat_abs z ∷ (held from size k ++ held from size l)) (held from size k ++ held from size l)
        ≡ cond b (nat_abs z ∷ held from size k) (held from size k) ++ held from size l
    go true = refl
    go false = refl

-- ---- a run, clipped
module _ (from size : ℕ) where
  abbrev first : ℕ → ℕ
  first a = min (max a from) (from + size)

  abbrev many : ℕ → ℕ → ℕ
  many a b = min b (from + size) - first a

  upto : (b s : ℕ) → b ≤ s → min b (from + size) - s ≡ 0
  upto b s h = omega arith

  here : (k : ℕ) → from ≤ k → k < from + size → in_span from size k ≡ true
  unfolding in_span
  here k a b = rw (le-leb from k a, lt-ltb k (from + size) b)

  before : (k : ℕ) → k < from → in_span from size k ≡ false
  unfolding in_span
  before k a = rw (lt-leb from k a)

  behind : (k : ℕ) → from + size ≤ k → in_span from size k ≡ false
  unfolding in_span
  behind k a = rw (le-leb from k (omega arith), le-ltb k (from + size) a)

  -- where the places start from 0 on
  none : (b s : ℕ) → from + size ≤ s → min b (from + size) - s ≡ 0
  none b s h = omega arith

  inner : (k n : ℕ) → k < from + size → min (suc (k + n)) (from + size) - k ≡ suc (min (suc (k + n)) (from + size) - suc k)
  inner k n h = omega arith

  first-before : (k : ℕ) → k ≤ from → first k ≡ from
  first-before k h = omega arith

  first-here : (k : ℕ) → from ≤ k → k ≤ from + size → first k ≡ k
  first-here k h g = omega arith

  first-behind : (k : ℕ) → from + size ≤ k → first k ≡ from + size
  first-behind k h = omega arith

  from-pos : (k n : ℕ) → held from size (run (pos k) n) ≡ range (first k) (many k (k + n))
  unfolding range run held holds
  from-pos k zero = elim (dec_lt k (from + size)) [
    | yes h ↦ elim (dec_lt k from) [
      | yes g ↦ rw (add-zero k, first-before k (omega arith), upto k from (omega arith))
      | no g ↦ rw (add-zero k, first-here k (omega arith) (omega arith), upto k k (omega arith))
    ]
    | no h ↦ rw (first-behind k (omega arith), none (k + 0) (from + size) (omega arith))
  ]
  from-pos k (suc n) = elim (dec_lt k from) [
    | yes h ↦ rw (before k h, add-suc k n, first-before k (omega arith)) (from-pos (suc k) n ∙ rw (suc-add k n, first-before (suc k) (omega arith)))
    | no h ↦ elim (dec_lt k (from + size)) [
      | yes g ↦ rw (here k (omega arith) g, add-suc k n, first-here k (omega arith) (omega arith), inner k n g)
          (ap (λ (l : List ℕ). k ∷ l) (from-pos (suc k) n ∙ rw (suc-add k n, first-here (suc k) (omega arith) (omega arith))))
      | no g ↦ rw (behind k (omega arith), add-suc k n, first-behind k (omega arith), none (suc (k + n)) (from + size) (omega arith))
          (from-pos (suc k) n ∙ rw (suc-add k n, first-behind (suc k) (omega arith), none (suc (k + n)) (from + size) (omega arith)))
    ]
  ]

  pub held-run : (a : ℤ) (n : ℕ) → held from size (run a n) ≡ range (first (from_zero a)) (many (from_zero a) (from_zero (a +ℤ pos n)))
  unfolding from_zero range run held holds
  held-run (pos k) n = from-pos k n
  held-run (negsuc k) zero = sym (ap (λ z. range (first 0) (many 0 (from_zero z))) (+ℤ_idr (negsuc k)) ∙ ap (range (first 0)) (upto 0 (first 0) (omega arith)))
  held-run (negsuc zero) (suc n) = from-pos 0 n ∙ ap (λ z. range (first 0) (many 0 (from_zero z))) (sym (+ℤ-suc_ℤ (negsuc 0) (pos n) ∙ sym (suc_ℤ-+ℤ (negsuc 0) (pos n))))
  held-run (negsuc (suc k)) (suc n) = held-run (negsuc k) n ∙ ap (λ z. range (first 0) (many 0 (from_zero z))) (sym (+ℤ-suc_ℤ (negsuc (suc k)) (pos n) ∙ sym (suc_ℤ-+ℤ (negsuc (suc k)) (pos n))))

-- ---- points in rows
module _ (region : Selection) (w : ℕ) where
  -- the places of a row's columns
  unfoldable pub in_row : List ℤ → ℕ → List ℕ
  in_row xs y = map (λ x. y * w + x) (held region.x region.w xs)

  row-held : (xs : List ℤ) (y : ℤ) → places_of region w (map (λ (x : ℤ). point x y) xs) ≡ cond (holds region.y region.h y) (in_row xs (nat_abs y)) []
  unfolding places_of place_at contains_i contains flat_map in_row held holds
  row-held [] y = go (holds region.y region.h y)
    where
      go : (b : Bool) → ◌≡◌ {A = List ℕ} [] (cond b [] [])
      go true = refl
      go false = refl
  row-held (x ∷ xs) y = rw (row-held xs y) (go (non_neg x) (non_neg y) (in_span region.x region.w (nat_abs x)) (in_span region.y region.h (nat_abs y)))
    where
      go : (a b c d : Bool) → cond (a && b && (c && d)) ((nat_abs y * w + nat_abs x) ∷ []) [] ++ cond (b && d) (in_row xs (nat_abs y)) []
          ≡ cond (b && d) (map (λ x. nat_abs y * w + x) (cond (a && c) (nat_abs x ∷ held region.x region.w xs) (held region.x region.w xs))) []
      go true true true true = refl
      go true true true false = refl
      go true true false true = refl
      go true true false false = refl
      go true false true true = refl
      go true false true false = refl
      go true false false true = refl
      go true false false false = refl
      go false true c true = refl
      go false true c false = refl
      go false false c d = refl

  -- row by row
  pub rows-held : (row : ℤ → List ℤ) (ys : List ℤ) → places_of region w (flat_map (λ (y : ℤ). map (λ (x : ℤ). point x y) (row y)) ys)
      ≡ flat_map (λ y. in_row (row (pos y)) y) (held region.y region.h ys)
  unfolding places_of flat_map held holds
  rows-held row [] = refl
  rows-held row (y ∷ ys) =
      flat_map-append (place_at region w) (map (λ (x : ℤ). point x y) (row y)) (flat_map (λ (y : ℤ). map (λ (x : ℤ). point x y) (row y)) ys)
      ∙ ap (λ l. l ++ flat_map (place_at region w) (flat_map (λ (y : ℤ). map (λ (x : ℤ). point x y) (row y)) ys)) (row-held (row y) y)
      ∙ ap (λ l. cond (holds region.y region.h y) (in_row (row y) (nat_abs y)) [] ++ l) (rows-held row ys)
      ∙ joined y
    where
      joined : (y : ℤ) → cond (holds region.y region.h y) (in_row (row y) (nat_abs y)) [] ++ flat_map (λ y. in_row (row (pos y)) y) (held region.y region.h ys)
          ≡ flat_map (λ y. in_row (row (pos y)) y) (held region.y region.h (y ∷ ys))
      joined (pos k) = by (in_span region.y region.h k)
        where
          by : (b : Bool) → cond b (in_row (row (pos k)) k) [] ++ flat_map (λ y. in_row (row (pos y)) y) (held region.y region.h ys)
              ≡ flat_map (λ y. in_row (row (pos y)) y) (cond b (k ∷ held region.y region.h ys) (held region.y region.h ys))
          by true = refl
          by false = refl
      joined (negsuc k) = refl
