-- t × t numbers, row by row: each by its row and column, and that these are all. Assumes nothing.
use mathlib.Core.Path.{◌≡◌, refl, sym, ap, ◌∙◌}
use mathlib.Core.List.{List, map, flat_map}
use Prim.Native.Nat.{ℕ, zero, suc, ◌+◌, ◌*◌, ◌/◌, ◌%◌, ◌<◌}
use native.Mathlib.Nat.{add-zero, zero-add, suc-mul, mod-lt, div-add-mod', div-lt_iff_lt-mul, le_of_suc-le-suc, not-suc-le-zero}
use native.Mathlib.Omega.{arith}
use lib.IntN.{ℤ}
use lib.ListN.{length, get_or, get_or-append}
use lib.Seq.{get_or-append-add, ext_get_or}
use Rattle.base.specs.Lists.{range}
use Rattle.tile_cells.specs.Tile.{grid}
use Rattle.tile_cells.proofs.Rows.{first-at, length-first, length-rows}

-- what is given for the numbers below n
map_range : {A : Type 0} (g h : ℕ → A) (s n : ℕ) → ((i : ℕ) → i < n → g (s + i) ≡ h (s + i)) → map g (range s n) ≡ map h (range s n)
unfolding range
map_range g h s zero e = refl
map_range {A} g h s (suc n) e =
    let here : g s ≡ h s = rw (add-zero s) at (e 0 (omega arith)) in
    let rest : map g (range (suc s) n) ≡ map h (range (suc s) n) = map_range g h (suc s) n (λ i b. rw (sucs s i) (e (suc i) (omega arith))) in
    cc
  where
    sucs : (s i : ℕ) → suc s + i ≡ s + suc i
    sucs s i = omega arith

pub first-same : {A : Type 0} (g h : ℕ → A) (n : ℕ) → ((i : ℕ) → i < n → g i ≡ h i) → map g (range 0 n) ≡ map h (range 0 n)
first-same g h n e = map_range g h 0 n (λ i b. rw (zero-add i) (e i b))

flat-range : {A : Type 0} (f g : ℕ → List A) (s n : ℕ) → ((i : ℕ) → i < n → f (s + i) ≡ g (s + i)) → flat_map f (range s n) ≡ flat_map g (range s n)
unfolding range flat_map
flat-range f g s zero e = refl
flat-range f g s (suc n) e =
    let here : f s ≡ g s = rw (add-zero s) at (e 0 (omega arith)) in
    let rest : flat_map f (range (suc s) n) ≡ flat_map g (range (suc s) n) = flat-range f g (suc s) n (λ i b. rw (sucs s i) (e (suc i) (omega arith))) in
    cc
  where
    sucs : (s i : ℕ) → suc s + i ≡ s + suc i
    sucs s i = omega arith

pub rows_same : {A : Type 0} (f g : ℕ → List A) (n : ℕ) → ((i : ℕ) → i < n → f i ≡ g i) → flat_map f (range 0 n) ≡ flat_map g (range 0 n)
rows_same f g n e = flat-range f g 0 n (λ i b. rw (zero-add i) (e i b))

-- the element of rows of t each
rows-from : {A : Type 0} (f : ℕ → List A) (t : ℕ) (e : (y : ℕ) → length (f y) ≡ t) (d : A) (s n y x : ℕ) → y < n → x < t → get_or (flat_map f (range s n)) (y * t + x) d ≡ get_or (f (s + y)) x d
unfolding range flat_map
rows-from f t e d s zero y x h k = absurd (not-suc-le-zero h)
rows-from f t e d s (suc n) zero x h k =
    let z : 0 * t + x ≡ x = omega arith in
    rw (z, add-zero s) (get_or-append (f s) (flat_map f (range (suc s) n)) d x (omega (arith, e s)))
rows-from f t e d s (suc n) (suc y) x h k =
    let z : suc y * t + x ≡ length (f s) + (y * t + x) = omega (arith, e s, suc-mul y t) in
    let q : s + suc y ≡ suc s + y = omega arith in
    rw (z, q) (get_or-append-add (f s) (flat_map f (range (suc s) n)) (y * t + x) d ∙ rows-from f t e d (suc s) n y x (le_of_suc-le-suc h) k)

module _ (t : ℕ) where
  row-long : (f : ℕ → ℕ → ℤ) (y : ℕ) → length (map (f y) (range 0 t)) ≡ t
  row-long f y = length-first (f y) t

  pub length-grid : (f : ℕ → ℕ → ℤ) → length (grid t f) ≡ t * t
  unfolding grid
  length-grid f = length-rows (λ y. map (f y) (range 0 t)) t (row-long f) t

  pub grid-at : (f : ℕ → ℕ → ℤ) (d : ℤ) {y x : ℕ} → y < t → x < t → get_or (grid t f) (y * t + x) d ≡ f y x
  unfolding grid
  grid-at f d {y} {x} h k = rows-from (λ y. map (f y) (range 0 t)) t (row-long f) d 0 t y x h k ∙ rw (zero-add y) (first-at (f y) t x d k)

  pub grid-same : (f g : ℕ → ℕ → ℤ) → ((y x : ℕ) → y < t → x < t → f y x ≡ g y x) → grid t f ≡ grid t g
  unfolding grid
  grid-same f g e = rows_same (λ y. map (f y) (range 0 t)) (λ y. map (g y) (range 0 t)) t (λ y h. first-same (f y) (g y) t (λ x k. e y x h k))

  -- a list of t × t is the grid of its elements
  pub grid-of : (d : ℤ) (l : List ℤ) → length l ≡ t * t → grid t (λ y x. get_or l (y * t + x) d) ≡ l
  grid-of d l e = ext_get_or d (grid t (λ y x. get_or l (y * t + x) d)) l (length-grid (λ y x. get_or l (y * t + x) d) ∙ sym e) (λ p h. at p (omega (arith, length-grid (λ y x. get_or l (y * t + x) d))))
    where
      at : (p : ℕ) → p < t * t → get_or (grid t (λ y x. get_or l (y * t + x) d)) p d ≡ get_or l p d
      at p h =
          let side : 0 < t = some t h in
          let row : p / t < t = (div-lt_iff_lt-mul side).1 h in
          let parts : p / t * t + p % t ≡ p = div-add-mod' p t in
          ap (λ (q : ℕ). get_or (grid t (λ y x. get_or l (y * t + x) d)) q d) (sym parts) ∙ grid-at (λ y x. get_or l (y * t + x) d) d row (mod-lt p side) ∙ ap (λ (q : ℕ). get_or l q d) parts
        where
          some : (t : ℕ) → p < t * t → 0 < t
          some zero h = absurd (not-suc-le-zero h)
          some (suc t) h = omega arith
