-- Well-formed layers of one size, where they lie in the buffers. Assumes nothing.
use mathlib.Core.Path.{◌≡◌, refl, sym, ap, ◌∙◌}
use mathlib.Core.Bool.{Bool, true, false, not, ◌||◌}
use mathlib.Core.List.{List, [], ◌∷◌, ◌++◌, map, reverse, reverse_aux}
use Prim.Native.Nat.{ℕ, zero, suc, ◌+◌, ◌*◌, ◌/◌, ◌%◌, ◌-◌, ◌<◌, ◌≤◌}
use native.Mathlib.Omega.{arith}
use native.Mathlib.Nat.{mul-le-mul_left, mul-suc, mul-one, not-suc-le-zero, le_of_suc-le-suc}
use borrow.Author.Tests.{eqb-true, not-false, leb-false, lt-leb}
use lib.Dec.{eqb}
use lib.IntN.{ℤ, pos, negsuc}
use lib.Ieee.{Float}
use lib.ListN.{length, get_or, take, drop, length-append, length-drop, take-append-drop}
use lib.Seq.{length-take-le, take_all, get_or-take, get_or-drop, drop-drop}
use Rattle.base.specs.Lists.{some, All}
use Rattle.base.proofs.Nowhere.{first-not, rest-not, nowhere-append, nowhere-take, nowhere-drop}
use Rattle.base.proofs.Scan.{or_left, or_right}
use Rattle.sheet.specs.Sheet.{Sheet, sheet_of, stray}
use Rattle.sheet.specs.Checks.{WellFormed}
use Rattle.sheet.proofs.Strays.{stray-more}
use Rattle.sheet_diff.specs.Mask.{shown}
use Rattle.layer_shown.specs.Layers.{layers_of, shown_at, laid_over, topmost, pixel_of}
use Rattle.layer_shown.specs.Calls.{other_size}
use Rattle.layer_shown.specs.Stack.{shown_in, pixel_up_to, Stacked}
use Rattle.layer_shown.proofs.Pixels.{Colour, over-four, index-known, shown-colour}

-- ---- a layer's part of the buffers
module _ {n count : ℕ} {palettes : List ℕ} {indices : List ℤ} (s : Stacked n count palettes indices) where
  product : (i : ℕ) → i < count → n * i + n ≤ n * count
  product i h = omega (arith, mul-le-mul_left {m = suc i} {n = count} n h, mul-suc n i)

  pub palette-part : (i : ℕ) → i < count → 765 * i + 765 ≤ length palettes
  palette-part i h = omega (arith, s.palettes-length)

  pub indices-part : (i : ℕ) → i < count → n * i + n ≤ length indices
  indices-part i h = omega (arith, s.indices-length, product i h)

  pub part-long : (i : ℕ) → i < count → length (take 765 (drop (765 * i) palettes)) ≡ 765
  part-long i h = length-take-le 765 (drop (765 * i) palettes) (simp length-drop (omega (arith, palette-part i h)))

  -- a pixel has four bytes
  pub stack-four : (i p : ℕ) → i ≤ count → length (pixel_up_to n palettes indices i p) ≡ 4
  unfolding pixel_up_to shown_in
  stack-four zero p h = refl
  stack-four (suc i) p h =
      over-four _ (pixel_up_to n palettes indices i p)
      (shown-colour _ 255 (part-long i h) (omega arith) (get_or indices (n * i + p) (negsuc 0)) (index-known 255 indices (n * i + p) s.in-range))
      (stack-four i p (omega arith))

-- ---- a layer's part of a buffer, from a on, m long
pub part : {A : Type 0} (a m : ℕ) (l : List A) → take ((a + m) - a) (drop a l) ≡ take m (drop a l)
part a m l = ap (λ (t : ℕ). take t (drop a l)) {x = (a + m) - a} {y = m} (omega arith)

pub part_length : {A : Type 0} (a m : ℕ) (l : List A) → a + m ≤ length l → length (take ((a + m) - a) (drop a l)) ≡ m
part_length {A = A} a m l h = ap (λ (t : List A). length t) (part a m l) ∙ length-take-le m (drop a l) (simp length-drop (omega arith))

pub part-known : (a m : ℕ) (l : List ℤ) → some (stray 255) l ≡ false → some (stray 255) (take ((a + m) - a) (drop a l)) ≡ false
part-known a m l e = nowhere-take (stray 255) ((a + m) - a) (drop a l) (nowhere-drop (stray 255) a l e)

-- ---- the layers that the buffers are cut into
-- three sizes each
pub layers-count : (sizes X : List ℕ) (L : List Float) (Y : List ℤ) → length (layers_of sizes X L Y) ≡ length sizes / 3
unfolding layers_of
layers-count [] X L Y = refl
layers-count (w ∷ []) X L Y = refl
layers-count (w ∷ h ∷ []) X L Y = refl
layers-count (w ∷ h ∷ k ∷ []) X L Y = refl
layers-count (w ∷ h ∷ k ∷ m ∷ more) X L Y = omega (arith, layers-count (m ∷ more) (drop 765 X) (drop 765 L) (drop (w * h) Y))

-- a sheet that has the size of the others
pub same_size : (w h : ℕ) (s : Sheet) → other_size w h s ≡ false → (s.w ≡ w) × (s.h ≡ h)
unfolding other_size
same_size w h s e =
    (eqb-true s.w w (not-false _ (or_left (not (eqb s.w w)) _ e)), eqb-true s.h h (not-false _ (or_right (not (eqb s.w w)) _ e)))

-- how long the buffers of m layers are, and that no index is stray
pub record Lengths (n m : ℕ) (X : List ℕ) (Y : List ℤ) : Type 0 where
  pub colours : length X ≡ 765 * m
  pub places : length Y ≡ n * m
  pub known : some (stray 255) Y ≡ false

module _ (w h : ℕ) where
  -- one layer, which has all of the buffers
  lengths-one : (s : Sheet) → WellFormed s → other_size w h s ≡ false → Lengths (w * h) 1 s.palette s.indices
  lengths-one s f e =
      let q = same_size w h s e in
      let area : s.w * s.h ≡ w * h = rw (q.0, q.1) in
      record {
        colours = f.limits.palette-length ∙ omega arith;
        places = f.limits.indices-length ∙ area ∙ sym (mul-one (w * h));
        known = stray-more s.k 255 s.indices f.limits.k-small f.in-range;
      }

  -- one layer in front of the others
  lengths-more : (m : ℕ) (s : Sheet) (X : List ℕ) (Y : List ℤ) → WellFormed s → other_size w h s ≡ false → s.palette ≡ take 765 X → s.indices ≡ take (s.w * s.h) Y
      → Lengths (w * h) m (drop 765 X) (drop (s.w * s.h) Y) → Lengths (w * h) (suc m) X Y
  lengths-more m s X Y f e p i l =
      let q = same_size w h s e in
      let area : s.w * s.h ≡ w * h = rw (q.0, q.1) in
      let first : length (take 765 X) ≡ 765 = sym (ap (λ (c : List ℕ). length c) p) ∙ f.limits.palette-length in
      let firsts : length (take (s.w * s.h) Y) ≡ s.w * s.h = sym (ap (λ (c : List ℤ). length c) i) ∙ f.limits.indices-length in
      record {
        colours = sym (ap (λ (c : List ℕ). length c) (take-append-drop 765 X)) ∙ length-append (take 765 X) (drop 765 X) ∙ omega (arith, l.colours);
        places =
            sym (ap (λ (c : List ℤ). length c) (take-append-drop (s.w * s.h) Y)) ∙ length-append (take (s.w * s.h) Y) (drop (s.w * s.h) Y)
            ∙ omega (arith, l.places, mul-suc (w * h) m);
        known =
            rw (← take-append-drop (s.w * s.h) Y)
            (nowhere-append (stray 255) (take (s.w * s.h) Y) (drop (s.w * s.h) Y)
            (rw i at (stray-more s.k 255 s.indices f.limits.k-small f.in-range)) l.known);
      }

  pub lengths : (sizes X : List ℕ) (L : List Float) (Y : List ℤ) → 0 < length sizes → length sizes % 3 ≡ 0
      → All WellFormed (layers_of sizes X L Y) → some (other_size w h) (layers_of sizes X L Y) ≡ false → Lengths (w * h) (length (layers_of sizes X L Y)) X Y
  unfolding layers_of All
  lengths [] X L Y z t a e = absurd (omega arith)
  lengths (v ∷ []) X L Y z t a e = absurd (omega arith)
  lengths (v ∷ g ∷ []) X L Y z t a e = absurd (omega arith)
  lengths (v ∷ g ∷ k ∷ []) X L Y z t a e = lengths-one (sheet_of v g k X L Y) a.0 (first-not (other_size w h) _ [] e)
  lengths (v ∷ g ∷ k ∷ m ∷ more) X L Y z t a e =
      let others : List Sheet = layers_of (m ∷ more) (drop 765 X) (drop 765 L) (drop (v * g) Y) in
      let s : Sheet = sheet_of v g k (take 765 X) (take 765 L) (take (v * g) Y) in
      lengths-more (length others) s X Y a.0 (first-not (other_size w h) s others e) refl refl
      (lengths (m ∷ more) (drop 765 X) (drop 765 L) (drop (v * g) Y) (omega arith) (omega arith) a.1 (rest-not (other_size w h) s others e))

-- ---- the pixel of all of them
-- colours from the bottom up, over what lies below
laid : List (List ℕ) → List ℕ → List ℕ
laid [] below = below
laid (c ∷ cs) below = laid cs (laid_over c below)

laid-reverse : (cs above : List (List ℕ)) → topmost (reverse_aux cs above) ≡ laid cs (topmost above)
unfolding topmost laid
laid-reverse [] above = refl
laid-reverse (c ∷ cs) above = laid-reverse cs (c ∷ above)

-- a layer further on in the buffers
next-colours : (j : ℕ) (X palettes : List ℕ) → X ≡ drop (765 * j) palettes → drop 765 X ≡ drop (765 * suc j) palettes
next-colours j X palettes x =
    ap (λ (l : List ℕ). drop 765 l) x ∙ drop-drop 765 (765 * j) palettes ∙ ap (λ (t : ℕ). drop t palettes) {x = 765 * j + 765} {y = 765 * suc j} (omega arith)

next-places : (w h : ℕ) (s : Sheet) (j : ℕ) (Y indices : List ℤ) → other_size w h s ≡ false → Y ≡ drop (w * h * j) indices → drop (s.w * s.h) Y ≡ drop (w * h * suc j) indices
next-places w h s j Y indices e y =
    let q = same_size w h s e in
    let area : s.w * s.h ≡ w * h = rw (q.0, q.1) in
    ap (λ (l : List ℤ). drop (s.w * s.h) l) y ∙ drop-drop (s.w * s.h) (w * h * j) indices
    ∙ ap (λ (t : ℕ). drop t indices) {x = w * h * j + s.w * s.h} {y = w * h * suc j} (omega (arith, mul-suc (w * h) j))

module _ (w h : ℕ) (palettes : List ℕ) (indices : List ℤ) (p : ℕ) (inside : p < w * h) where
  abbrev up_to : ℕ → List ℕ
  up_to i = pixel_up_to (w * h) palettes indices i p

  -- what a layer shows is what its part of the buffers shows
  shown-last : (s : Sheet) (j : ℕ) → WellFormed s → s.palette ≡ drop (765 * j) palettes → s.indices ≡ drop (w * h * j) indices
      → shown_at p s ≡ shown_in (w * h) palettes indices j p
  unfolding shown_at shown_in
  shown-last s j f a b =
      let whole : take 765 (drop (765 * j) palettes) ≡ s.palette = ap (λ (l : List ℕ). take 765 l) (sym a) ∙ take_all 765 s.palette (omega (arith, f.limits.palette-length)) in
      rw (whole, b, get_or-drop (w * h * j) indices p (negsuc 0))

  shown-part : (s : Sheet) (j : ℕ) → s.w * s.h ≡ w * h → s.palette ≡ take 765 (drop (765 * j) palettes) → s.indices ≡ take (s.w * s.h) (drop (w * h * j) indices)
      → shown_at p s ≡ shown_in (w * h) palettes indices j p
  unfolding shown_at shown_in
  shown-part s j area a b = rw (a, b, get_or-take (s.w * s.h) (drop (w * h * j) indices) p (negsuc 0) (omega arith), get_or-drop (w * h * j) indices p (negsuc 0))

  cut : (sizes X : List ℕ) (L : List Float) (Y : List ℤ) (j : ℕ) → X ≡ drop (765 * j) palettes → Y ≡ drop (w * h * j) indices
      → All WellFormed (layers_of sizes X L Y) → some (other_size w h) (layers_of sizes X L Y) ≡ false
      → laid (map (shown_at p) (layers_of sizes X L Y)) (up_to j) ≡ up_to (j + length (layers_of sizes X L Y))
  unfolding layers_of All laid pixel_up_to
  cut [] X L Y j x y a e = ap up_to {x = j} {y = j + 0} (omega arith)
  cut (v ∷ []) X L Y j x y a e = ap up_to {x = j} {y = j + 0} (omega arith)
  cut (v ∷ g ∷ []) X L Y j x y a e = ap up_to {x = j} {y = j + 0} (omega arith)
  cut (v ∷ g ∷ k ∷ []) X L Y j x y a e =
      ap (λ (c : List ℕ). laid_over c (up_to j)) (shown-last (sheet_of v g k X L Y) j a.0 x y) ∙ ap up_to {x = suc j} {y = j + 1} (omega arith)
  cut (v ∷ g ∷ k ∷ m ∷ more) X L Y j x y a e =
      let s : Sheet = sheet_of v g k (take 765 X) (take 765 L) (take (v * g) Y) in
      let others : List Sheet = layers_of (m ∷ more) (drop 765 X) (drop 765 L) (drop (v * g) Y) in
      let q = same_size w h s (first-not (other_size w h) s others e) in
      let area : v * g ≡ w * h = rw (q.0, q.1) in
      ap (λ (c : List ℕ). laid (map (shown_at p) others) (laid_over c (up_to j)))
      (shown-part s j area (ap (λ (l : List ℕ). take 765 l) x) (ap (λ (l : List ℤ). take (v * g) l) y))
      ∙ cut (m ∷ more) (drop 765 X) (drop 765 L) (drop (v * g) Y) (suc j) (next-colours j X palettes x) (next-places w h s j Y indices (first-not (other_size w h) s others e) y) a.1 (rest-not (other_size w h) s others e)
      ∙ ap up_to {x = suc j + length others} {y = j + suc (length others)} (omega arith)

  pub stack-pixel : (sizes : List ℕ) (L : List Float) → All WellFormed (layers_of sizes palettes L indices) → some (other_size w h) (layers_of sizes palettes L indices) ≡ false
      → pixel_of (layers_of sizes palettes L indices) p ≡ up_to (length (layers_of sizes palettes L indices))
  unfolding pixel_of topmost pixel_up_to
  stack-pixel sizes L a e =
      laid-reverse (map (shown_at p) (layers_of sizes palettes L indices)) []
      ∙ cut sizes palettes L indices 0 refl (ap (λ (t : ℕ). drop t indices) {x = 0} {y = w * h * 0} (omega arith)) a e
      ∙ ap up_to {x = 0 + length (layers_of sizes palettes L indices)} {y = length (layers_of sizes palettes L indices)} (omega arith)

-- one of the layers
module _ (w h : ℕ) (palettes : List ℕ) (indices : List ℤ) (p : ℕ) (inside : p < w * h) where
  one-shown : (sizes X : List ℕ) (L : List Float) (Y : List ℤ) (j e : ℕ) (d : Sheet) → X ≡ drop (765 * j) palettes → Y ≡ drop (w * h * j) indices
      → All WellFormed (layers_of sizes X L Y) → some (other_size w h) (layers_of sizes X L Y) ≡ false → e < length (layers_of sizes X L Y)
      → shown_at p (get_or (layers_of sizes X L Y) e d) ≡ shown_in (w * h) palettes indices (j + e) p
  unfolding layers_of All
  one-shown [] X L Y j e d x y a o b = absurd (not-suc-le-zero b)
  one-shown (v ∷ []) X L Y j e d x y a o b = absurd (not-suc-le-zero b)
  one-shown (v ∷ g ∷ []) X L Y j e d x y a o b = absurd (not-suc-le-zero b)
  one-shown (v ∷ g ∷ k ∷ []) X L Y j zero d x y a o b =
      shown-last w h palettes indices p inside (sheet_of v g k X L Y) j a.0 x y ∙ ap (λ (i : ℕ). shown_in (w * h) palettes indices i p) {x = j} {y = j + 0} (omega arith)
  one-shown (v ∷ g ∷ k ∷ []) X L Y j (suc e) d x y a o b = absurd (omega arith)
  one-shown (v ∷ g ∷ k ∷ m ∷ more) X L Y j zero d x y a o b =
      let s : Sheet = sheet_of v g k (take 765 X) (take 765 L) (take (v * g) Y) in
      let q = same_size w h s (first-not (other_size w h) s _ o) in
      let area : v * g ≡ w * h = rw (q.0, q.1) in
      shown-part w h palettes indices p inside s j area (ap (λ (l : List ℕ). take 765 l) x) (ap (λ (l : List ℤ). take (v * g) l) y)
      ∙ ap (λ (i : ℕ). shown_in (w * h) palettes indices i p) {x = j} {y = j + 0} (omega arith)
  one-shown (v ∷ g ∷ k ∷ m ∷ more) X L Y j (suc e) d x y a o b =
      let s : Sheet = sheet_of v g k (take 765 X) (take 765 L) (take (v * g) Y) in
      let others : List Sheet = layers_of (m ∷ more) (drop 765 X) (drop 765 L) (drop (v * g) Y) in
      one-shown (m ∷ more) (drop 765 X) (drop 765 L) (drop (v * g) Y) (suc j) e d (next-colours j X palettes x) (next-places w h s j Y indices (first-not (other_size w h) s others o) y)
      a.1 (rest-not (other_size w h) s others o) (le_of_suc-le-suc b)
      ∙ ap (λ (i : ℕ). shown_in (w * h) palettes indices i p) {x = suc j + e} {y = j + suc e} (omega arith)

  pub stack-shown : (sizes : List ℕ) (L : List Float) → All WellFormed (layers_of sizes palettes L indices) → some (other_size w h) (layers_of sizes palettes L indices) ≡ false
      → (e : ℕ) (d : Sheet) → e < length (layers_of sizes palettes L indices) → shown_at p (get_or (layers_of sizes palettes L indices) e d) ≡ shown_in (w * h) palettes indices e p
  stack-shown sizes L a o e d b =
      one-shown sizes palettes L indices 0 e d refl (ap (λ (t : ℕ). drop t indices) {x = 0} {y = w * h * 0} (omega arith)) a o b
      ∙ ap (λ (i : ℕ). shown_in (w * h) palettes indices i p) {x = 0 + e} {y = e} (omega arith)

-- a layer's part of each buffer shows what the layer shows
pub part-shown : (n : ℕ) (palettes : List ℕ) (indices : List ℤ) (i p : ℕ) → p < n
    → shown (take 765 (drop (765 * i) palettes)) (get_or (take n (drop (n * i) indices)) p (negsuc 0)) ≡ shown_in n palettes indices i p
unfolding shown_in
part-shown n palettes indices i p h = rw (get_or-take n (drop (n * i) indices) p (negsuc 0) h, get_or-drop (n * i) indices p (negsuc 0))

-- ---- what the loops over the layers ask
few-cells : (w h : ℕ) (sizes X : List ℕ) (L : List Float) (Y : List ℤ) → 0 < length sizes → length sizes % 3 ≡ 0
    → All WellFormed (layers_of sizes X L Y) → some (other_size w h) (layers_of sizes X L Y) ≡ false → w * h ≤ 1048576
unfolding layers_of All
few-cells w h [] X L Y z t a e = absurd (omega arith)
few-cells w h (v ∷ []) X L Y z t a e = absurd (omega arith)
few-cells w h (v ∷ g ∷ []) X L Y z t a e = absurd (omega arith)
few-cells w h (v ∷ g ∷ k ∷ []) X L Y z t a e = let q = same_size w h _ (first-not (other_size w h) _ [] e) in rw (← q.0, ← q.1) a.0.limits.cells
few-cells w h (v ∷ g ∷ k ∷ m ∷ more) X L Y z t a e =
    let q = same_size w h _ (first-not (other_size w h) _ (layers_of (m ∷ more) (drop 765 X) (drop 765 L) (drop (v * g) Y)) e) in
    rw (← q.0, ← q.1) a.0.limits.cells

pub stacked : (w h : ℕ) (sizes palettes : List ℕ) (labs : List Float) (indices : List ℤ) → 0 < length sizes → length sizes % 3 ≡ 0 → length sizes ≤ 24
    → All WellFormed (layers_of sizes palettes labs indices) → some (other_size w h) (layers_of sizes palettes labs indices) ≡ false
    → Stacked (w * h) (length sizes / 3) palettes indices
stacked w h sizes palettes labs indices z t few a e =
    let l = lengths w h sizes palettes labs indices z t a e in
    let m = layers-count sizes palettes labs indices in
    record {
      small = few-cells w h sizes palettes labs indices z t a e;
      few = omega arith;
      palettes-length = l.colours ∙ ap (λ (k : ℕ). 765 * k) m;
      indices-length = l.places ∙ ap (λ (k : ℕ). w * h * k) m;
      in-range = l.known;
    }
