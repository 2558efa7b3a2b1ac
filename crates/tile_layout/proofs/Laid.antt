-- The tiles and the map as the loops lay them out, and that these are `extract`'s. Assumes nothing.
use mathlib.Core.Path.{◌≡◌, refl, sym, ap, ◌∙◌}
use mathlib.Core.Bool.{cond}
use mathlib.Core.List.{List, [], ◌∷◌, ◌++◌, map, flat_map}
use Prim.Native.Nat.{ℕ, zero, suc, ◌+◌, ◌-◌, ◌*◌, ◌/◌, ◌%◌, ◌<◌, ◌≤◌, ◌^◌}
use native.Mathlib.Decide.{ℕ_discrete}
use native.Mathlib.Numerals.{add-one}
use native.Mathlib.Nat.{mul-le-mul_left, mul-le-mul_right, not-suc-le-zero, le_of_suc-le-suc}
use native.Mathlib.Omega.{arith}
use borrow.Rule.Slice.PartMut.{put_mid}
use lib.IntN.{ℤ}
use lib.ListN.{length, get_or, set, take, drop, length-map}
use Rattle.base.specs.Lists.{range, over}
use Rattle.base.proofs.Over.{over_none, over-lent, length_over}
use Rattle.base.proofs.Collect.{flat_map-append, flat_map-one, length-flat_map, length-range}
use Rattle.tile_cells.specs.Tile.{flips, flip_at}
use Rattle.tile_cells.specs.Cells.{Tiled, cell_count, cell_of, corner_of, order_of, first_cell}
use Rattle.tile_cells.specs.Seen.{tile_at}
use Rattle.tile_cells.specs.Extract.{entry_of, extract_of, tiles_of, flat_entry, map_of}
use Rattle.tile_cells.specs.Ids.{firsts_below, tile_id, entry_at, id_of}
use Rattle.tile_cells.proofs.Rows.{first-at}
use Rattle.tile_cells.proofs.Grids.{rows_same}
use Rattle.tile_cells.proofs.Corners.{length-cell, cell-seen, count-area, count_small, area}
use Rattle.tile_cells.proofs.Firsts.{first-le, first-flip}
use Rattle.tile_cells.proofs.Ranks.{firsts-new, firsts-old, rank-new, rank-le, firsts_at, id-new, id-old}
use Rattle.tile_cells.proofs.Agreeing.{extract-is}
use Rattle.tile_layout.specs.Numbering.{flat_id}

-- ---- an entry
pub three : {A : Type 0} (a b c : A) (l : List A) → 3 ≤ length l → set (set (set l 0 a) 1 b) 2 c ≡ over (a ∷ b ∷ c ∷ []) l
unfolding over
three a b c [] h = absurd (not-suc-le-zero h)
three a b c (x ∷ []) h = absurd (not-suc-le-zero (le_of_suc-le-suc h))
three a b c (x ∷ y ∷ []) h = absurd (not-suc-le-zero (le_of_suc-le-suc (le_of_suc-le-suc h)))
three a b c (x ∷ y ∷ z ∷ l) h = refl

flat-order : (o : ℕ) → o < 4 → (cond (flip_at o).h 1 0 ≡ o % 2) × (cond (flip_at o).v 1 0 ≡ o / 2)
unfolding flip_at flips
flat-order zero h = (refl, refl)
flat-order (suc zero) h = (refl, refl)
flat-order (suc (suc zero)) h = (refl, refl)
flat-order (suc (suc (suc zero))) h = (refl, refl)
flat-order (suc (suc (suc (suc o)))) h = absurd (omega arith)

flat-entry : (i o : ℕ) → o < 4 → flat_entry (entry_of i o) ≡ flat_id (i * 4 + o)
unfolding flat_entry entry_of flat_id
flat-entry i o h =
    let a : (i * 4 + o) / 4 ≡ i = omega arith in
    let b : (i * 4 + o) % 2 ≡ o % 2 = omega arith in
    let c : (i * 4 + o) % 4 / 2 ≡ o / 2 = omega arith in
    rw (a, b, c, (flat-order o h).0, (flat-order o h).1)

flat-map : {A B C : Type 0} (f : B → List C) (g : A → B) (l : List A) → flat_map f (map g l) ≡ flat_map (λ x. f (g x)) l
unfolding flat_map
flat-map f g [] = refl
flat-map f g (x ∷ l) = ap (λ r. f (g x) ++ r) (flat-map f g l)

-- ---- of a sheet
module _ (w h t : ℕ) (l : List ℤ) where
  abbrev cell : ℕ → List ℤ
  cell = cell_of w t l

  abbrev n : ℕ
  n = cell_count w h t

  abbrev firsts : ℕ → List ℕ
  firsts = firsts_below w t l

  pub unique-count : length (extract_of w h t l).unique ≡ length (firsts n)
  unique-count = rw (extract-is w t l h) (length-map (firsts n) cell)

  pub entries-count : length (extract_of w h t l).entries ≡ n
  entries-count = rw (extract-is w t l h) (length-map (range 0 n) (entry_at w t l) ∙ length-range 0 n)

  pub tiles-are : flat_map cell (firsts n) ≡ tiles_of (extract_of w h t l)
  unfolding tiles_of
  tiles-are = rw (extract-is w t l h) (sym (flat-map (λ (k : List ℤ). k) cell (firsts n)))

  pub tiles-long : length (tiles_of (extract_of w h t l)) ≡ length (firsts n) * (t * t)
  tiles-long = ap length (sym tiles-are) ∙ length-flat_map cell (t * t) (length-cell w t l) (firsts n)

  entry-is : (c : ℕ) → flat_id (id_of w t l c) ≡ flat_entry (entry_at w t l c)
  unfolding id_of entry_at
  entry-is c = sym (flat-entry (tile_id w t l c) (order_of w t l c (first_cell w t l c)) (first-flip w t l c))

  pub id-in : {s : List ℕ} (c : ℕ) → s ≡ map (id_of w t l) (range 0 n) → c < n → get_or s c 0 ≡ id_of w t l c
  id-in c e b = rw e (first-at (id_of w t l) n c 0 b)

  pub map_is : {s : List ℕ} → s ≡ map (id_of w t l) (range 0 n) → length s ≡ n → flat_map (λ i. flat_id (get_or s i 0)) (range 0 (length s)) ≡ map_of (extract_of w h t l)
  unfolding map_of
  map_is {s} e k =
      rw (k, extract-is w t l h)
      (rows_same (λ i. flat_id (get_or s i 0)) (λ c. flat_entry (entry_at w t l c)) n (λ c b. ap flat_id (id-in c e b) ∙ entry-is c)
      ∙ sym (flat-map flat_entry (entry_at w t l) (range 0 n)))

  pub map-long : length (map_of (extract_of w h t l)) ≡ n * 3
  unfolding map_of flat_entry
  map-long = length-flat_map flat_entry 3 (λ e. refl) (extract_of w h t l).entries ∙ ap (λ (m : ℕ). m * 3) entries-count

  -- ---- the sizes are small
  module _ (d : Tiled w h t l) where
    pub tiles-few : length (firsts n) * (t * t) ≤ 2 ^ 20
    tiles-few = omega (arith, mul-le-mul_right (t * t) (rank-le w t l n), count-area d, area d)

    pub tiles-half : length (firsts n) * t ≤ 2 ^ 20
    tiles-half = omega (arith, tiles-few, mul-le-mul_left {m = 1} {n = t} (length (firsts n) * t) d.side)

    pub ids-small : {s : List ℕ} → s ≡ map (id_of w t l) (range 0 n) → length s ≡ n → (i : ℕ) → i < length s → get_or s i 0 / 4 < 2 ^ 32
    unfolding id_of tile_id
    ids-small e k i b =
        let c : i < n = omega arith in
        omega (arith, id-in i e c, first-flip w t l i, rank-le w t l (first_cell w t l i), first-le w t l i, count_small d, area d)

  -- ---- the tiles so far
  pub record Copying (tiles₀ tiles : List ℤ) (k c : ℕ) : Type 0 where
    pub long : length tiles ≡ length tiles₀
    pub count : k ≡ length (firsts c)
    pub few : k ≤ c
    pub written : tiles ≡ over (flat_map cell (firsts c)) tiles₀

  pub copying-none : (tiles : List ℤ) → Copying tiles tiles 0 0
  unfolding firsts_below flat_map
  copying-none tiles = record { long = refl; count = refl; few = omega arith; written = over_none tiles }

  module _ {tiles₀ tiles : List ℤ} {k c : ℕ} (p : Copying tiles₀ tiles k c) (b : c < n) {v : ℕ} (e : v ≡ id_of w t l c) where
    tile-in : v / 4 ≡ tile_id w t l c
    unfolding id_of
    tile-in = omega (arith, e, first-flip w t l c)

    -- the cell is its own first cell exactly where its tile is the next
    pub own : v / 4 ≡ k → first_cell w t l c ≡ c
    own q = elim (ℕ_discrete (first_cell w t l c) c) [ yes z ↦ z | no z ↦ absurd (omega (arith, id-old w t l c z, tile-in, p.count)) ]

    pub not_own : (v / 4 ≡ k → ⊥) → first_cell w t l c ≡ c → ⊥
    not_own q z = q (tile-in ∙ id-new w t l c z ∙ sym p.count)

    -- not a first cell
    pub copying-old : (v / 4 ≡ k → ⊥) → Copying tiles₀ tiles k (c + 1)
    copying-old q =
        let z : firsts (c + 1) ≡ firsts c = rw add-one (firsts-old w t l c (not_own q)) in
        record { long = p.long; count = p.count ∙ ap length (sym z); few = omega (arith, p.few); written = p.written ∙ ap (λ (m : List ℕ). over (flat_map cell m) tiles₀) (sym z) }

    module _ (q : v / 4 ≡ k) (room : length (firsts n) * (t * t) ≤ length tiles₀) where
      -- there is room for it
      pub copying-room : k * t * t + t * t ≤ length tiles₀
      copying-room =
          let a : suc k ≤ length (firsts n) = omega (arith, (firsts_at w t l n c (own q) b).below, p.count) in
          omega (arith, mul-le-mul_right (t * t) a)

      -- a first cell, lent behind the tiles before it
      pub copying-new : (corner : ℕ) → corner ≡ corner_of w t c → (part : List ℤ) → part ≡ over (tile_at l corner w t) (take (length tiles - k * t * t) (drop (k * t * t) tiles))
          → Copying tiles₀ (put_mid (k * t * t) (length tiles - k * t * t) tiles part) (k + 1) (c + 1)
      copying-new corner a part d =
          let seen : tile_at l corner w t ≡ cell c = rw a (cell-seen w t l c) in
          let next : firsts (c + 1) ≡ firsts c ++ (c ∷ []) = rw add-one (firsts-new w t l c (own q)) in
          let more : flat_map cell (firsts c) ++ cell c ≡ flat_map cell (firsts (c + 1)) = sym (ap (flat_map cell) next ∙ flat_map-append cell (firsts c) (c ∷ []) ∙ ap (λ (m : List ℤ). flat_map cell (firsts c) ++ m) (flat_map-one cell c)) in
          let before : length (flat_map cell (firsts c)) ≡ k * t * t = length-flat_map cell (t * t) (length-cell w t l) (firsts c) ∙ rw (← p.count) (omega arith) in
          let rank : length (firsts (c + 1)) ≡ k + 1 = ap (λ (m : ℕ). length (firsts m)) (add-one c) ∙ rank-new w t l c (own q) ∙ omega (arith, p.count) in
          let after : length (flat_map cell (firsts (c + 1))) ≡ k * t * t + t * t = length-flat_map cell (t * t) (length-cell w t l) (firsts (c + 1)) ∙ rw rank (omega arith) in
          let written = over-lent (flat_map cell (firsts c)) (cell c) tiles₀ tiles part (k * t * t) before p.written (rw seen at d) ∙ ap (λ (m : List ℤ). over m tiles₀) more in
          record {
            long = ap (λ (m : List ℤ). length m) written ∙ length_over (flat_map cell (firsts (c + 1))) tiles₀ (omega (arith, after, copying-room));
            count = sym rank;
            few = omega (arith, p.few);
            written = written;
          }
