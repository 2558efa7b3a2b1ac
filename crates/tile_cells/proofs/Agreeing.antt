-- `extract`'s pass over the cells gives the tiles of the first cells, and for each cell the tile of its first cell and the order in which it is it. Assumes nothing.
use mathlib.Core.Path.{◌≡◌, sym, ap, ◌∙◌}
use mathlib.Core.Bool.{false}
use mathlib.Core.List.{List, [], ◌∷◌, ◌++◌, map, map-append}
use Prim.Native.Nat.{ℕ, zero, suc, ◌+◌, ◌<◌}
use native.Mathlib.Nat.{add-zero, zero-add}
use native.Mathlib.Numerals.{add-one}
use native.Mathlib.Decide.{dec_lt, ℕ_discrete}
use native.Mathlib.Omega.{arith}
use borrow.Author.Tests.{lt-ltb, le-ltb}
use lib.IntN.{ℤ}
use lib.ListN.{length, get_or, length-map}
use Rattle.base.specs.Lists.{range}
use Rattle.tile_cells.specs.Tile.{position, order_to, is_flip_of}
use Rattle.tile_cells.specs.Cells.{cell_count, cell_of, cells, order_of, first_cell}
use Rattle.tile_cells.specs.Extract.{Extracted, entered, entered_all, extract_of}
use Rattle.tile_cells.specs.Ids.{firsts_below, tile_id, entry_at}
use Rattle.tile_cells.proofs.Rows.{get_d_map, first_next}
use Rattle.tile_cells.proofs.Positions.{position-is, position-out}
use Rattle.tile_cells.proofs.Firsts.{first-le, first-flip, first-is, order-self}
use Rattle.tile_cells.proofs.Ranks.{firsts-new, firsts-old, firsts-from, id-new, id-at, id-only}

module _ (w t : ℕ) (l : List ℤ) where
  abbrev cell : ℕ → List ℤ
  cell = cell_of w t l

  abbrev first : ℕ → ℕ
  first = first_cell w t l

  abbrev firsts : ℕ → List ℕ
  firsts = firsts_below w t l

  -- after c cells
  abbrev state : ℕ → Extracted
  state c = record { unique = map cell (firsts c); entries = map (entry_at w t l) (range 0 c) }

  abbrev search-in : ℕ → ℕ
  search-in c = position (is_flip_of t (cell c)) (map cell (firsts c))

  count : (c : ℕ) → length (map cell (firsts c)) ≡ length (firsts c)
  count c = length-map (firsts c) cell

  -- the tile at a place of the list is that of a first cell; one that c is a flip of is its first cell
  other : (c j : ℕ) → j < length (firsts c) → (first c ≡ get_or (firsts c) j 0 → ⊥) → is_flip_of t (cell c) (get_or (map cell (firsts c)) j []) ≡ false
  unfolding is_flip_of order_of
  other c j h n =
      let f : ℕ = get_or (firsts c) j 0 in
      let at : get_or (map cell (firsts c)) j [] ≡ cell f = get_d_map cell (firsts c) j 0 [] h in
      rw at (elim (dec_lt (order_to t (cell c) (cell f)) 4) [
        | yes k ↦ absurd (n (first-is w t l c f (firsts-from w t l c j h).own k))
        | no k ↦ le-ltb (order_to t (cell c) (cell f)) 4 (omega arith)
      ])

  found-old : (c : ℕ) → (first c ≡ c → ⊥) → search-in c ≡ tile_id w t l c
  unfolding is_flip_of order_of
  found-old c n =
      let a = id-at w t l c c (omega (arith, first-le w t l c)) in
      let id : ℕ = tile_id w t l c in
      let at : get_or (map cell (firsts c)) id [] ≡ cell (first c) = get_d_map cell (firsts c) id 0 [] a.below ∙ ap cell a.is in
      position-is (is_flip_of t (cell c)) [] (map cell (firsts c)) id (omega (arith, count c, a.below)) (rw at (lt-ltb (order_to t (cell c) (cell (first c))) 4 (first-flip w t l c)))
      (λ j h. other c j (omega (arith, a.below)) (λ e. omega (arith, id-only w t l c c j (omega (arith, a.below)) e)))

  found-new : (c : ℕ) → first c ≡ c → search-in c ≡ length (map cell (firsts c))
  found-new c e =
      position-out (is_flip_of t (cell c)) [] (map cell (firsts c))
      (λ j h. let b : j < length (firsts c) = omega (arith, count c) in other c j b (λ q. omega (arith, (firsts-from w t l c j b).below)))

  -- ---- one cell more
  next-entries : (c : ℕ) → map (entry_at w t l) (range 0 (suc c)) ≡ map (entry_at w t l) (range 0 c) ++ (entry_at w t l c ∷ [])
  next-entries c = rw (← add-one c) (first_next (entry_at w t l) c)

  entered-old : (c : ℕ) → (first c ≡ c → ⊥) → entered t (state c) (cell c) ≡ state (suc c)
  unfolding entered entry_at order_of
  entered-old c n =
      let a = id-at w t l c c (omega (arith, first-le w t l c)) in
      let id : ℕ = tile_id w t l c in
      let at : get_or (map cell (firsts c)) id [] ≡ cell (first c) = get_d_map cell (firsts c) id 0 [] a.below ∙ ap cell a.is in
      rw (found-old c n, lt-ltb id (length (map cell (firsts c))) (omega (arith, count c, a.below)), at, firsts-old w t l c n, next-entries c)

  entered-new : (c : ℕ) → first c ≡ c → entered t (state c) (cell c) ≡ state (suc c)
  unfolding entered entry_at
  entered-new c e =
      let n : ℕ = length (map cell (firsts c)) in
      let m : map cell (firsts c ++ (c ∷ [])) ≡ map cell (firsts c) ++ (cell c ∷ []) = map-append cell (firsts c) (c ∷ []) in
      let i : tile_id w t l c ≡ n = id-new w t l c e ∙ sym (count c) in
      rw (found-new c e, le-ltb n n (omega arith), firsts-new w t l c e, m, next-entries c, i, e, order-self w t l c)

  entered-next : (c : ℕ) → entered t (state c) (cell c) ≡ state (suc c)
  entered-next c = elim (ℕ_discrete (first c) c) [ yes e ↦ entered-new c e | no n ↦ entered-old c n ]

  entered_from : (c n : ℕ) → entered_all t (state c) (map cell (range c n)) ≡ state (c + n)
  unfolding entered_all range
  entered_from c zero = rw (add-zero c)
  entered_from c (suc n) =
      let e : suc c + n ≡ c + suc n = omega arith in
      ap (λ (s : Extracted). entered_all t s (map cell (range (suc c) n))) (entered-next c) ∙ entered_from (suc c) n ∙ ap (λ (m : ℕ). state m) e

  pub extract-is : (h : ℕ) → extract_of w h t l ≡ state (cell_count w h t)
  unfolding extract_of cells firsts_below range
  extract-is h = rw (zero-add (cell_count w h t)) at (entered_from 0 (cell_count w h t))
