-- "`reconstruct(extract(idx)) == idx`": each row that is drawn is the sheet's, and each pixel is in a row that is drawn. Assumes nothing.
use mathlib.Core.Path.{◌≡◌, refl, sym, ap, ◌∙◌}
use mathlib.Core.Bool.{false}
use mathlib.Core.List.{List, [], ◌++◌, map}
use Prim.Native.Nat.{ℕ, zero, suc, ◌+◌, ◌-◌, ◌*◌, ◌/◌, ◌%◌, ◌<◌, ◌≤◌}
use native.Mathlib.Nat.{mul_comm, mul-le-mul_right, mod-lt, div-add-mod', div-lt_iff_lt-mul, mul-add-div_right, mul-add-mod_self_right, mod-eq_of_lt, div-eq_of_lt}
use native.Mathlib.Decide.{dec_lt, dec_le}
use native.Mathlib.Omega.{arith}
use borrow.Author.Tests.{le-ltb, lt-leb, ne_eqb}
use lib.Dec.{leb}
use lib.IntN.{ℤ, pos, negsuc}
use lib.ListN.{length, get_or, take, drop, replicate, length-map, length-append, length-take, length-drop, length-replicate, get_or-append}
use lib.Seq.{length-take-le, get_or-append-add, get_or-take, get_or-drop, ext_get_or}
use Rattle.base.specs.Lists.{range, some}
use Rattle.base.proofs.Collect.{length-range}
use Rattle.base.proofs.Nowhere.{some-map, nowhere-of}
use Rattle.tile_cells.specs.Tile.{Flip, flipped, flip_at, turned_by, order_to}
use Rattle.tile_cells.specs.Cells.{Tiled, cell_count, cell_of, order_of, first_cell}
use Rattle.tile_cells.specs.Extract.{entry_of, extract_of}
use Rattle.tile_cells.specs.Ids.{firsts_below, tile_id, entry_at}
use Rattle.tile_cells.specs.Reconstruct.{pasted, drawn_rows, drawn, image, reconstruct_of}
use Rattle.tile_cells.proofs.Rows.{get_d_map, range_at}
use Rattle.tile_cells.proofs.Grids.{grid-at}
use Rattle.tile_cells.proofs.Flipping.{flipped-back}
use Rattle.tile_cells.proofs.Orders.{order-at}
use Rattle.tile_cells.proofs.Lying.{room}
use Rattle.tile_cells.proofs.Corners.{across, down, length-cell, row, column}
use Rattle.tile_cells.proofs.Firsts.{first-le, first-flip}
use Rattle.tile_cells.proofs.Ranks.{id-at}
use Rattle.tile_cells.proofs.Agreeing.{extract-is}

-- ---- a row that is the sheet's, pasted: what was right stays, and the row is right
module _ (l : List ℤ) where
  abbrev at : List ℤ → ℕ → ℤ
  at out p = get_or out p (pos 0)

  pub record Redrawn (out out' : List ℤ) : Type 0 where
    pub long : length out' ≡ length out
    pub keeps : (p : ℕ) → at out p ≡ at l p → at out' p ≡ at l p

  same : (out : List ℤ) → Redrawn out out
  same out = record { long = refl; keeps = λ p e. e }

  after : {a b c : List ℤ} → Redrawn a b → Redrawn b c → Redrawn a c
  after f g = record { long = g.long ∙ f.long; keeps = λ p e. g.keeps p (f.keeps p e) }

  module _ (out : List ℤ) (x : ℕ) (line : List ℤ) (fits : x + length line ≤ length out) where
    abbrev n : ℕ
    n = length line

    front : length (take x out) ≡ x
    front = length-take-le x out (omega arith)

    before : (p : ℕ) → p < x → at (pasted x line out) p ≡ at out p
    unfolding pasted
    before p h = get_or-append (take x out) (line ++ drop (x + n) out) (pos 0) p (omega (arith, front)) ∙ get_or-take x out p (pos 0) h

    inside : (j : ℕ) → j < n → at (pasted x line out) (x + j) ≡ at line j
    unfolding pasted
    inside j h =
        let e : x + j ≡ length (take x out) + j = omega (arith, front) in
        rw e (get_or-append-add (take x out) (line ++ drop (x + n) out) j (pos 0) ∙ get_or-append line (drop (x + n) out) (pos 0) j h)

    behind : (j : ℕ) → at (pasted x line out) (x + n + j) ≡ at out (x + n + j)
    unfolding pasted
    behind j =
        let e : x + n + j ≡ length (take x out) + (n + j) = omega (arith, front) in
        ap (λ (q : ℕ). get_or (take x out ++ (line ++ drop (x + n) out)) q (pos 0)) e
        ∙ get_or-append-add (take x out) (line ++ drop (x + n) out) (n + j) (pos 0)
        ∙ get_or-append-add line (drop (x + n) out) j (pos 0)
        ∙ get_or-drop (x + n) out j (pos 0)

    module _ (right : (j : ℕ) → j < n → at line j ≡ at l (x + j)) where
      pub pasted-right : (j : ℕ) → j < n → at (pasted x line out) (x + j) ≡ at l (x + j)
      pasted-right j h = inside j h ∙ right j h

      pub pasted-redrawn : Redrawn out (pasted x line out)
      unfolding pasted
      pasted-redrawn =
          record {
            long = simp (length-append, length-take, length-drop) (omega arith);
            keeps = λ p e. elim (dec_lt p x) [
              | yes h ↦ before p h ∙ e
              | no h ↦ elim (dec_lt p (x + n)) [
                | yes k ↦ moved p (p - x) (omega arith) (pasted-right (p - x) (omega arith))
                | no k ↦ back p (p - (x + n)) (omega arith) e
              ]
            ];
          }
        where
          moved : (p j : ℕ) → x + j ≡ p → at (pasted x line out) (x + j) ≡ at l (x + j) → at (pasted x line out) p ≡ at l p
          moved p j q e = rw q at e

          back : (p j : ℕ) → x + n + j ≡ p → at out p ≡ at l p → at (pasted x line out) p ≡ at l p
          back p j q e = rw q at (behind j) ∙ e

-- ---- of a sheet
module _ {w h t : ℕ} {l : List ℤ} (d : Tiled w h t l) where
  abbrev cell : ℕ → List ℤ
  cell = cell_of w t l

  abbrev cells_of : ℕ
  cells_of = cell_count w h t

  -- where a pixel of cell c is
  abbrev pixel : ℕ → ℕ → ℕ → ℕ
  pixel c r j = (c / (w / t) * t + r) * w + c % (w / t) * t + j

  in_cell : (c r j : ℕ) → r < t → j < t → at l (cell c) (r * t + j) ≡ at l l (pixel c r j)
  unfolding cell_of
  in_cell c r j a b = grid-at t _ (pos 0) a b

  -- a row of a cell
  abbrev line : ℕ → ℕ → List ℤ
  line c r = take t (drop (r * t) (cell c))

  line-long : (c r : ℕ) → r < t → length (line c r) ≡ t
  line-long c r a = simp (length-take, length-drop) (omega (arith, length-cell w t l c, room a))

  line-right : (c r j : ℕ) → r < t → j < t → at l (line c r) j ≡ at l l (pixel c r j)
  line-right c r j a b = get_or-take t (drop (r * t) (cell c)) j (pos 0) b ∙ get_or-drop (r * t) (cell c) j (pos 0) ∙ in_cell c r j a b

  line-fits : (c r : ℕ) → c < cells_of → r < t → (c / (w / t) * t + r) * w + c % (w / t) * t + t ≤ w * h
  line-fits c r b a =
      let below : c / (w / t) * t + suc r ≤ h = omega (arith, row d b) in
      omega (arith, column d b, mul-le-mul_right w below)

  -- ---- the rows of a cell, from s on
  abbrev rowsDrawn : ℕ → ℕ → ℕ → List ℤ → List ℤ
  rowsDrawn c s m out = drawn_rows t w (cell c) (c % (w / t) * t) (c / (w / t) * t) (range s m) out

  module _ (c : ℕ) (b : c < cells_of) where
    next : (r : ℕ) → List ℤ → List ℤ
    next r out = pasted ((c / (w / t) * t + r) * w + c % (w / t) * t) (line c r) out

    row-redrawn : (r : ℕ) (out : List ℤ) → r < t → length out ≡ w * h → Redrawn l out (next r out)
    unfolding next
    row-redrawn r out a e =
        pasted-redrawn l out _ (line c r) (omega (arith, line-long c r a, line-fits c r b a)) (λ j k. line-right c r j a (omega (arith, line-long c r a)))

    row-right : (r j : ℕ) (out : List ℤ) → r < t → j < t → length out ≡ w * h → at l (next r out) (pixel c r j) ≡ at l l (pixel c r j)
    unfolding next
    row-right r j out a k e =
        pasted-right l out _ (line c r) (omega (arith, line-long c r a, line-fits c r b a)) (λ j k. line-right c r j a (omega (arith, line-long c r a))) j (omega (arith, line-long c r a))

    rows-redrawn : (s m : ℕ) (out : List ℤ) → s + m ≤ t → length out ≡ w * h → Redrawn l out (rowsDrawn c s m out)
    unfolding drawn_rows range next
    rows-redrawn s zero out a e = same l out
    rows-redrawn s (suc m) out a e =
        let f = row-redrawn s out (omega arith) e in
        after l f (rows-redrawn (suc s) m (next s out) (omega arith) (f.long ∙ e))

    rows_right : (s m r j : ℕ) (out : List ℤ) → s + m ≤ t → length out ≡ w * h → s ≤ r → r < s + m → j < t → at l (rowsDrawn c s m out) (pixel c r j) ≡ at l l (pixel c r j)
    unfolding drawn_rows range next
    rows_right s zero r j out a e p q k = absurd (omega arith)
    rows_right s (suc m) r j out a e p q k =
        let f = row-redrawn s out (omega arith) e in
        elim (dec_le r s) [
          | yes y ↦ (let z : s ≡ r = omega arith in (rows-redrawn (suc s) m (next s out) (omega arith) (f.long ∙ e)).keeps (pixel c r j) (rw z (row-right r j out (omega arith) k e)))
          | no y ↦ rows_right (suc s) m r j (next s out) (omega arith) (f.long ∙ e) (omega arith) (omega arith) k
        ]

  -- ---- the tile of a cell, drawn, is the cell
  abbrev uniques : List (List ℤ)
  uniques = map cell (firsts_below w t l cells_of)

  tile-drawn : (c : ℕ) → c < cells_of → flipped t (entry_at w t l c).h (entry_at w t l c).v (get_or uniques (entry_at w t l c).tile []) ≡ cell c
  unfolding entry_at entry_of order_of turned_by
  tile-drawn c b =
      let a = id-at w t l cells_of c (omega (arith, first-le w t l c)) in
      let f : ℕ = first_cell w t l c in
      let tile : get_or uniques (tile_id w t l c) [] ≡ cell f = get_d_map cell (firsts_below w t l cells_of) (tile_id w t l c) 0 [] a.below ∙ ap cell a.is in
      let flip : Flip = flip_at (order_to t (cell c) (cell f)) in
      rw tile (ap (flipped t flip.h flip.v) (sym (order-at t (cell c) (cell f) (first-flip w t l c))) ∙ flipped-back t (cell c) (length-cell w t l c) flip.h flip.v)

  -- ---- the cells, from c on
  abbrev cellsDrawn : ℕ → ℕ → List ℤ → List ℤ
  cellsDrawn c m out = drawn t (w / t) uniques c (map (entry_at w t l) (range c m)) out

  one : (c m : ℕ) (out : List ℤ) → c < cells_of → cellsDrawn c (suc m) out ≡ cellsDrawn (suc c) m (rowsDrawn c 0 t out)
  unfolding drawn range
  one c m out b =
      ap (λ (tile : List ℤ). cellsDrawn (suc c) m (drawn_rows t (w / t * t) tile (c % (w / t) * t) (c / (w / t) * t) (range 0 t) out)) (tile-drawn c b)
      ∙ ap (λ (v : ℕ). cellsDrawn (suc c) m (drawn_rows t v (cell c) (c % (w / t) * t) (c / (w / t) * t) (range 0 t) out)) (across d)

  cells-redrawn : (c m : ℕ) (out : List ℤ) → c + m ≤ cells_of → length out ≡ w * h → Redrawn l out (cellsDrawn c m out)
  unfolding drawn range
  cells-redrawn c zero out a e = same l out
  cells-redrawn c (suc m) out a e =
      let f = rows-redrawn c (omega arith) 0 t out (omega arith) e in
      rw (one c m out (omega arith)) (after l f (cells-redrawn (suc c) m (rowsDrawn c 0 t out) (omega arith) (f.long ∙ e)))

  cells_right : (c m i r j : ℕ) (out : List ℤ) → c + m ≤ cells_of → length out ≡ w * h → c ≤ i → i < c + m → r < t → j < t → at l (cellsDrawn c m out) (pixel i r j) ≡ at l l (pixel i r j)
  cells_right c zero i r j out a e p q u v = absurd (omega arith)
  cells_right c (suc m) i r j out a e p q u v =
      let f = rows-redrawn c (omega arith) 0 t out (omega arith) e in
      rw (one c m out (omega arith)) (elim (dec_le i c) [
        | yes y ↦ (let z : c ≡ i = omega arith in (cells-redrawn (suc c) m (rowsDrawn c 0 t out) (omega arith) (f.long ∙ e)).keeps (pixel i r j) (rw z (rows_right i (omega arith) 0 t r j out (omega arith) e (omega arith) (omega arith) v)))
        | no y ↦ cells_right (suc c) m i r j (rowsDrawn c 0 t out) (omega arith) (f.long ∙ e) (omega arith) (omega arith) u v
      ])

  -- ---- each pixel is one of a cell
  pub record Pixel (p : ℕ) : Type 0 where
    pub c : ℕ
    pub r : ℕ
    pub j : ℕ
    pub c-below : c < cells_of
    pub r-below : r < t
    pub j-below : j < t
    pub is : pixel c r j ≡ p

  pixel-of : (p : ℕ) → p < w * h → Pixel p
  unfolding cell_count
  pixel-of p b =
      let w-some : 0 < w = left-positive w h p b in
      let y : ℕ = p / w in
      let x : ℕ = p % w in
      let y-below : y < h = (div-lt_iff_lt-mul w-some).1 (omega (arith, mul_comm w h)) in
      let x_below : x < w = mod-lt p w-some in
      let ty_below : y / t < h / t = (div-lt_iff_lt-mul d.side).1 (omega (arith, down d)) in
      let tx-below : x / t < w / t = (div-lt_iff_lt-mul d.side).1 (omega (arith, across d)) in
      let wt-some : 0 < w / t = omega arith in
      let row_is : (y / t * (w / t) + x / t) / (w / t) ≡ y / t = mul-add-div_right wt-some (y / t) (x / t) ∙ omega (arith, div-eq_of_lt tx-below) in
      let column-is : (y / t * (w / t) + x / t) % (w / t) ≡ x / t = mul-add-mod_self_right (y / t) (w / t) (x / t) ∙ mod-eq_of_lt tx-below in
      record {
        c = y / t * (w / t) + x / t;
        r = y % t;
        j = x % t;
        c-below = omega (arith, mul-le-mul_right (w / t) ty_below);
        r-below = mod-lt y d.side;
        j-below = mod-lt x d.side;
        is = rw (row_is, column-is, div-add-mod' y t) (omega (arith, div-add-mod' x t, div-add-mod' p w));
      }
    where
      left-positive : (a b c : ℕ) → c < a * b → 0 < a
      left-positive zero b c h = absurd (omega arith)
      left-positive (suc a) b c h = omega arith

  -- ---- all of them
  blank : List ℤ
  blank = replicate (h / t * t * (w / t * t)) (negsuc 0)

  blank-long : length blank ≡ w * h
  unfolding blank
  blank-long = length-replicate (h / t * t * (w / t * t)) (negsuc 0) ∙ rw (down d, across d) (mul_comm h w)

  all-drawn : cellsDrawn 0 cells_of blank ≡ l
  all-drawn =
      let f = cells-redrawn 0 cells_of blank (omega arith) blank-long in
      ext_get_or (pos 0) (cellsDrawn 0 cells_of blank) l (f.long ∙ blank-long ∙ sym d.long) (λ p b. right p (omega (arith, f.long, blank-long)))
    where
      right : (p : ℕ) → p < w * h → at l (cellsDrawn 0 cells_of blank) p ≡ at l l p
      right p b =
          let q = pixel-of p b in
          rw q.is at (cells_right 0 cells_of q.c q.r q.j blank (omega arith) blank-long (omega arith) (omega (arith, q.c-below)) q.r-below q.j-below)

  -- no tile id is out of range
  in-range : some (λ entry. leb (length uniques) entry.tile) (map (entry_at w t l) (range 0 cells_of)) ≡ false
  unfolding entry_at entry_of
  in-range =
      some-map (entry_at w t l) (λ entry. leb (length uniques) entry.tile) (range 0 cells_of)
      ∙ nowhere-of (λ c. leb (length uniques) (tile_id w t l c)) (range 0 cells_of) 0 (λ i b. each i (omega (arith, length-range 0 cells_of)))
    where
      each : (i : ℕ) → i < cells_of → leb (length uniques) (tile_id w t l (get_or (range 0 cells_of) i 0)) ≡ false
      each i b = rw (range_at cells_of i 0 b) (lt-leb (length uniques) (tile_id w t l i) (omega (arith, (id-at w t l cells_of i (omega (arith, first-le w t l i))).below, length-map (firsts_below w t l cells_of) cell)))

  not_more : length (map (entry_at w t l) (range 0 cells_of)) ≤ w / t * (h / t)
  unfolding cell_count
  not_more = omega (arith, length-map (range 0 cells_of) (entry_at w t l), length-range 0 cells_of, mul_comm (h / t) (w / t))

  -- `reconstruct(extract(idx)) == idx`
  pub reconstruct-extract : reconstruct_of t (w / t) (h / t) (extract_of w h t l) ≡ image l
  unfolding reconstruct_of blank
  reconstruct-extract =
      rw (extract-is w t l h, ne_eqb t 0 (λ e. omega (arith, d.side)), le-ltb (w / t * (h / t)) (length (map (entry_at w t l) (range 0 cells_of))) not_more, in-range) (ap image all-drawn)
