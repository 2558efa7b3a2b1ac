-- The copies of a change at one place: one where the place is the same pixel of the same tile in another cell, and the region contains it. Assumes nothing.
use Prim.Native.Nat.{ℕ, zero, suc, ◌+◌, ◌*◌, ◌/◌, ◌%◌, ◌≤◌, ◌<◌, ◌^◌}
use mathlib.Core.Path.{◌≡◌, refl, sym, ap, ◌∙◌}
use mathlib.Core.Bool.{Bool, true, false, not, cond, ◌&&◌}
use mathlib.Core.List.{List, [], ◌∷◌, ◌++◌, flat_map, append-nil}
use native.Mathlib.Omega.{arith}
use native.Mathlib.Nat.{mod-lt, div-add-mod', div-lt_iff_lt-mul, mul_comm}
use native.Mathlib.Decide.{ℕ_discrete}
use lib.Arith.{digits_div, digits_mod}
use lib.Dec.{eqb}
use lib.IntN.{ℤ, pos}
use lib.ListN.{length, get_or}
use borrow.Author.Tests.{eq-eqb, ne_eqb}
use Rattle.base.specs.Lists.{range, kept, All}
use Rattle.base.proofs.Kept.{kept_append, all-kept}
use Rattle.selection.specs.declared.Selection.{Selection}
use Rattle.selection.specs.Selection.{contains}
use Rattle.edit.specs.Change.{Change, place}
use Rattle.base.proofs.Each.{all-flat, all-in-range}
use Rattle.change_normal.specs.Normal.{key_of}
use Rattle.change_normal.specs.Laws.{On, at_place}
use Rattle.tile_cells.specs.Tile.{turned}
use Rattle.tile_cells.specs.Cells.{Tiled, cell_count, first_cell}
use Rattle.tile_cells.specs.Extract.{Extracted, entry_of, extract_of}
use Rattle.tile_cells.specs.Ids.{entry_at}
use Rattle.tile_cells.proofs.Rows.{length-first, first-at}
use Rattle.tile_cells.proofs.Firsts.{first-le}
use Rattle.tile_cells.proofs.Flipping.{turned-below}
use Rattle.tile_cells.proofs.Ranks.{id_same, same_id}
use Rattle.tile_cells.proofs.Agreeing.{extract-is}
use Rattle.tile_marks.specs.Cell.{cell_at, column_in, row_in}
use Rattle.tile_marks.specs.Marks.{cell_of_place}
use Rattle.tile_copies.specs.Mirror.{entry_in, copy_at, copy_in, instances, copies_of}
use Rattle.tile_copies.proofs.Places.{key_at}
use Rattle.tile_copies.proofs.AtPlace.{copyTo}
use Rattle.tile_copies.proofs.Coordinates.{class_of, turned-back, column-mod, row-mod, column-on, row_on, cell-back, cell_below, column-of, row-of, flip_of, tileX, tileY, class_in, class-is, class_same}

-- ---- lists
at-flat : {A : Type 0} (k : ℕ) (f : A → List Change) (xs : List A) → at_place k (flat_map f xs) ≡ flat_map (λ x. at_place k (f x)) xs
unfolding flat_map at_place kept
at-flat k f [] = refl
at-flat k f (x ∷ xs) = kept_append (λ e. eqb k (key_of e)) (f x) (flat_map f xs) ∙ ap (kept (λ e. eqb k (key_of e)) (f x) ++◌) (at-flat k f xs)

-- a list whose elements are none but at P
module _ {A : Type 0} (T : ℕ → Bool) (g : ℕ → List A) (P N : ℕ) (others : (o : ℕ) → o < N → (o ≡ P → ⊥) → g o ≡ []) where
  gone : (i k : ℕ) → i + k ≤ N → P < i → flat_map g (kept T (range i k)) ≡ []
  unfolding flat_map kept range
  gone i zero h b = refl
  gone i (suc k) h b = pick (T i) (others i (omega arith) (λ e. omega arith)) (gone (suc i) k (omega arith) (omega arith))
    where
      pick : (b : Bool) → g i ≡ [] → flat_map g (kept T (range (suc i) k)) ≡ [] → flat_map g (cond b (i ∷ kept T (range (suc i) k)) (kept T (range (suc i) k))) ≡ []
      pick true e f = rw (e, f)
      pick false e f = f

  only : (i k : ℕ) → i + k ≤ N → i ≤ P → P < i + k → flat_map g (kept T (range i k)) ≡ cond (T P) (g P) []
  unfolding flat_map kept range
  only i zero h a b = absurd (omega arith)
  only i (suc k) h a b = elim (ℕ_discrete i P) [
    | yes e ↦ rw (← e) (here (T i) (gone (suc i) k (omega arith) (omega arith)))
    | no e ↦ past (T i) (others i (omega arith) e) (only (suc i) k (omega arith) (omega arith) (omega arith))
  ]
    where
      here : (b : Bool) → flat_map g (kept T (range (suc i) k)) ≡ [] → flat_map g (cond b (i ∷ kept T (range (suc i) k)) (kept T (range (suc i) k))) ≡ cond b (g i) []
      here true f = rw f (append-nil (g i))
      here false f = f

      past : (b : Bool) → g i ≡ [] → flat_map g (kept T (range (suc i) k)) ≡ cond (T P) (g P) [] → flat_map g (cond b (i ∷ kept T (range (suc i) k)) (kept T (range (suc i) k))) ≡ cond (T P) (g P) []
      past true e f = rw e f
      past false e f = f

-- ---- a copy at place p
module _ (w : ℕ) (l : List ℤ) (region : Selection) (new : ℤ) (p x y : ℕ) where
  copy-here : x ≡ p % w → y ≡ p / w → at_place (key_at w p) (copy_at w l region new x y) ≡ cond (contains region (p % w) (p / w)) (copyTo w l p new ∷ []) []
  unfolding copy_at at_place kept key_of
  copy-here ex ey = rw (ex, ey, div-add-mod' p w) (pick (contains region (p % w) (p / w)))
    where
      pick : (b : Bool) → kept (λ (e : Change). eqb (key_at w p) (e.y * 2 ^ 16 + e.x)) (cond b (copyTo w l p new ∷ []) []) ≡ cond b (copyTo w l p new ∷ []) []
      pick true = rw (eq-eqb (key_at w p) (key_at w p) refl)
      pick false = refl

  copy-there : p % w < 2 ^ 16 → x < 2 ^ 16 → (x ≡ p % w → y ≡ p / w → ⊥) → at_place (key_at w p) (copy_at w l region new x y) ≡ []
  unfolding copy_at at_place kept key_of
  copy-there hp hx n = pick (contains region x y)
    where
      pick : (b : Bool) → kept (λ (e : Change). eqb (key_at w p) (e.y * 2 ^ 16 + e.x)) (cond b (record { x = x; y = y; old = get_or l (y * w + x) (pos 0); new = new } ∷ []) []) ≡ []
      pick true = rw (ne_eqb (key_at w p) (y * 2 ^ 16 + x) (λ e. n (omega arith) (omega arith)))
      pick false = refl

-- ---- of a sheet that is cut into tiles
module _ (w h t : ℕ) (l : List ℤ) (d : Tiled w h t l) (wide : 0 < w / t) (region : Selection) where
  abbrev e : Extracted
  e = extract_of w h t l

  abbrev N : ℕ
  N = cell_count w h t

  entry-is : (o : ℕ) → o < N → entry_in e o ≡ entry_at w t l o
  unfolding entry_in
  entry-is o b = rw (extract-is w t l h) (first-at (entry_at w t l) N o (record { tile = 0; h = false; v = false }) b)

  entries-long : length e.entries ≡ N
  entries-long = rw (extract-is w t l h) (length-first (entry_at w t l) N)

  first_below : (c : ℕ) → c < N → first_cell w t l c < N
  first_below c b = omega (arith, first-le w t l c)

  module _ (c : Change) (on : On w h c) where
    cx : c.x < w
    unfolding On
    cx = on.0

    cy : c.y < h
    unfolding On
    cy = on.1

    abbrev cell : ℕ
    cell = cell_at w t c.x c.y

    cell_in : cell < N
    cell_in = cell_below w h t l d wide c.x c.y cx cy

    abbrev tx : ℕ
    tx = tileX w h t l d wide cell c.x

    abbrev ty : ℕ
    ty = tileY w h t l d wide cell c.y

    tx-below : tx < t
    tx-below = turned-below (flip_of w h t l d wide cell).h (mod-lt c.x d.side)

    ty_below : ty < t
    ty_below = turned-below (flip_of w h t l d wide cell).v (mod-lt c.y d.side)

    -- where it lands in cell o
    abbrev X : ℕ → ℕ
    X o = column_in w t o (turned (flip_of w h t l d wide o).h t tx)

    abbrev Y : ℕ → ℕ
    Y o = row_in w t o (turned (flip_of w h t l d wide o).v t ty)

    copy_is : (o : ℕ) → o < N → copy_in w t l region e c o ≡ copy_at w l region c.new (X o) (Y o)
    unfolding copy_in entry_at entry_of
    copy_is o b = rw (entry-is cell cell_in, entry-is o b)

    X-in : (o : ℕ) → turned (flip_of w h t l d wide o).h t tx < t
    X-in o = turned-below (flip_of w h t l d wide o).h tx-below

    Y-in : (o : ℕ) → turned (flip_of w h t l d wide o).v t ty < t
    Y-in o = turned-below (flip_of w h t l d wide o).v ty_below

    X-on : (o : ℕ) → o < N → X o < w
    X-on o b = column-on w h t l d wide o _ _ b (X-in o) (Y-in o)

    Y-on : (o : ℕ) → o < N → Y o < h
    Y-on o b = row_on w h t l d wide o _ _ b (X-in o) (Y-in o)

    -- ---- at place p
    module _ (p : ℕ) (inside : p < w * h) where
      w-pos : 0 < w
      w-pos = omega (arith, cx)

      px : p % w < w
      px = mod-lt p w-pos

      py : p / w < h
      py = (div-lt_iff_lt-mul w-pos).1 (rw (mul_comm w h) at inside)

      abbrev P : ℕ
      P = cell_of_place w t p

      P-in : P < N
      P-in = cell_below w h t l d wide (p % w) (p / w) px py

      abbrev tile-x : ℕ
      tile-x = tileX w h t l d wide P (p % w)

      abbrev tile-y : ℕ
      tile-y = tileY w h t l d wide P (p / w)

      abbrev at : ℕ → List Change
      at o = at_place (key_at w p) (copy_in w t l region e c o)

      abbrev T : ℕ → Bool
      T o = eqb (entry_in e o).tile (entry_in e cell).tile && not (eqb o cell)

      elsewhere : (o : ℕ) → o < N → (o ≡ P → ⊥) → at o ≡ []
      elsewhere o b n =
          rw (copy_is o b) (copy-there w l region c.new p (X o) (Y o) (omega (arith, px, d.w-small)) (omega (arith, X-on o b, d.w-small))
          (λ ex ey. n (sym (cell-back w h t l d wide o _ _ b (X-in o) (Y-in o)) ∙ rw (ex, ey))))

      one_cell : at_place (key_at w p) (copies_of w t l region e c) ≡ cond (T P) (at P) []
      unfolding copies_of instances
      one_cell = at-flat (key_at w p) (copy_in w t l region e c) (instances e cell) ∙ rw entries-long (only T at P N elsewhere 0 N (omega arith) (omega arith) (omega (arith, P-in)))

      -- the classes of both
      class-c : class_of w t l (place w c) ≡ class_in w h t l d wide (first_cell w t l cell) tx ty
      unfolding place
      class-c = class-is w h t l d wide (c.y * w + c.x) ∙ rw (digits_mod c.y cx, digits_div c.y cx)

      class-p : class_of w t l p ≡ class_in w h t l d wide (first_cell w t l P) tile-x tile-y
      class-p = class-is w h t l d wide p

      tile-x-below : tile-x < t
      tile-x-below = turned-below (flip_of w h t l d wide P).h (mod-lt (p % w) d.side)

      tile-y-below : tile-y < t
      tile-y-below = turned-below (flip_of w h t l d wide P).v (mod-lt (p / w) d.side)

      same-tile : (f : first_cell w t l P ≡ first_cell w t l cell) → eqb (entry_in e P).tile (entry_in e cell).tile ≡ true
      unfolding entry_at entry_of
      same-tile f = rw (entry-is P P-in, entry-is cell cell_in) (eq-eqb _ _ (id_same w t l P cell f))

      other-tile : (first_cell w t l P ≡ first_cell w t l cell → ⊥) → eqb (entry_in e P).tile (entry_in e cell).tile ≡ false
      unfolding entry_at entry_of
      other-tile n = rw (entry-is P P-in, entry-is cell cell_in) (ne_eqb _ _ (λ q. n (same_id w t l P cell q)))

      -- it lands on p where it is p's pixel of the tile
      lands_x : tx ≡ tile-x → X P ≡ p % w
      lands_x q = ap (λ (i : ℕ). column_in w t P (turned (flip_of w h t l d wide P).h t i)) q ∙ ap (column_in w t P) (turned-back (flip_of w h t l d wide P).h (mod-lt (p % w) d.side)) ∙ column-of w h t l d wide (p % w) (p / w) px py

      lands-y : ty ≡ tile-y → Y P ≡ p / w
      lands-y q = ap (λ (i : ℕ). row_in w t P (turned (flip_of w h t l d wide P).v t i)) q ∙ ap (row_in w t P) (turned-back (flip_of w h t l d wide P).v (mod-lt (p / w) d.side)) ∙ row-of w h t l d wide (p % w) (p / w) px py

      from-x : X P ≡ p % w → tx ≡ tile-x
      from-x q =
          let a : turned (flip_of w h t l d wide P).h t tx ≡ p % w % t = sym (column-mod w h t l d wide P _ _ P-in (X-in P) (Y-in P)) ∙ ap (λ (n : ℕ). n % t) q in
          sym (turned-back (flip_of w h t l d wide P).h tx-below) ∙ ap (turned (flip_of w h t l d wide P).h t) a

      from-y : Y P ≡ p / w → ty ≡ tile-y
      from-y q =
          let a : turned (flip_of w h t l d wide P).v t ty ≡ p / w % t = sym (row-mod w h t l d wide P _ _ P-in (X-in P) (Y-in P)) ∙ ap (λ (n : ℕ). n % t) q in
          sym (turned-back (flip_of w h t l d wide P).v ty_below) ∙ ap (turned (flip_of w h t l d wide P).v t) a

      place-cell : place w c ≡ p → P ≡ cell
      unfolding place
      place-cell q = rw (← q, digits_mod c.y cx, digits_div c.y cx)

      cell-place : P ≡ cell → tx ≡ tile-x → ty ≡ tile-y → place w c ≡ p
      unfolding place
      cell-place q ex ey =
          let a : c.x % t ≡ p % w % t = sym (turned-back (flip_of w h t l d wide cell).h (mod-lt c.x d.side)) ∙ ap (turned (flip_of w h t l d wide cell).h t) ex ∙ ap (λ (o : ℕ). turned (flip_of w h t l d wide o).h t tile-x) (sym q) ∙ turned-back (flip_of w h t l d wide P).h (mod-lt (p % w) d.side) in
          let b : c.y % t ≡ p / w % t = sym (turned-back (flip_of w h t l d wide cell).v (mod-lt c.y d.side)) ∙ ap (turned (flip_of w h t l d wide cell).v t) ey ∙ ap (λ (o : ℕ). turned (flip_of w h t l d wide o).v t tile-y) (sym q) ∙ turned-back (flip_of w h t l d wide P).v (mod-lt (p / w) d.side) in
          let x : c.x ≡ p % w = sym (column-of w h t l d wide c.x c.y cx cy) ∙ ap (λ (o : ℕ). column_in w t o (c.x % t)) (sym q) ∙ ap (column_in w t P) a ∙ column-of w h t l d wide (p % w) (p / w) px py in
          let y : c.y ≡ p / w = sym (row-of w h t l d wide c.x c.y cx cy) ∙ ap (λ (o : ℕ). row_in w t o (c.y % t)) (sym q) ∙ ap (row_in w t P) b ∙ row-of w h t l d wide (p % w) (p / w) px py in
          ap (λ (i : ℕ). i * w + c.x) y ∙ ap (λ (i : ℕ). p / w * w + i) x ∙ div-add-mod' p w

      same-cell : tx ≡ tile-x → ty ≡ tile-y → eqb P cell ≡ eqb (place w c) p
      same-cell ex ey = elim (ℕ_discrete P cell) [
        | yes q ↦ eq-eqb P cell q ∙ sym (eq-eqb (place w c) p (cell-place q ex ey))
        | no q ↦ ne_eqb P cell q ∙ sym (ne_eqb (place w c) p (λ r. q (place-cell r)))
      ]

      abbrev one : List Change
      one = copyTo w l p c.new ∷ []

      pub copies_at : at_place (key_at w p) (copies_of w t l region e c) ≡ cond (contains region (p % w) (p / w) && (eqb (class_of w t l (place w c)) (class_of w t l p) && not (eqb (place w c) p))) one []
      copies_at = one_cell ∙ elim (ℕ_discrete (class_of w t l (place w c)) (class_of w t l p)) [
        | yes q ↦ (let s = class_same w h t l d wide (first_cell w t l cell) tx ty (first_cell w t l P) tile-x tile-y (first_below cell cell_in) tx-below ty_below (first_below P P-in) tile-x-below tile-y-below (sym class-c ∙ q ∙ class-p) in
            rw (eq-eqb (class_of w t l (place w c)) (class_of w t l p) q, same-tile (sym s.first), same-cell s.x s.y, copy_is P P-in, copy-here w l region c.new p (X P) (Y P) (lands_x s.x) (lands-y s.y))
            (both (contains region (p % w) (p / w)) (not (eqb (place w c) p))))
        | no q ↦ rw (ne_eqb (class_of w t l (place w c)) (class_of w t l p) q) (elim (ℕ_discrete (first_cell w t l P) (first_cell w t l cell)) [
          | yes f ↦ rw (
            copy_is P P-in,
            copy-there w l region c.new p (X P) (Y P) (omega (arith, px, d.w-small)) (omega (arith, X-on P P-in, d.w-small))
                (λ ex ey. q (class-c ∙ ap (λ (i : ℕ). class_in w h t l d wide (first_cell w t l cell) i ty) (from-x ex) ∙ ap (class_in w h t l d wide (first_cell w t l cell) tile-x) (from-y ey) ∙ ap (λ (i : ℕ). class_in w h t l d wide i tile-x tile-y) (sym f) ∙ sym class-p)),
          )
              (none (T P) (contains region (p % w) (p / w)))
          | no f ↦ rw (other-tile f) (nothing (contains region (p % w) (p / w)))
        ])
      ]
        where
          both : (b n : Bool) → cond n (cond b one []) [] ≡ cond (b && n) one []
          both true true = refl
          both true false = refl
          both false true = refl
          both false false = refl

          nothing : (b : Bool) → [] ≡ cond (b && false) one []
          nothing true = refl
          nothing false = refl

          none : (n b : Bool) → cond n [] [] ≡ cond (b && false) one []
          none true b = nothing b
          none false b = nothing b

    -- ---- every copy is on the sheet
    copy-on : (o : ℕ) → o < N → All (On w h) (copy_in w t l region e c o)
    unfolding copy_at All On
    copy-on o b = rw (copy_is o b) (pick (contains region (X o) (Y o)))
      where
        pick : (b : Bool) → All (On w h) (cond b (record { x = X o; y = Y o; old = get_or l (Y o * w + X o) (pos 0); new = c.new } ∷ []) [])
        pick true = ((X-on o b, Y-on o b), tt)
        pick false = tt

    pub copies-on : All (On w h) (copies_of w t l region e c)
    unfolding copies_of instances
    copies-on = rw entries-long (all-flat (On w h) (copy_in w t l region e c) (kept T₀ (range 0 N)) (all-kept (λ o. All (On w h) (copy_in w t l region e c o)) T₀ (range 0 N) (all-in-range (λ o. All (On w h) (copy_in w t l region e c o)) 0 N (λ o a b. copy-on o (omega arith)))))
      where
        T₀ : ℕ → Bool
        T₀ o = eqb (entry_in e o).tile (entry_in e cell).tile && not (eqb o cell)
