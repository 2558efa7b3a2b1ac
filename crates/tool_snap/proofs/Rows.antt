-- A clip as the loops write it: a row, then the rows. Assumes nothing.
use mathlib.Core.Path.{◌≡◌, refl, sym, ap, ◌∙◌}
use mathlib.Core.List.{List, [], ◌∷◌, ◌++◌, map, map-append, flat_map}
use Prim.Native.Nat.{ℕ, zero, suc, ◌+◌, ◌*◌, ◌-◌, ◌<◌, ◌≤◌}
use native.Mathlib.Nat.{add-suc, le_antisymm}
use native.Mathlib.Omega.{arith}
use borrow.Rule.Slice.PartMut.{put_mid}
use lib.IntN.{ℤ}
use lib.ListN.{length, set, take, drop, length-map, length-set}
use Rattle.base.specs.Lists.{range, over}
use Rattle.base.proofs.Over.{over_none, over-set, over-lent, length_over}
use Rattle.base.proofs.Collect.{length-range, range-next, flat_map-append, flat_map-one}
use Rattle.selection_spans.specs.Positions.{Position, position, row, rows}
use Rattle.selection_spans.proofs.Rows.{length-rows}
use Rattle.tool_snap.specs.Clipped.{from_rows}

module _ (g : ℕ → ℤ) where
  -- ---- a row: what i places from one on give
  pub record Row (from : ℕ) (out₀ out : List ℤ) (i : ℕ) : Type 0 where
    pub long : length out ≡ length out₀
    pub written : out ≡ over (map g (range from i)) out₀

  pub row-none : (from : ℕ) (out : List ℤ) → Row from out out 0
  unfolding range
  row-none from out = record { long = refl; written = over_none out }

  pub row_next : {from : ℕ} {out₀ out : List ℤ} {i : ℕ} → Row from out₀ out i → i < length out₀ → (v : ℤ) → v ≡ g (from + i) → Row from out₀ (set out i v) (i + 1)
  row_next {from} {out₀} {out} {i} p h v e =
      let more : map g (range from (i + 1)) ≡ map g (range from i) ++ (g (from + i) ∷ []) = ap (map g) (range-next from i) ∙ map-append g (range from i) ((from + i) ∷ []) in
      record {
        long = length-set out i v ∙ p.long;
        written = rw (p.written, e, more) (over-set (map g (range from i)) out₀ i (g (from + i)) (length-map (range from i) g ∙ length-range from i) h);
      }

  pub row-all : {from : ℕ} {out₀ out : List ℤ} {i : ℕ} → Row from out₀ out i → (n : ℕ) → i ≤ n → n ≤ i → out ≡ over (map g (range from n)) out₀
  row-all {from} {out₀} p n a b = p.written ∙ ap (λ (j : ℕ). over (map g (range from j)) out₀) (le_antisymm a b)

  -- ---- the rows of a rectangle, out of rows that are w wide
  module _ (w x y n : ℕ) where
    in-row : (a m : ℕ) → from_rows w g (map (position y) (range a m)) ≡ map g (range (y * w + a) m)
    unfolding from_rows range
    in-row a zero = refl
    in-row a (suc m) = ap (λ (l : List ℤ). g (y * w + a) ∷ l) (rw (add-suc (y * w) a) at (in-row (suc a) m))

  one-row : (w x y n : ℕ) → from_rows w g (row x n y) ≡ map g (range (y * w + x) n)
  unfolding row
  one-row w x y n = in-row w x y n x n

  module _ (w x y n : ℕ) where
    from-append : (ps qs : List Position) → from_rows w g (ps ++ qs) ≡ from_rows w g ps ++ from_rows w g qs
    unfolding from_rows
    from-append ps qs = map-append (λ p. g (p.y * w + p.x)) ps qs

    pub from-length : (ps : List Position) → length (from_rows w g ps) ≡ length ps
    unfolding from_rows
    from-length ps = length-map ps (λ p. g (p.y * w + p.x))

    rows_more : (j : ℕ) → from_rows w g (rows x n y (j + 1)) ≡ from_rows w g (rows x n y j) ++ map g (range ((y + j) * w + x) n)
    rows_more j =
        let next : rows x n y (j + 1) ≡ rows x n y j ++ row x n (y + j) = rw (range-next y j, flat_map-append, flat_map-one) in
        ap (from_rows w g) next ∙ from-append (rows x n y j) (row x n (y + j)) ∙ ap (λ (l : List ℤ). from_rows w g (rows x n y j) ++ l) (one-row w x (y + j) n)

    rows-length : (j : ℕ) → length (from_rows w g (rows x n y j)) ≡ j * n
    rows-length j = from-length (rows x n y j) ∙ length-rows x n y j

    pub record Rows (out₀ out : List ℤ) (j : ℕ) : Type 0 where
      pub long : length out ≡ length out₀
      pub written : out ≡ over (from_rows w g (rows x n y j)) out₀

    pub rows_none : (out : List ℤ) → Rows out out 0
    unfolding from_rows range flat_map
    rows_none out = record { long = refl; written = over_none out }

    -- the row after the first j, lent behind them
    pub rows_next : {out₀ out : List ℤ} {j : ℕ} → Rows out₀ out j → j * n + n ≤ length out₀ → (from : ℕ) → from ≡ (y + j) * w + x → (part : List ℤ)
        → part ≡ over (map g (range from n)) (take (length out - j * n) (drop (j * n) out))
        → Rows out₀ (put_mid (j * n) (length out - j * n) out part) (j + 1)
    rows_next {out₀} {out} {j} p room from e part q =
        let joined : from_rows w g (rows x n y j) ++ map g (range from n) ≡ from_rows w g (rows x n y (j + 1)) = rw e (sym (rows_more j)) in
        let written = over-lent (from_rows w g (rows x n y j)) (map g (range from n)) out₀ out part (j * n) (rows-length j) p.written q
        ∙ ap (λ (l : List ℤ). over l out₀) joined in
        record {
          long = ap (λ (l : List ℤ). length l) written
              ∙ length_over (from_rows w g (rows x n y (j + 1))) out₀ (omega (arith, rows-length (j + 1)));
          written = written;
        }
