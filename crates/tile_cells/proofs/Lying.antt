-- A tile read where it lies: an index of a row, and where a row of a tile lies. Assumes nothing.
use mathlib.Core.Path.{◌≡◌, sym, ap, ◌∙◌}
use mathlib.Core.Bool.{Bool, true, false}
use mathlib.Core.List.{List, flat_map}
use Prim.Native.Nat.{ℕ, ◌+◌, ◌-◌, ◌*◌, ◌<◌, ◌≤◌}
use native.Mathlib.Nat.{mul-le-mul_right}
use native.Mathlib.Omega.{arith}
use lib.IntN.{ℤ, pos}
use lib.ListN.{length, get_or}
use Rattle.base.specs.Lists.{range, over}
use Rattle.tile_cells.specs.Tile.{turned, same_tile}
use Rattle.tile_cells.specs.Seen.{in_row, row_seen, row_of, tile_seen, tile_at, Lies}
use Rattle.tile_cells.specs.Key.{mixed_all}
use Rattle.tile_cells.proofs.Rows.{length-first, length-rows}
use Rattle.tile_cells.proofs.Sameness.{same_rows, differ-rows}

pub in-row : (l : List ℤ) (at t : ℕ) (fh : Bool) (x : ℕ) {v : ℤ} {r : ℕ} → v ≡ get_or l (at + r) (pos 0) → r ≡ turned fh t x → v ≡ in_row l at t fh x
in-row l at t fh x p e = p ∙ ap (λ (i : ℕ). get_or l (at + i) (pos 0)) e

pub length-row-seen : (l : List ℤ) (at t : ℕ) (fh : Bool) → length (row_seen l at t fh) ≡ t
unfolding row_seen
length-row-seen l at t fh = length-first (in_row l at t fh) t

pub length-tile-seen : (l : List ℤ) (corner stride t : ℕ) (fh fv : Bool) → length (tile_seen l corner stride t fh fv) ≡ t * t
unfolding tile_seen
length-tile-seen l corner stride t fh fv = length-rows (row_of l corner stride t fh fv) t (λ y. length-row-seen l (corner + turned fv t y * stride) t fh) t

-- a row of a tile that lies inside lies inside
pub row_lies : (size corner stride t : ℕ) {r : ℕ} → Lies size corner stride t → r < t → corner + r * stride + t ≤ size
row_lies size corner stride t {r} h k =
    let top : r ≤ t - 1 = omega arith in
    omega (arith, mul-le-mul_right stride top)

-- the row that was copied, by its place
pub row-of : (l : List ℤ) (corner stride t : ℕ) (fh fv : Bool) (y : ℕ) (out : List ℤ) {k : List ℤ} {r : ℕ} → k ≡ over (row_seen l (corner + r * stride) t fh) out → r ≡ turned fv t y
    → k ≡ over (row_of l corner stride t fh fv y) out
row-of l corner stride t fh fv y out p e = p ∙ ap (λ (i : ℕ). over (row_seen l (corner + i * stride) t fh) out) e

-- ---- two tiles compared, once their first y rows are
module _ (l : List ℤ) (p q stride t : ℕ) (fh fv : Bool) (y : ℕ) {r : Bool} {i : ℕ} (e : r ≡ same_tile (row_seen l (p + i * stride) t fh) (row_seen l (q + y * stride) t false)) (k : i ≡ turned fv t y) where
  abbrev f : ℕ → List ℤ
  f = row_of l p stride t fh fv

  abbrev g : ℕ → List ℤ
  g = row_of l q stride t false false

  row_is : r ≡ same_tile (f y) (g y)
  unfolding turned
  row_is = e ∙ ap (λ (i : ℕ). same_tile (row_seen l (p + i * stride) t fh) (row_seen l (q + y * stride) t false)) k

  ef : (y : ℕ) → length (f y) ≡ t
  ef y = length-row-seen l (p + turned fv t y * stride) t fh

  eg : (y : ℕ) → length (g y) ≡ t
  eg y = length-row-seen l (q + turned false t y * stride) t false

  pub row_same : r ≡ true → same_tile (flat_map f (range 0 y)) (flat_map g (range 0 y)) ≡ true → same_tile (flat_map f (range 0 (y + 1))) (flat_map g (range 0 (y + 1))) ≡ true
  row_same h p = same_rows f g t ef eg y p (sym row_is ∙ h)

  pub row-differs : r ≡ false → y < t → false ≡ same_tile (tile_seen l p stride t fh fv) (tile_at l q stride t)
  unfolding tile_seen
  row-differs h b = sym (differ-rows f g t ef eg y t (omega arith) (sym row_is ∙ h))

pub mixed-row-of : (l : List ℤ) (corner stride t : ℕ) (fh fv : Bool) (y n : ℕ) {m i : ℕ} → m ≡ mixed_all n (row_seen l (corner + i * stride) t fh) → i ≡ turned fv t y
    → m ≡ mixed_all n (row_of l corner stride t fh fv y)
mixed-row-of l corner stride t fh fv y n e k = e ∙ ap (λ (i : ℕ). mixed_all n (row_seen l (corner + i * stride) t fh)) k

-- and has room behind those before it
pub room : {j t : ℕ} → j < t → j * t + t ≤ t * t
room {j} {t} k = omega (arith, mul-le-mul_right t k)
