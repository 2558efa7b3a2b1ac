-- The number of a tile, part by part. Assumes nothing.
use mathlib.Core.Path.{◌≡◌, refl}
use mathlib.Core.List.{List, [], ◌∷◌, ◌++◌, map, flat_map}
use Prim.Native.Nat.{ℕ, ◌+◌}
use lib.IntN.{ℤ}
use Rattle.base.specs.Lists.{range}
use Rattle.tile_cells.specs.Key.{mixed, mixed_all}
use Rattle.tile_cells.proofs.Rows.{first_next, rows_more}

pub mixed-append : (n : ℕ) (k l : List ℤ) → mixed_all n (k ++ l) ≡ mixed_all (mixed_all n k) l
unfolding mixed_all
mixed-append n [] l = refl
mixed-append n (z ∷ k) l = mixed-append (mixed n z) k l

-- one index more
pub mixed-next : (n : ℕ) (g : ℕ → ℤ) (x : ℕ) {m r : ℕ} {v : ℤ} → m ≡ mixed_all n (map g (range 0 x)) → r ≡ mixed m v → v ≡ g x → r ≡ mixed_all n (map g (range 0 (x + 1)))
unfolding mixed_all
mixed-next n g x p q e = rw (first_next g x, mixed-append n (map g (range 0 x)) (g x ∷ []), ← p, ← e) q

-- one row more
pub mixed-rows : (n : ℕ) (f : ℕ → List ℤ) (y : ℕ) {m r : ℕ} → m ≡ mixed_all n (flat_map f (range 0 y)) → r ≡ mixed_all m (f y) → r ≡ mixed_all n (flat_map f (range 0 (y + 1)))
mixed-rows n f y p q = rw (rows_more f y, mixed-append n (flat_map f (range 0 y)) (f y), ← p) q
