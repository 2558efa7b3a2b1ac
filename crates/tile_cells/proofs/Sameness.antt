-- Tiles compared: part by part, and what it means that they are the same. Assumes nothing.
use mathlib.Core.Path.{◌≡◌, refl, sym, ap, ◌∙◌}
use mathlib.Core.Bool.{Bool, true, false, ◌&&◌, and_assoc, and-true, and-false}
use mathlib.Core.List.{List, [], ◌∷◌, ◌++◌, map, flat_map}
use Prim.Native.Nat.{ℕ, zero, suc, ◌+◌, ◌-◌, ◌≤◌}
use native.Mathlib.Nat.{add-zero}
use native.Mathlib.Omega.{arith}
use lib.IntN.{ℤ}
use lib.ListN.{length}
use Rattle.base.specs.Lists.{range}
use Rattle.base.proofs.Bools.{and_left, and_right}
use Rattle.base.specs.Ints.{eq_z}
use Rattle.base.proofs.Back.{never, eq_z-same, same_index}
use Rattle.tile_cells.specs.Tile.{same_tile}
use Rattle.tile_cells.proofs.Rows.{length-first, first_next, rows_more, length-rows}

-- a part after the other
pub same-append : (k l m n : List ℤ) → length k ≡ length l → same_tile (k ++ m) (l ++ n) ≡ same_tile k l && same_tile m n
unfolding same_tile
same-append [] [] m n e = refl
same-append [] (b ∷ l) m n e = absurd (omega arith)
same-append (a ∷ k) [] m n e = absurd (omega arith)
same-append (a ∷ k) (b ∷ l) m n e = ap (λ t. eq_z a b && t) (same-append k l m n (omega arith)) ∙ sym (and_assoc (eq_z a b) (same_tile k l) (same_tile m n))

pub same-one : (a b : ℤ) → same_tile (a ∷ []) (b ∷ []) ≡ eq_z a b
unfolding same_tile
same-one a b = and-true (eq_z a b)

-- the same tiles are equal, and a tile is the same as itself
pub same-equal : (k l : List ℤ) → same_tile k l ≡ true → k ≡ l
unfolding same_tile
same-equal [] [] e = refl
same-equal [] (b ∷ l) e = never e
same-equal (a ∷ k) [] e = never e
same-equal (a ∷ k) (b ∷ l) e =
    let h : a ≡ b = same_index a b (and_left (eq_z a b) (same_tile k l) e) in
    let r : k ≡ l = same-equal k l (and_right (eq_z a b) (same_tile k l) e) in
    cc

pub same_self : (k : List ℤ) → same_tile k k ≡ true
unfolding same_tile
same_self [] = refl
same_self (a ∷ k) = rw (eq_z-same a) (same_self k)

pub equal-same : (k l : List ℤ) → k ≡ l → same_tile k l ≡ true
equal-same k l e = rw e (same_self l)

-- one index more
pub same_next : (f g : ℕ → ℤ) (x : ℕ) {all t r : Bool} {a b : ℤ} → all ≡ same_tile (map f (range 0 x)) (map g (range 0 x)) → t ≡ eq_z a b → a ≡ f x → b ≡ g x → r ≡ all && t
    → r ≡ same_tile (map f (range 0 (x + 1))) (map g (range 0 (x + 1)))
same_next f g x p q u v e =
    rw (first_next f x, first_next g x, same-append (map f (range 0 x)) (map g (range 0 x)) (f x ∷ []) (g x ∷ []) (length-first f x ∙ sym (length-first g x)), ← p, same-one (f x) (g x), ← u, ← v, ← q)
    e

-- ---- row by row
module _ (f g : ℕ → List ℤ) (t : ℕ) (ef : (y : ℕ) → length (f y) ≡ t) (eg : (y : ℕ) → length (g y) ≡ t) where
  abbrev up_to : ℕ → Bool
  up_to y = same_tile (flat_map f (range 0 y)) (flat_map g (range 0 y))

  more : (y : ℕ) → up_to (y + 1) ≡ up_to y && same_tile (f y) (g y)
  more y = rw (rows_more f y, rows_more g y) (same-append (flat_map f (range 0 y)) (flat_map g (range 0 y)) (f y) (g y) (length-rows f t ef y ∙ sym (length-rows g t eg y)))

  pub same_rows : (y : ℕ) → up_to y ≡ true → same_tile (f y) (g y) ≡ true → up_to (y + 1) ≡ true
  same_rows y p q = rw (more y, p) q

  later : (y k : ℕ) → up_to y ≡ false → up_to (y + k) ≡ false
  later y zero p = rw (add-zero y) p
  later y (suc k) p =
      let e : y + suc k ≡ y + k + 1 = omega arith in
      rw (e, more (y + k), later y k p)

  -- a row that differs decides
  pub differ-rows : (y n : ℕ) → y + 1 ≤ n → same_tile (f y) (g y) ≡ false → up_to n ≡ false
  differ-rows y n h q =
      let e : y + 1 + (n - (y + 1)) ≡ n = omega arith in
      rw e at (later (y + 1) (n - (y + 1)) (rw (more y, q) (and-false (up_to y))))
