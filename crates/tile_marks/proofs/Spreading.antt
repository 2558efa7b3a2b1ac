-- The classes, written from the last place on over codes that were read; and that a class is a place. Assumes nothing.
use Prim.Native.Nat.{ℕ, ◌-◌, ◌*◌, ◌/◌, ◌%◌, ◌≤◌, ◌<◌}
use mathlib.Core.Path.{◌≡◌, refl, ap, ◌∙◌}
use mathlib.Core.List.{List}
use native.Mathlib.Omega.{arith}
use native.Mathlib.Nat.{div-le_self, mul-le-mul, mul-le-mul_left, div-add-mod', mul-one}
use native.Mathlib.Decide.{ℕ_discrete}
use lib.ListN.{length, get_or, set, length-set}
use lib.Seq.{get_or-set_same, get_or-set_other}
use Rattle.tile_marks.specs.Cell.{cell_at}
use Rattle.tile_marks.specs.Marks.{cell_of_place, class_by}

-- a cell's number is at most that of its places
pub cell-le : (w t p : ℕ) → cell_of_place w t p ≤ p
unfolding cell_at
cell-le w t p =
    let a : p / w / t * (w / t) ≤ p / w * w = mul-le-mul (div-le_self (p / w) t) (div-le_self w t) in
    omega (arith, div-le_self (p % w) t, div-add-mod' p w)

-- ---- the sums that make a class are no larger than it
pub times_more : (a w : ℕ) → 0 < w → a ≤ a * w
times_more a w h = let k : 1 ≤ w = omega arith in rw (mul-one a) at (mul-le-mul_left a k)

module _ (w t : ℕ) (s₀ : List ℕ) where
  abbrev class : ℕ → ℕ
  class q = class_by w t (get_or s₀ (cell_of_place w t q) 0) q

  pub record Spreading (s : List ℕ) (p : ℕ) : Type 0 where
    pub high : p ≤ length s₀
    pub long : length s ≡ length s₀
    pub done : (q : ℕ) → p ≤ q → q < length s₀ → get_or s q 0 ≡ class q
    pub ahead : (q : ℕ) → q < p → get_or s q 0 ≡ get_or s₀ q 0

  pub spreading-start : Spreading s₀ (length s₀)
  spreading-start = record { high = omega arith; long = refl; done = λ q a b. absurd (omega arith); ahead = λ q h. refl }

  module _ (s : List ℕ) (p : ℕ) (c : Spreading s p) (h : 0 < p) (cell code : ℕ) (e : cell ≡ cell_of_place w t (p - 1)) (f : code ≡ get_or s cell 0) where
    pub code_is : code ≡ get_or s₀ (cell_of_place w t (p - 1)) 0
    code_is = f ∙ ap (λ (i : ℕ). get_or s i 0) e ∙ c.ahead (cell_of_place w t (p - 1)) (omega (arith, cell-le w t (p - 1)))

    pub spreading-step : (v : ℕ) → v ≡ class_by w t code (p - 1) → Spreading (set s (p - 1) v) (p - 1)
    spreading-step v g =
        let hi = c.high in
        let l = c.long in
        record {
          high = omega arith;
          long = length-set s (p - 1) v ∙ l;
          done = λ q a b. elim (ℕ_discrete q (p - 1)) [
            | yes z ↦ rw z (get_or-set_same s (p - 1) v 0 (omega arith) ∙ g ∙ ap (λ (x : ℕ). class_by w t x (p - 1)) code_is)
            | no z ↦ get_or-set_other s (p - 1) q v 0 z ∙ c.done q (omega arith) b
          ];
          ahead = λ q a. get_or-set_other s (p - 1) q v 0 (λ z. omega arith) ∙ c.ahead q (omega arith);
        }

  pub spreading-end : (s : List ℕ) (p : ℕ) → Spreading s p → p ≤ 0 → (q : ℕ) → q < length s₀ → get_or s q 0 ≡ class q
  spreading-end s p c z q h = c.done q (omega arith) h
