-- Where the target and the entries are finite, no distance is a NaN or negative. Assumes nothing.
use mathlib.Core.Path.{◌≡◌}
use mathlib.Core.Bool.{false, ◌||◌}
use mathlib.Core.List.{List}
use Prim.Native.Nat.{ℕ, ◌+◌, ◌*◌, ◌<◌, ◌≤◌}
use native.Mathlib.Omega.{arith}
use lib.ListN.{length, get_or, take}
use lib.Seq.{get_or-take, length-take-le}
use lib.Ieee.{Float, nan}
use Rattle.base.specs.Lists.{some}
use Rattle.base.proofs.Scan.{or_left, or_right, some-none}
use Rattle.base.specs.declared.Lab.{Lab}
use Rattle.color_doubles.specs.Arithmetic.{◌⊖◌, ◌⊗◌}
use Rattle.color_doubles.specs.Finite.{unfit, unfit_triple}
use Rattle.color_nearest.specs.Nearest.{dist2_of, distance}
use Rattle.base.specs.Triples.{lab_at}
use Rattle.color_doubles.proofs.Signs.{Plus, Finite, fit, sub_number, square-plus, add-plus}

pub record FiniteTriple (q : Lab) : Type 0 where
  pub l : Finite q.l
  pub a : Finite q.a
  pub b : Finite q.b

-- each number of a triple
pub each-fit : (q : Lab) → unfit_triple q ≡ false → (unfit q.l ≡ false) × (unfit q.a ≡ false) × (unfit q.b ≡ false)
unfolding unfit_triple
each-fit q e =
    let la = or_left (unfit q.l || unfit q.a) (unfit q.b) e in
    (or_left (unfit q.l) (unfit q.a) la, or_right (unfit q.l) (unfit q.a) la, or_right (unfit q.l || unfit q.a) (unfit q.b) e)

pub fit-triple : (q : Lab) → unfit_triple q ≡ false → FiniteTriple q
fit-triple q e = let h = each-fit q e in record { l = fit q.l h.0; a = fit q.a h.1; b = fit q.b h.2 }

square-of-difference : {x y : Float} → Finite x → Finite y → Plus ((x ⊖ y) ⊗ (x ⊖ y))
square-of-difference h k = square-plus (sub_number h k)

pub dist2-plus : {p q : Lab} → FiniteTriple p → FiniteTriple q → Plus (dist2_of p q)
unfolding dist2_of
dist2-plus f g =
    add-plus (add-plus (square-of-difference f.l g.l) (square-of-difference f.a g.a)) (square-of-difference f.b g.b)

module _ (lab : List Float) (k : ℕ) (none : some unfit (take (3 * k) lab) ≡ false) (room : 3 * k ≤ length lab) where
  number-finite : (i : ℕ) → i < 3 * k → Finite (get_or lab i nan)
  number-finite i h =
      fit (get_or lab i nan) (rw (get_or-take (3 * k) lab i nan h) at (some-none unfit (take (3 * k) lab) i nan none (rw (length-take-le (3 * k) lab room) h)))

  entry-finite : (j : ℕ) → j < k → FiniteTriple (lab_at lab j)
  unfolding lab_at
  entry-finite j h =
      record {
        l = number-finite (3 * j) (omega arith);
        a = number-finite (3 * j + 1) (omega arith);
        b = number-finite (3 * j + 2) (omega arith);
      }

  pub distance-plus : (p : Lab) → unfit_triple p ≡ false → (j : ℕ) → j < k → Plus (distance p lab j)
  distance-plus p e j h = dist2-plus (fit-triple p e) (entry-finite j h)
