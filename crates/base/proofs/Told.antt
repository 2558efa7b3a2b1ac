-- A number alone is no result, and what is told is the same only where the number or the values are. Assumes nothing.
use mathlib.Core.Path.{◌≡◌}
use Prim.Native.Nat.{ℕ}
use native.Mathlib.Omega.{arith}
use Rattle.base.specs.Answer.{Told}
use Rattle.base.specs.Answer.Told.{result, alone}

module _ {A : Type 0} where
  pub alone-other : {v : A} {n : ℕ} → alone n ≡ result v → ⊥
  alone-other e = let z : ◌≡◌ {A = ℕ} 0 1 = cc in omega arith

  pub same-result : {v w : A} → result v ≡ result w → v ≡ w
  same-result e = cc

  pub same_number : {m n : ℕ} → ◌≡◌ {A = Told A} (alone m) (alone n) → m ≡ n
  same_number e = cc
