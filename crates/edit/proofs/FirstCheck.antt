-- What number the first check that applies can have. Assumes nothing.
use mathlib.Core.Path.{◌≡◌}
use mathlib.Core.Bool.{Bool, true, false, cond}
use mathlib.Core.List.{List, [], ◌∷◌}
use Prim.Native.Nat.{ℕ, zero, suc}
use Rattle.base.specs.Checks.{Check, or_else, first_of}
use Rattle.base.specs.Lists.{some}
use Rattle.base.proofs.Nowhere.{first-not, rest-not}

-- ---- what neither 0 nor the number of a check has, the first that applies has not
module _ (p : ℕ → Bool) (nought : p 0 ≡ false) where
  chosen : (b : Bool) (n m : ℕ) → p n ≡ false → p m ≡ false → p (or_else (cond b n 0) m) ≡ false
  chosen true zero m a c = c
  chosen true (suc n) m a c = a
  chosen false n m a c = c

  pub first-nowhere : (cs : List Check) → some (λ c. p c.number) cs ≡ false → p (first_of cs) ≡ false
  unfolding first_of
  first-nowhere [] a = nought
  first-nowhere (c ∷ cs) a =
      let has : Check → Bool = λ c. p c.number in
      chosen c.applies c.number (first_of cs) (first-not has c cs a) (first-nowhere cs (rest-not has c cs a))
