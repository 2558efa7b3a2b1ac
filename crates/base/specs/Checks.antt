-- A call's checks: a list in document 01's order, each number beside its test, and the first that applies. Definitions only. Assumes nothing.
use Rattle.std.specs.Prelude.{ℕ, zero, suc, Bool, cond, List, [], ◌∷◌}

-- a row of document 01's table: the number, and whether its condition holds
pub record Check : Type 0 where
  pub number : ℕ
  pub applies : Bool

infix 70 ◌when◌
abbrev pub ◌when◌ : ℕ → Bool → Check
◌when◌ n b = record { number = n; applies = b }

-- the first of two numbers that is not 0
abbrev pub or_else : ℕ → ℕ → ℕ
or_else zero m = m
or_else (suc n) m = suc n

-- the number of the first check that applies, 0 where none does
unfoldable pub first_of : List Check → ℕ
first_of [] = 0
first_of (c ∷ cs) = or_else (cond c.applies c.number 0) (first_of cs)

-- "A refusal returns its number alone": what is refused with the number, or the result where the number is 0
unfoldable pub refused_or : {R : Type 0} → ℕ → (ℕ → R) → R → R
refused_or zero refused result = result
refused_or (suc n) refused result = refused (suc n)

-- a call: its checks in order, what it answers with a number, and its result where none applies
abbrev pub checked : {R : Type 0} → List Check → (ℕ → R) → R → R
checked cs refused result = refused_or (first_of cs) refused result
