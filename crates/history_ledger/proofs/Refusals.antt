-- Where an answer "journal full" comes from: from the first check that applies, or from what comes after the checks. Assumes nothing.
use mathlib.Core.Path.{◌≡◌, refl, sym, ap}
use mathlib.Core.Bool.{Bool, true, false, cond}
use mathlib.Core.List.{List, [], ◌∷◌}
use mathlib.Core.Logic.{◌⊎◌, inl, inr, ⊎_elim}
use Prim.Native.Nat.{ℕ, zero, suc}
use native.Mathlib.Omega.{arith}
use borrow.Author.Tests.{ne_eqb}
use Rattle.base.specs.Numbers.{bad_sheet, journal_damaged, journal_full, no_space, list_too_long}
use Rattle.base.specs.Checks.{Check, or_else, first_of, refused_or}
use Rattle.base.specs.Answer.{Done, Still}
use Rattle.base.specs.Answer.Told.{result, alone}
use Rattle.base.proofs.Told.{alone-other, same_number}
use Rattle.base.proofs.First.{first_passes}
use Rattle.history_ledger.specs.Calls.{Outcome, done, still, refused, guarded, Answer}
use Rattle.history_ledger.specs.Demand.{is_full}

-- ---- numbers
-- the numbers that the calls give by themselves are other ones
pub one : ¬ (bad_sheet ≡ journal_full)
one e = omega arith

pub four : ¬ (journal_damaged ≡ journal_full)
four e = omega arith

pub sixteen : ¬ (no_space ≡ journal_full)
sixteen e = omega arith

pub twenty-one : ¬ (list_too_long ≡ journal_full)
twenty-one e = omega arith

-- the number of a check, 0 where it does not apply
abbrev pub number_of : Check → ℕ
number_of c = cond c.applies c.number 0

-- a check that passes has not the number 14
pub passed-other : (n : ℕ) → n ≡ 0 → ¬ (n ≡ journal_full)
passed-other n p e = omega arith

pub when-other : (n : ℕ) (b : Bool) → ¬ (n ≡ journal_full) → ¬ (cond b n 0 ≡ journal_full)
when-other n true h e = h e
when-other n false h e = omega arith

pub when-passes : (n : ℕ) (b : Bool) → cond b (suc n) 0 ≡ 0 → b ≡ false
when-passes n true e = absurd (omega arith)
when-passes n false e = refl

pub when-full : (b : Bool) → or_else (cond b journal_full 0) 0 ≡ journal_full → b ≡ true
when-full true e = refl
when-full false e = absurd (omega arith)

-- a first number that is not 14 leaves it to the second
pub first-other : (a b : ℕ) → ¬ (a ≡ journal_full) → or_else a b ≡ journal_full → (a ≡ 0) × (b ≡ journal_full)
first-other zero b h e = (refl, e)
first-other (suc a) b h e = absurd (h e)

-- ---- lists of checks
-- all have another number than 14
abbrev pub NoneFull : List Check → Type 0
NoneFull [] = Unit {0}
NoneFull (c ∷ cs) = (¬ (c.number ≡ journal_full)) × NoneFull cs

pub none-full : (cs : List Check) → NoneFull cs → ¬ (first_of cs ≡ journal_full)
unfolding first_of
none-full [] t e = omega arith
none-full (c ∷ cs) t e = none-full cs t.1 (first-other (number_of c) (first_of cs) (when-other c.number c.applies t.0) e).1

-- where none applies, each does not
abbrev pub Each : List Check → Type 0
Each [] = Unit {0}
Each (c ∷ cs) = (number_of c ≡ 0) × Each cs

pub each-passes : (cs : List Check) → first_of cs ≡ 0 → Each cs
unfolding first_of
each-passes [] e = tt
each-passes (c ∷ cs) e = let both = first_passes (number_of c) (first_of cs) e in (both.0, each-passes cs both.1)

-- ---- answers
pub done-other : ¬ (Done ≡ alone journal_full)
done-other e = alone-other (sym e)

still-other : ¬ (Still ≡ alone journal_full)
still-other e = let z : ◌≡◌ {A = ℕ} 255 journal_full = same_number e in omega arith

pub not_full : (a : Answer) → ¬ (a ≡ alone journal_full) → is_full a ≡ false
not_full (result done) h = refl
not_full (alone n) h = ne_eqb n journal_full (λ e. h (ap alone e))

-- ---- outcomes
module _ {S : Type 0} (s : S) where
  pub still_full : (b : Bool) (o : Outcome S) → (cond b (still s) o).answer ≡ alone journal_full → (b ≡ false) × (o.answer ≡ alone journal_full)
  still_full true o e = absurd (still-other e)
  still_full false o e = (refl, e)

  guarded-either : (cs : List Check) (o : Outcome S) → (guarded s cs o).answer ≡ alone journal_full
      → (first_of cs ≡ journal_full) ⊎ ((first_of cs ≡ 0) × (o.answer ≡ alone journal_full))
  unfolding refused_or
  guarded-either cs o e = go (first_of cs) e
    where
      go : (m : ℕ) → (refused_or m (refused s) o).answer ≡ alone journal_full → (m ≡ journal_full) ⊎ ((m ≡ 0) × (o.answer ≡ alone journal_full))
      go zero e = inr (refl, e)
      go (suc m) e = inl (same_number e)

  pub past-checks : (cs : List Check) (o : Outcome S) → ¬ (first_of cs ≡ journal_full) → (guarded s cs o).answer ≡ alone journal_full
      → (first_of cs ≡ 0) × (o.answer ≡ alone journal_full)
  past-checks cs o t e = ⊎_elim (λ z. absurd (t z)) (λ z. z) (guarded-either cs o e)

  pub guarded-full : (cs : List Check) (o : Outcome S) → NoneFull cs → (guarded s cs o).answer ≡ alone journal_full
      → (first_of cs ≡ 0) × (o.answer ≡ alone journal_full)
  guarded-full cs o t e = past-checks cs o (none-full cs t) e

  pub done_full : (cs : List Check) (s' : S) → (guarded s cs (done s')).answer ≡ alone journal_full → first_of cs ≡ journal_full
  done_full cs s' e = ⊎_elim (λ z. z) (λ z. absurd (done-other z.1)) (guarded-either cs (done s') e)
