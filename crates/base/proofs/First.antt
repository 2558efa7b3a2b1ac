-- The first check that applies, of a list that is made of parts. Assumes nothing.
use mathlib.Core.Path.{◌≡◌, refl, sym, ap, ◌∙◌}
use mathlib.Core.Bool.{Bool, true, false, cond}
use mathlib.Core.List.{List, [], ◌∷◌, ◌++◌}
use Prim.Native.Nat.{ℕ, zero, suc, ◌<◌}
use native.Mathlib.Omega.{arith}
use Rattle.base.specs.Checks.{Check, or_else, first_of, refused_or, checked}

-- ---- the first of two numbers that is not 0
pub or-else-assoc : (a b c : ℕ) → or_else a (or_else b c) ≡ or_else (or_else a b) c
or-else-assoc zero b c = refl
or-else-assoc (suc a) b c = refl

pub or-else-zero : (a : ℕ) → or_else a 0 ≡ a
or-else-zero zero = refl
or-else-zero (suc a) = refl

pub first_passes : (a b : ℕ) → or_else a b ≡ 0 → (a ≡ 0) × (b ≡ 0)
first_passes zero b e = (refl, e)
first_passes (suc a) b e = absurd (omega arith)

-- what is above 0 is not 0
pub no_zero : {n : ℕ} → 0 < n → n ≡ 0 → ⊥
no_zero h e = omega arith

-- ---- two lists, one after the other
-- the first part's number, or the second's where that has none
pub first-append : (cs ds : List Check) → first_of (cs ++ ds) ≡ or_else (first_of cs) (first_of ds)
unfolding first_of
first-append [] ds = refl
first-append (c ∷ cs) ds =
    let n = cond c.applies c.number 0 in
    ap (or_else n) (first-append cs ds) ∙ or-else-assoc n (first_of cs) (first_of ds)

-- where the first part has none, the second decides
pub first_past : (cs ds : List Check) → first_of cs ≡ 0 → first_of (cs ++ ds) ≡ first_of ds
first_past cs ds e = rw (first-append cs ds, e)

-- where the first part has one, it decides
pub first-here : (cs ds : List Check) (n : ℕ) → n ≡ first_of cs → (n ≡ 0 → ⊥) → n ≡ first_of (cs ++ ds)
first-here cs ds n e h = rw (first-append cs ds, ← e) (kept n h)
  where
    kept : (n : ℕ) → (n ≡ 0 → ⊥) → n ≡ or_else n (first_of ds)
    kept zero h = absurd (h refl)
    kept (suc n) h = refl

-- ---- what a call answers
module _ {R : Type 0} (cs : List Check) (refused : ℕ → R) (result : R) where
  pub refused-first : (n : ℕ) → n ≡ first_of cs → (n ≡ 0 → ⊥) → refused n ≡ checked cs refused result
  unfolding refused_or
  refused-first zero e h = absurd (h refl)
  refused-first (suc n) e h = rw (← e)

  pub result-first : first_of cs ≡ 0 → result ≡ checked cs refused result
  unfolding refused_or
  result-first e = rw e

-- ---- none applies: not the first, and none after it
pub record Past (c : Check) (cs : List Check) : Type 0 where
  pub off : c.applies ≡ false
  pub rest : first_of cs ≡ 0

pub past : (c : Check) (cs : List Check) → 0 < c.number → first_of (c ∷ cs) ≡ 0 → Past c cs
unfolding first_of
past c cs h e = go c.number c.applies h refl e
  where
    go : (n : ℕ) (b : Bool) → 0 < n → c.applies ≡ b → or_else (cond b n 0) (first_of cs) ≡ 0 → Past c cs
    go zero b h q e = absurd (omega arith)
    go (suc n) true h q e = absurd (omega arith)
    go (suc n) false h q e = record { off = q; rest = e }

pub skip : (c : Check) (cs : List Check) → c.applies ≡ false → first_of (c ∷ cs) ≡ first_of cs
unfolding first_of
skip c cs e = rw e

-- ---- none of two lists
pub record PastBoth (cs ds : List Check) : Type 0 where
  pub left : first_of cs ≡ 0
  pub right : first_of ds ≡ 0

pub past-both : (cs ds : List Check) → first_of (cs ++ ds) ≡ 0 → PastBoth cs ds
past-both cs ds e = go (first_of cs) refl (sym (first-append cs ds) ∙ e)
  where
    go : (n : ℕ) → first_of cs ≡ n → or_else n (first_of ds) ≡ 0 → PastBoth cs ds
    go zero q e = record { left = q; right = e }
    go (suc n) q e = absurd (omega arith)
