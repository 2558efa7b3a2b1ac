-- What the counts add up to: a count for each entry, and all pixels counted. Assumes nothing.
use mathlib.Core.Path.{◌≡◌, refl, sym, ◌∙◌}
use mathlib.Core.Logic.{⊎_elim}
use mathlib.Core.Bool.{false, cond}
use mathlib.Core.List.{List, [], ◌∷◌, ◌++◌}
use Prim.Native.Nat.{ℕ, zero, suc, ◌+◌, ◌≤◌, ◌<◌}
use native.Mathlib.Nat.{eq-or-lt_of_le, le_of_suc-le-suc}
use native.Mathlib.Omega.{arith}
use borrow.Author.Tests.{leb-false, eq-eqb, ne_eqb}
use lib.IntN.{ℤ, pos, negsuc}
use lib.ListN.{length, length-append}
use Rattle.base.specs.Lists.{some}
use Rattle.base.proofs.Scan.{or_left, or_right}
use Rattle.base.specs.Ints.{eq_z}
use Rattle.base.proofs.Back.{never}
use Rattle.sheet.specs.Sheet.{stray}
use Rattle.sheet_counts.specs.Counts.{count_of, counts_of, sum_of}

-- a count for each entry
pub counts-length : (k : ℕ) (l : List ℤ) → length (counts_of k l) ≡ k
unfolding counts_of
counts-length zero l = refl
counts-length (suc k) l = length-append (counts_of k l) (count_of (pos k) l ∷ []) ∙ omega (arith, counts-length k l)

-- ---- "Entry counts plus transparent pixels total w × h"
sum_more : (l : List ℕ) (n : ℕ) → sum_of (l ++ (n ∷ [])) ≡ sum_of l + n
unfolding sum_of
sum_more [] n = omega arith
sum_more (x ∷ l) n = omega (arith, sum_more l n)

-- how many of the first k entries a pixel shows
abbrev hits : ℕ → ℤ → ℕ
hits zero z = 0
hits (suc k) z = hits k z + cond (eq_z (pos k) z) 1 0

module _ (n : ℕ) where
  hits-none : (k : ℕ) → hits k (negsuc n) ≡ 0
  unfolding eq_z
  hits-none zero = refl
  hits-none (suc k) = omega (arith, hits-none k)

  hits-past : (k : ℕ) → k ≤ n → hits k (pos n) ≡ 0
  unfolding eq_z
  hits-past zero h = refl
  hits-past (suc k) h = rw (ne_eqb k n (λ q. omega arith)) (omega (arith, hits-past k (omega arith)))

  hits-entry : (k : ℕ) → n < k → hits k (pos n) ≡ 1
  unfolding eq_z
  hits-entry zero h = absurd (omega arith)
  hits-entry (suc k) h =
      ⊎_elim
      (λ e. rw (eq-eqb k n (sym e)) (omega (arith, hits-past k (omega arith))))
      (λ less. rw (ne_eqb k n (λ q. omega arith)) (omega (arith, hits-entry k less)))
      (eq-or-lt_of_le (le_of_suc-le-suc h))

-- a pixel that is not stray shows one entry or none
hits-one : (k : ℕ) (z : ℤ) → stray k z ≡ false → hits k z + cond (eq_z (negsuc 0) z) 1 0 ≡ 1
unfolding stray eq_z
hits-one k (pos n) e = omega (arith, hits-entry n k (leb-false k n e))
hits-one k (negsuc zero) e = omega (arith, hits-none 0 k)
hits-one k (negsuc (suc n)) e = never (sym e)

sum-pixel : (k : ℕ) (z : ℤ) (l : List ℤ) → sum_of (counts_of k (z ∷ l)) ≡ hits k z + sum_of (counts_of k l)
unfolding counts_of count_of sum_of
sum-pixel zero z l = refl
sum-pixel (suc k) z l =
    rw (sum_more (counts_of k (z ∷ l)) (count_of (pos k) (z ∷ l)), sum_more (counts_of k l) (count_of (pos k) l)) (omega (arith, sum-pixel k z l))

sum-empty : (k : ℕ) → sum_of (counts_of k []) ≡ 0
unfolding counts_of count_of sum_of
sum-empty zero = refl
sum-empty (suc k) = omega (arith, sum_more (counts_of k []) 0, sum-empty k)

pub counts-total : (k : ℕ) (l : List ℤ) → some (stray k) l ≡ false → sum_of (counts_of k l) + count_of (negsuc 0) l ≡ length l
unfolding some count_of
counts-total k [] e = omega (arith, sum-empty k)
counts-total k (z ∷ l) e =
    omega (arith, sum-pixel k z l, hits-one k z (or_left (stray k z) (some (stray k) l) e), counts-total k l (or_right (stray k z) (some (stray k) l) e))
