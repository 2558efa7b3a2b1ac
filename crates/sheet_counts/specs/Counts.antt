-- `counts` of document.rs: its checks and its answer. Definitions only. Assumes nothing.
use Rattle.std.specs.Prelude.{◌≡◌, ℕ, zero, suc, ◌+◌, ◌*◌, cond, List, [], ◌∷◌, ◌++◌, ltb, ℤ, pos, negsuc, length, take}
use Rattle.base.specs.Numbers.{no_space}
use Rattle.base.specs.Checks.{◌when◌, checked}
use Rattle.base.specs.Lists.{over}
use Rattle.base.specs.Ints.{eq_z}
use Rattle.base.specs.Answer.{Filled, leaving}
use Rattle.base.specs.Answer.Told.{result, alone}
use Rattle.sheet.specs.Sheet.{Sheet}
use Rattle.sheet.specs.Checks.{sheet_checks}

-- "Pixels per palette entry"
unfoldable pub count_of : ℤ → List ℤ → ℕ
count_of v [] = 0
count_of v (z ∷ l) = cond (eq_z v z) 1 0 + count_of v l

unfoldable pub counts_of : ℕ → List ℤ → List ℕ
counts_of zero l = []
counts_of (suc k) l = counts_of k l ++ (count_of (pos k) l ∷ [])

unfoldable pub sum_of : List ℕ → ℕ
sum_of [] = 0
sum_of (n ∷ l) = n + sum_of l

unfoldable pub counts_call : Sheet → List ℕ → Filled ℕ
counts_call s out =
    checked (sheet_checks [] s ++ (no_space when ltb (length out) s.k ∷ []))
    (λ n. leaving (alone n) out)
    (leaving (result s.k) (over (counts_of s.k s.indices) out))

-- "Entry counts plus transparent pixels total w × h"
pub record Counts (s : Sheet) (out : List ℕ) (r : Filled ℕ) : Type 0 where
  pub value : r ≡ counts_call s out
  pub total : (n : ℕ) → r.answer ≡ result n → sum_of (take n r.buffer) + count_of (negsuc 0) s.indices ≡ s.w * s.h
