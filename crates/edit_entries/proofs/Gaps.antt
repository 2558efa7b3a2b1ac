-- An entry's gap closed and opened by a move within one list. Assumes nothing.
use mathlib.Core.Path.{◌≡◌, ap, ◌∙◌}
use mathlib.Core.List.{List, ◌++◌, append_assoc}
use Prim.Native.Nat.{ℕ, ◌+◌, ◌-◌, ◌≤◌}
use native.Mathlib.Omega.{arith}
use lib.ListN.{take, drop}
use Rattle.std.specs.List.{copy_within}
use Rattle.std.proofs.lemmas.List.{drop-take}
use Rattle.std.proofs.Math.Seq.{take-add}
use Rattle.edit.specs.Storage.{closed_by, reinserted_by}

module _ {A : Type 0} (m at : ℕ) (l : List A) where
  closed-over : (j : ℕ) → copy_within l (at + m) (at + m + j) at ≡ closed_by m at (at + m + j) l
  unfolding closed_by
  closed-over j =
      let moved : at + m + j - (at + m) ≡ j = omega arith in
      let left : at + m + j - m ≡ at + j = omega arith in
      rw (moved, left, drop-take (at + m) j l) (append_assoc (take at l) (take j (drop (at + m) l)) (drop (at + j) l))

  -- the later of n numbers, moved down over the m at `at`
  pub copied-closed : (n : ℕ) → at + m ≤ n → copy_within l (at + m) n at ≡ closed_by m at n l
  copied-closed n h = let e : at + m + (n - (at + m)) ≡ n = omega arith in rw e at (closed-over (n - (at + m)))

  opened-over : (j : ℕ) → copy_within l at (at + j) (at + m) ≡ reinserted_by m at (at + j) (take m (drop at l)) l
  unfolding reinserted_by
  opened-over j =
      let moved : at + j - at ≡ j = omega arith in
      let past : at + m + j ≡ at + j + m = omega arith in
      rw (moved, past, drop-take at j l, take-add at m l, append_assoc (take at l) (take m (drop at l)) (take j (drop at l)))
      (append_assoc (take at l) (take m (drop at l) ++ take j (drop at l)) (drop (at + j + m) l)
      ∙ ap (λ (r : List A). take at l ++ r) (append_assoc (take m (drop at l)) (take j (drop at l)) (drop (at + j + m) l)))

  -- those from `at` on, moved up by m; what stood at `at` stays
  pub copied-opened : (n : ℕ) → at ≤ n → copy_within l at n (at + m) ≡ reinserted_by m at n (take m (drop at l)) l
  copied-opened n h = let e : at + (n - at) ≡ n = omega arith in rw e at (opened-over (n - at))
