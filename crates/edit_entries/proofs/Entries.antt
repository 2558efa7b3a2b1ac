-- An entry stored, also where one was put in. Assumes nothing.
use mathlib.Core.Path.{◌≡◌, sym, ap, ◌∙◌}
use mathlib.Core.List.{List, [], ◌∷◌, ◌++◌, append_assoc}
use Prim.Native.Nat.{ℕ, ◌+◌, ◌*◌, ◌≤◌}
use native.Mathlib.Omega.{arith}
use native.Mathlib.Numerals.{add-one, add-two}
use lib.Ieee.{Float}
use lib.ListN.{length, take, drop, set, length-drop, length-take}
use lib.Seq.{take_at, drop_at, drop-append-add, length-take-le, sets-eq}
use Rattle.base.specs.declared.Lab.{Lab}
use Rattle.base.specs.Triples.{with_lab}
use Rattle.edit.specs.Storage.{numbers_of, stored, stored_by, reinserted_by}

module _ {A : Type 0} where
  -- three stores
  pub stored_is : (l : List A) (at : ℕ) (a b c : A) → at + 3 ≤ length l → set (set (set l at a) (at + 1) b) (at + 2) c ≡ stored at (a ∷ b ∷ c ∷ []) l
  unfolding stored_by
  stored_is l at a b c h = rw (add-one, add-two) (sets-eq (a ∷ b ∷ c ∷ []) l at h ∙ append_assoc (take at l) (a ∷ b ∷ c ∷ []) (drop (at + 3) l))

  -- an entry stored where one was put in
  pub stored-opened : (m : ℕ) (l r u v : List A) (at n : ℕ) → at ≤ length l → length u ≡ m → r ≡ reinserted_by m at n u l → stored_by m at v r ≡ reinserted_by m at n v l
  unfolding stored_by reinserted_by
  stored-opened m l r u v at n h e q =
      let S : List A = drop at (take n l) ++ drop (n + m) l in
      let k : length (take at l) ≡ at = length-take-le at l h in
      let front : take at (take at l ++ (u ++ S)) ≡ take at l = take_at (take at l) (u ++ S) at k in
      let rest : drop (at + m) (take at l ++ (u ++ S)) ≡ S =
      ap (λ (i : ℕ). drop (i + m) (take at l ++ (u ++ S))) (sym k) ∙ drop-append-add (take at l) (u ++ S) m ∙ drop_at u S m e in
      rw (q, front, rest)

  pub whole : (l : List A) (at m : ℕ) → at + m ≤ length l → length (take m (drop at l)) ≡ m
  whole l at m k = simp (length-take, length-drop) (omega arith)

-- the LAB of an entry, written
pub lab-stored : (lab : List Float) (i : ℕ) (x : Lab) → 3 * i + 3 ≤ length lab → with_lab lab i x ≡ stored (3 * i) (numbers_of x) lab
unfolding with_lab
lab-stored lab i x h = stored_is lab (3 * i) x.l x.a x.b h
