-- Entries in storage, m numbers each, for any element type: how long storage is, and what its first entries are, after an entry is stored,
-- taken out or put back; and that the old entry brings back what stood there. Assumes nothing.
use mathlib.Core.Path.{◌≡◌, sym, ap, ◌∙◌}
use mathlib.Core.Bool.{Bool, false}
use mathlib.Core.List.{List, ◌++◌, append_assoc}
use Prim.Native.Nat.{ℕ, ◌+◌, ◌-◌, ◌≤◌}
use native.Mathlib.Omega.{arith}
use lib.ListN.{length, take, drop, length-append, length-take, length-drop, take-append-drop}
use lib.Seq.{take_at, drop_at, take-append-le, drop-append-le, take-take, drop-drop, length-take-le}
use Rattle.base.specs.Lists.{some}
use Rattle.edit.specs.Storage.{stored_by, closed_by, reinserted_by, cut_by}
use Rattle.base.proofs.Nowhere.{nowhere-append, nowhere-take, nowhere-drop}

-- the m numbers at `at`, and three of them; an entry put into a list of just the entries
abbrev pub entry_by : {A : Type 0} → ℕ → ℕ → List A → List A
entry_by m at l = take m (drop at l)

abbrev pub entry_at : {A : Type 0} → ℕ → List A → List A
entry_at at l = entry_by 3 at l

abbrev pub inserted : {A : Type 0} → ℕ → List A → List A → List A
inserted at v l = take at l ++ (v ++ drop at l)

module _ {A : Type 0} (m : ℕ) where
  -- ---- lengths
  pub stored-length : (at : ℕ) (v l : List A) → length v ≡ m → at + m ≤ length l → length (stored_by m at v l) ≡ length l
  unfolding stored_by
  stored-length at v l e b = simp (length-append, length-take, length-drop) (omega arith)

  pub closed-length : (at n : ℕ) (l : List A) → at + m ≤ n → n ≤ length l → length (closed_by m at n l) ≡ length l
  unfolding closed_by
  closed-length at n l b c = simp (length-append, length-take, length-drop) (omega arith)

  pub opened-length : (at n : ℕ) (v l : List A) → length v ≡ m → at ≤ n → n + m ≤ length l → length (reinserted_by m at n v l) ≡ length l
  unfolding reinserted_by
  opened-length at n v l e b c = simp (length-append, length-take, length-drop) (omega arith)

  pub cut-length : (at n : ℕ) (l : List A) → at + m ≤ n → length l ≡ n → length (cut_by m at l) ≡ n - m
  unfolding cut_by
  cut-length at n l b e = simp (length-append, length-take, length-drop) (omega arith)

  entry_length : (at : ℕ) (l : List A) → at + m ≤ length l → length (entry_by m at l) ≡ m
  entry_length at l b = simp (length-take, length-drop) (omega arith)

  -- ---- the first n numbers afterwards
  stored-append : (at : ℕ) (v k l : List A) → at + m ≤ length k → stored_by m at v (k ++ l) ≡ stored_by m at v k ++ l
  unfolding stored_by
  stored-append at v k l b =
      let c : at ≤ length k = omega arith in
      rw (take-append-le at k l, drop-append-le (at + m) k l, append_assoc, append_assoc)

  pub stored-shows : (at n : ℕ) (v l : List A) → length v ≡ m → at + m ≤ n → n ≤ length l → take n (stored_by m at v l) ≡ stored_by m at v (take n l)
  stored-shows at n v l e b c =
      let t : length (take n l) ≡ n = length-take-le n l c in
      let q : at + m ≤ length (take n l) = omega arith in
      ap (λ z. take n (stored_by m at v z)) (sym (take-append-drop n l))
      ∙ ap (take n) (stored-append at v (take n l) (drop n l) q)
      ∙ take_at (stored_by m at v (take n l)) (drop n l) n (stored-length at v (take n l) e q ∙ t)

  -- an entry stored behind them
  pub stored_more : (at : ℕ) (v l : List A) → length v ≡ m → at + m ≤ length l → take (at + m) (stored_by m at v l) ≡ take at l ++ v
  unfolding stored_by
  stored_more at v l e b =
      rw (← append_assoc (take at l) v (drop (at + m) l))
      (take_at (take at l ++ v) (drop (at + m) l) (at + m) (simp (length-append, length-take) (omega arith)))

  pub closed-shows : (at n : ℕ) (l : List A) → at + m ≤ n → n ≤ length l → take (n - m) (closed_by m at n l) ≡ cut_by m at (take n l)
  unfolding closed_by cut_by
  closed-shows at n l b c =
      let f : at ≤ n = omega arith in
      rw (← append_assoc (take at l) (drop (at + m) (take n l)) (drop (n - m) l), take-take at n l f)
      (take_at (take at l ++ drop (at + m) (take n l)) (drop (n - m) l) (n - m) (simp (length-append, length-take, length-drop) (omega arith)))

  pub opened-shows : (at n : ℕ) (v l : List A) → length v ≡ m → at ≤ n → n + m ≤ length l → take (n + m) (reinserted_by m at n v l) ≡ inserted at v (take n l)
  unfolding reinserted_by
  opened-shows at n v l e b c =
      let K = take at l ++ (v ++ drop at (take n l)) in
      let q : take at l ++ (v ++ (drop at (take n l) ++ drop (n + m) l)) ≡ K ++ drop (n + m) l = simp append_assoc in
      rw (q, take-take at n l b) (take_at K (drop (n + m) l) (n + m) (simp (length-append, length-take, length-drop) (omega arith)))

  -- ---- past the numbers in use afterwards, storage is what it was
  pub stored_past : (at n : ℕ) (v l : List A) → length v ≡ m → at + m ≤ n → n ≤ length l → drop n (stored_by m at v l) ≡ drop n l
  stored_past at n v l e b c =
      let t : length (take n l) ≡ n = length-take-le n l c in
      let q : at + m ≤ length (take n l) = omega arith in
      ap (λ z. drop n (stored_by m at v z)) (sym (take-append-drop n l))
      ∙ ap (drop n) (stored-append at v (take n l) (drop n l) q)
      ∙ drop_at (stored_by m at v (take n l)) (drop n l) n (stored-length at v (take n l) e q ∙ t)

  pub closed-past : (at n : ℕ) (l : List A) → at + m ≤ n → n ≤ length l → drop (n - m) (closed_by m at n l) ≡ drop (n - m) l
  unfolding closed_by
  closed-past at n l b c =
      rw (← append_assoc (take at l) (drop (at + m) (take n l)) (drop (n - m) l))
      (drop_at (take at l ++ drop (at + m) (take n l)) (drop (n - m) l) (n - m) (simp (length-append, length-take, length-drop) (omega arith)))

  pub opened-past : (at n : ℕ) (v l : List A) → length v ≡ m → at ≤ n → n + m ≤ length l → drop (n + m) (reinserted_by m at n v l) ≡ drop (n + m) l
  unfolding reinserted_by
  opened-past at n v l e b c =
      let K = take at l ++ (v ++ drop at (take n l)) in
      let q : take at l ++ (v ++ (drop at (take n l) ++ drop (n + m) l)) ≡ K ++ drop (n + m) l = simp append_assoc in
      rw q (drop_at K (drop (n + m) l) (n + m) (simp (length-append, length-take, length-drop) (omega arith)))

  -- ---- the old entry brings back what stood there
  entry-joins : (at : ℕ) (l : List A) → take at l ++ (entry_by m at l ++ drop (at + m) l) ≡ l
  entry-joins at l = rw (← drop-drop m at l, take-append-drop m (drop at l)) (take-append-drop at l)

  pub stored_back : (at : ℕ) (v l : List A) → length v ≡ m → at + m ≤ length l → stored_by m at (entry_by m at l) (stored_by m at v l) ≡ l
  unfolding stored_by
  stored_back at v l e b =
      let K = take at l in
      let M = drop (at + m) l in
      let a : length K ≡ at = length-take-le at l (omega arith) in
      let q : drop (at + m) (K ++ (v ++ M)) ≡ M =
      ap (drop (at + m)) (sym (append_assoc K v M)) ∙ drop_at (K ++ v) M (at + m) (omega (arith, length-append K v)) in
      rw (take_at K (v ++ M) at a, q) (entry-joins at l)

  pub cut-back : (at : ℕ) (l : List A) → at + m ≤ length l → inserted at (entry_by m at l) (cut_by m at l) ≡ l
  unfolding cut_by
  cut-back at l b =
      let a : length (take at l) ≡ at = length-take-le at l (omega arith) in
      rw (take_at (take at l) (drop (at + m) l) at a, drop_at (take at l) (drop (at + m) l) at a) (entry-joins at l)

  -- an entry that is in use is one of the picture's
  entry-shown : (at n : ℕ) (l : List A) → at + m ≤ n → n ≤ length l → entry_by m at (take n l) ≡ entry_by m at l
  entry-shown at n l b c =
      let t : length (take n l) ≡ n = length-take-le n l c in
      let q : at ≤ length (take n l) = omega arith in
      let q' : m ≤ length (drop at (take n l)) = simp length-drop (omega arith) in
      sym (ap (entry_by m at) (sym (take-append-drop n l))
      ∙ rw (drop-append-le at (take n l) (drop n l), take-append-le m (drop at (take n l)) (drop n l)))

  -- ---- storage `now` that shows an edit's outcome on the n numbers in use of `before`: the old entry brings these back
  module _ (now before : List A) (at n : ℕ) (fits : at + m ≤ n) (long : n ≤ length before) where
    first : length (take n before) ≡ n
    first = length-take-le n before long

    pub set-undone : (v : List A) → length v ≡ m → n ≤ length now → take n now ≡ stored_by m at v (take n before)
        → take n (stored_by m at (entry_by m at before) now) ≡ take n before
    set-undone v e c q =
        let f : at + m ≤ length (take n before) = omega (arith, first) in
        stored-shows at n (entry_by m at before) now (entry_length at before (omega arith)) fits c
        ∙ rw (q, ← entry-shown at n before fits long) (stored_back at v (take n before) e f)

    pub remove-undone : (r : ℕ) → r ≡ n - m → n ≤ length now → take r now ≡ cut_by m at (take n before)
        → take (r + m) (reinserted_by m at r (entry_by m at before) now) ≡ take n before
    remove-undone r k c q =
        opened-shows at r (entry_by m at before) now (entry_length at before (omega arith)) (omega arith) (omega arith)
        ∙ rw (q, ← entry-shown at n before fits long) (cut-back at (take n before) (omega (arith, first)))

  pub add-undone : (now before v : List A) (n : ℕ) → n ≤ length before → take (n + m) now ≡ take n before ++ v → take n now ≡ take n before
  add-undone now before v n c q =
      let b : n ≤ n + m = omega arith in
      sym (take-take n (n + m) now b) ∙ rw q (take_at (take n before) v n (length-take-le n before c))

  -- the gap closed and opened again
  pub opened-closed : (at n : ℕ) (l : List A) → at + m ≤ n → n ≤ length l → take n (reinserted_by m at (n - m) (entry_by m at l) (closed_by m at n l)) ≡ take n l
  opened-closed at n l b c =
      let e : n - m + m ≡ n = omega arith in
      rw e at (remove-undone (closed_by m at n l) l at n b c (n - m) (omega arith) (rw (closed-length at n l b c) c) (closed-shows at n l b c))

  -- ---- what no number has
  module _ (p : A → Bool) where
    pub stored-nowhere : (at : ℕ) (v l : List A) → some p v ≡ false → some p l ≡ false → some p (stored_by m at v l) ≡ false
    unfolding stored_by
    stored-nowhere at v l a b = nowhere-append p (take at l) _ (nowhere-take p at l b) (nowhere-append p v _ a (nowhere-drop p (at + m) l b))

    pub cut-nowhere : (at : ℕ) (l : List A) → some p l ≡ false → some p (cut_by m at l) ≡ false
    unfolding cut_by
    cut-nowhere at l b = nowhere-append p (take at l) _ (nowhere-take p at l b) (nowhere-drop p (at + m) l b)

    pub closed-nowhere : (at n : ℕ) (l : List A) → some p l ≡ false → some p (closed_by m at n l) ≡ false
    unfolding closed_by
    closed-nowhere at n l b =
        nowhere-append p (take at l) _ (nowhere-take p at l b)
        (nowhere-append p (drop (at + m) (take n l)) _ (nowhere-drop p (at + m) (take n l) (nowhere-take p n l b)) (nowhere-drop p (n - m) l b))

    pub opened-nowhere : (at n : ℕ) (v l : List A) → some p v ≡ false → some p l ≡ false → some p (reinserted_by m at n v l) ≡ false
    unfolding reinserted_by
    opened-nowhere at n v l a b =
        nowhere-append p (take at l) _ (nowhere-take p at l b)
        (nowhere-append p v _ a (nowhere-append p (drop at (take n l)) _ (nowhere-drop p at (take n l) (nowhere-take p n l b)) (nowhere-drop p (n + m) l b)))

    pub entry-nowhere : (at : ℕ) {v : List A} (l : List A) → entry_by m at l ≡ v → some p l ≡ false → some p v ≡ false
    entry-nowhere at l e b = rw (← e) (nowhere-take p m (drop at l) (nowhere-drop p at l b))
