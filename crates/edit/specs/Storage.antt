-- Entries in storage, n numbers in use, m an entry: three for palette bytes and LAB doubles alike. Definitions only. Assumes nothing.
use Rattle.std.specs.Prelude.{ℕ, ◌+◌, ◌-◌, List, [], ◌∷◌, ◌++◌, ℤ, pos, Float, take, drop, cond}
use Rattle.std.proofs.Math.IntN.{suc_ℤ, pred_ℤ}
use Rattle.std.specs.Int.Signed.{lt_z, le_z}
use Rattle.base.specs.declared.Rgb.{Rgb}
use Rattle.base.specs.declared.Lab.{Lab}

-- an entry's three numbers
abbrev pub bytes_of : Rgb → List ℕ
bytes_of c = c.r ∷ c.g ∷ c.b ∷ []

abbrev pub numbers_of : Lab → List Float
numbers_of x = x.l ∷ x.a ∷ x.b ∷ []

-- an entry of m numbers stored at `at`
unfoldable pub stored_by : {A : Type 0} → ℕ → ℕ → List A → List A → List A
stored_by m at v l = take at l ++ (v ++ drop (at + m) l)

-- "closes the palette gap": the entry at `at` of the n numbers in use is taken out; "a removal .. leaves the last old entry's storage"
unfoldable pub closed_by : {A : Type 0} → ℕ → ℕ → ℕ → List A → List A
closed_by m at n l = take at l ++ (drop (at + m) (take n l) ++ drop (n - m) l)

-- an entry reinserted at `at`
unfoldable pub reinserted_by : {A : Type 0} → ℕ → ℕ → ℕ → List A → List A → List A
reinserted_by m at n v l = take at l ++ (v ++ (drop at (take n l) ++ drop (n + m) l))

-- the entry taken out of a list of just the entries
unfoldable pub cut_by : {A : Type 0} → ℕ → ℕ → List A → List A
cut_by m at l = take at l ++ drop (at + m) l

-- ---- the same of colours and LAB values, three numbers an entry
abbrev pub stored : {A : Type 0} → ℕ → List A → List A → List A
stored at v l = stored_by 3 at v l

abbrev pub closed : {A : Type 0} → ℕ → ℕ → List A → List A
closed at n l = closed_by 3 at n l

abbrev pub reinserted : {A : Type 0} → ℕ → ℕ → List A → List A → List A
reinserted at n v l = reinserted_by 3 at n v l

abbrev pub cut : {A : Type 0} → ℕ → List A → List A
cut at l = cut_by 3 at l

-- "lowers every index above the entry by one"
unfoldable pub lowered : ℕ → ℤ → ℤ
lowered i z = cond (lt_z (pos i) z) (pred_ℤ z) z

-- "raises indices ≥ the entry"
unfoldable pub raised : ℕ → ℤ → ℤ
raised i z = cond (le_z (pos i) z) (suc_ℤ z) z
