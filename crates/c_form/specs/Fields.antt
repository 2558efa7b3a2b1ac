-- Numbers of one width that lie one after the other in bytes: read, and written over what stands there. One definition
-- for every width. Definitions only. Assumes nothing.
use Rattle.std.specs.Prelude.{ℕ, zero, suc, ◌+◌, List, [], ◌∷◌, take, drop}
use Rattle.journal_record.specs.Bytes.{splice}

-- n of them, each from `s` bytes, the first from `at` on
unfoldable pub read_from : {A : Type 0} → ℕ → (List ℕ → A) → ℕ → ℕ → List ℕ → List A
read_from s read at zero b = []
read_from s read at (suc n) b = read (take s (drop at b)) ∷ read_from s read (at + s) n b

-- each over the `s` bytes that stand in its place; all others keep
unfoldable pub write_from : {A : Type 0} → ℕ → (A → List ℕ → List ℕ) → ℕ → List A → List ℕ → List ℕ
write_from s write at [] b = b
write_from s write at (x ∷ xs) b = write_from s write (at + s) xs (splice b at (write x (take s (drop at b))))
