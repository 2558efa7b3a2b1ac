-- Numbers as bytes: document 01, "Integers little-endian". Definitions only. Assumes nothing.
use Rattle.std.specs.Prelude.{ℕ, zero, suc, ◌+◌, ◌*◌, ◌/◌, ◌%◌, List, [], ◌∷◌, ◌++◌, take, drop}
use Rattle.base.specs.Lists.{over}

-- the k lowest bytes of v, the lowest first
unfoldable pub le : ℕ → ℕ → List ℕ
le zero v = []
le (suc k) v = v % 256 ∷ le k (v / 256)

-- the number whose bytes these are, the lowest first
unfoldable pub unle : List ℕ → ℕ
unle [] = 0
unle (b ∷ bs) = b + 256 * unle bs

-- the number in the k bytes from `at` on
unfoldable pub le_at : ℕ → List ℕ → ℕ → ℕ
le_at k bytes at = unle (take k (drop at bytes))

-- a list with v written over it from `at` on
unfoldable pub splice : {A : Type 0} → List A → ℕ → List A → List A
splice l at v = take at l ++ over v (drop at l)
