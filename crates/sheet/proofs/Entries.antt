-- A palette's entries, three bytes each. Assumes nothing.
use mathlib.Core.Path.{◌≡◌}
use mathlib.Core.List.{List, [], ◌∷◌}
use Prim.Native.Nat.{ℕ, suc, ◌+◌, ◌*◌, ◌≤◌}
use native.Mathlib.Omega.{arith}
use native.Mathlib.Numerals.{towards_suc}
use lib.ListN.{length, take, drop, get_or}
use lib.Seq.{drop-cons}
use Rattle.base.specs.declared.Rgb.{Rgb}
use Rattle.base.specs.Triples.{rgb_at}

-- three elements that stand one after the other
pub three : {A : Type 0} (l : List A) (n : ℕ) (d : A) → n + 3 ≤ length l → take 3 (drop n l) ≡ get_or l n d ∷ get_or l (n + 1) d ∷ get_or l (n + 2) d ∷ []
three l n d h = simp towards_suc (rw (drop-cons l n d (omega arith), drop-cons l (suc n) d (omega arith), drop-cons l (suc (suc n)) d (omega arith)))

-- a colour's bytes, in order
abbrev pub bytes_of : Rgb → List ℕ
bytes_of c = c.r ∷ c.g ∷ c.b ∷ []

pub entry : (p : List ℕ) (i : ℕ) → 3 * i + 3 ≤ length p → take 3 (drop (3 * i) p) ≡ bytes_of (rgb_at p i)
unfolding rgb_at
entry p i h = three p (3 * i) 0 h
