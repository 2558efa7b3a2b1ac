-- LAB storage that is filled an entry a turn, by any curve. Assumes nothing.
use mathlib.Core.Path.{◌≡◌, refl, ◌∙◌}
use mathlib.Core.List.{List, [], ◌∷◌, ◌++◌}
use Prim.Native.Nat.{ℕ, zero, suc, ◌+◌, ◌*◌, ◌≤◌}
use native.Mathlib.Omega.{arith}
use native.Mathlib.Numerals.{add-one, add-two}
use lib.Ieee.{Float}
use lib.ListN.{length, take, drop}
use lib.Seq.{length-take-le, take-add}
use Rattle.base.specs.declared.Rgb.{Rgb}
use Rattle.base.specs.declared.Lab.{Lab}
use Rattle.base.specs.Lists.{over}
use Rattle.base.proofs.Over.{over-is}
use Rattle.sheet.specs.Document.{labs_by}
use Rattle.base.specs.Triples.{rgb_at, lab_at, with_lab}
use Rattle.sheet.proofs.Front.{written}
use Rattle.sheet.proofs.Entries.{bytes_of, entry}

-- a triple's numbers, in order
abbrev pub numbers_of : Lab → List Float
numbers_of x = x.l ∷ x.a ∷ x.b ∷ []

-- i colours, three bytes each
data Colours : List ℕ → ℕ → Type 0 where
  none : Colours [] 0
  more : {r g b : ℕ} {p : List ℕ} {i : ℕ} → Colours p i → Colours (r ∷ g ∷ b ∷ p) (suc i)

colours : (i : ℕ) (p : List ℕ) → length p ≡ 3 * i → Colours p i
colours zero [] e = none
colours zero (r ∷ p) e = absurd (omega arith)
colours (suc i) [] e = absurd (omega arith)
colours (suc i) (r ∷ []) e = absurd (omega arith)
colours (suc i) (r ∷ g ∷ []) e = absurd (omega arith)
colours (suc i) (r ∷ g ∷ b ∷ p) e = more (colours i p (omega arith))

-- an entry's three stores
with-lab : (w d : List Float) (i : ℕ) (x : Lab) → length w ≡ 3 * i → 3 * i + 3 ≤ length d → with_lab (w ++ drop (3 * i) d) i x ≡ w ++ numbers_of x ++ drop (3 * i + 3) d
unfolding with_lab
with-lab w d i x e h = rw (add-one (3 * i), add-two (3 * i)) (written w (numbers_of x) d (3 * i) e h)

module _ (curve : Rgb → Lab) where
  labs-more : {p : List ℕ} {i : ℕ} → Colours p i → (c : Rgb) → labs_by curve (p ++ bytes_of c) ≡ labs_by curve p ++ numbers_of (curve c)
  unfolding labs_by
  labs-more none c = refl
  labs-more (more s) c = rw (labs-more s c)

  labs-length : {p : List ℕ} {i : ℕ} → Colours p i → length (labs_by curve p) ≡ 3 * i
  unfolding labs_by
  labs-length none = refl
  labs-length (more s) = omega (arith, labs-length s)

  -- as many numbers as bytes
  pub length-labs : (k : ℕ) (p : List ℕ) → length p ≡ 3 * k → length (labs_by curve p) ≡ 3 * k
  length-labs k p e = labs-length (colours k p e)

  -- the LAB of the first i entries of a palette, then what stood there
  abbrev pub filled : List ℕ → List Float → ℕ → List Float
  filled p d i = labs_by curve (take (3 * i) p) ++ drop (3 * i) d

  module _ (p : List ℕ) (d : List Float) (i : ℕ) where
    first : 3 * i + 3 ≤ length p → Colours (take (3 * i) p) i
    first h = colours i (take (3 * i) p) (length-take-le (3 * i) p (omega arith))

    pub filled_next : 3 * i + 3 ≤ length p → 3 * i + 3 ≤ length d → with_lab (filled p d i) i (curve (rgb_at p i)) ≡ filled p d (i + 1)
    filled_next h k =
        let next : 3 * (i + 1) ≡ 3 * i + 3 = omega arith in
        with-lab (labs_by curve (take (3 * i) p)) d i (curve (rgb_at p i)) (labs-length (first h)) k
        ∙ rw (next, take-add (3 * i) 3 p, entry p i h, labs-more (first h) (rgb_at p i))

  pub filled-all : (p : List ℕ) (d : List Float) (k : ℕ) → 3 * k ≤ length p → filled p d k ≡ over (labs_by curve (take (3 * k) p)) d
  filled-all p d k h = over-is (labs_by curve (take (3 * k) p)) d (3 * k) (length-labs k (take (3 * k) p) (length-take-le (3 * k) p h))

  -- the LAB of an entry
  pub labs-at : (p : List ℕ) (d : List Float) (i : ℕ) → 3 * i + 3 ≤ length p → lab_at (labs_by curve p ++ d) i ≡ curve (rgb_at p i)
  unfolding labs_by lab_at rgb_at
  labs-at [] d i h = absurd (omega arith)
  labs-at (r ∷ []) d i h = absurd (omega arith)
  labs-at (r ∷ g ∷ []) d i h = absurd (omega arith)
  labs-at (r ∷ g ∷ b ∷ p) d zero h = refl
  labs-at (r ∷ g ∷ b ∷ p) d (suc i) h = rw (after 1, after 2, next) (labs-at p d i (omega arith))
    where
      next : 3 * suc i ≡ suc (suc (suc (3 * i)))
      next = omega arith

      after : (n : ℕ) → 3 * suc i + n ≡ suc (suc (suc (3 * i + n)))
      after n = omega arith
