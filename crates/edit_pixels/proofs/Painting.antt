-- The loop that paints changes: painting what is left over the present picture gives what painting all over the first gives. Assumes nothing.
use mathlib.Core.Path.{◌≡◌, refl, ap, ◌∙◌}
use mathlib.Core.Bool.{false}
use mathlib.Core.List.{List}
use Prim.Native.Nat.{ℕ, ◌+◌, ◌<◌, ◌≤◌}
use lib.IntN.{ℤ}
use lib.ListN.{length, drop, set, length-set}
use Rattle.base.specs.Lists.{some}
use Rattle.base.proofs.Scan.{drop-end}
use Rattle.edit.specs.Change.{Change, place, painted}
use Rattle.edit_pixels.specs.Inside.{past}
use Rattle.edit_pixels.proofs.Nth.{Nth}
use Rattle.edit_pixels.proofs.Inside.{inside-at}

pub record Painting (f : Change → ℤ) (w : ℕ) (cs : List Change) (l₀ : List ℤ) (i : ℕ) (l : List ℤ) : Type 0 where
  pub long : length l ≡ length l₀
  pub rest : painted f w (drop i cs) l ≡ painted f w cs l₀

pub painting-none : (f : Change → ℤ) (w : ℕ) (cs : List Change) (l : List ℤ) → Painting f w cs l 0 l
painting-none f w cs l = record { long = refl; rest = refl }

module _ {f : Change → ℤ} {w : ℕ} {cs : List Change} {l₀ l : List ℤ} {i : ℕ} (p : Painting f w cs l₀ i l) where
  module _ {c : Change} (a : Nth cs i c) where
    -- the next change stands in the picture
    pub painting-inside : some (past w (length l₀)) cs ≡ false → place w c < length l
    painting-inside e = rw p.long (inside-at w (length l₀) e a)

    pub painting-next : {m : List ℤ} → m ≡ set l (place w c) (f c) → Painting f w cs l₀ (i + 1) m
    unfolding painted
    painting-next {m} e =
        record { long = ap length e ∙ length-set l (place w c) (f c) ∙ p.long; rest = rw e (rw a.left at p.rest) }

  pub painting-all : length cs ≤ i → l ≡ painted f w cs l₀
  unfolding painted
  painting-all h = rw (drop-end cs i h) at p.rest
