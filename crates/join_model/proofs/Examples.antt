-- Worked examples of the definitions, by computation, whatever LAB and marks are. Assumes nothing.
use mathlib.Core.Path.{◌≡◌, refl}
use mathlib.Core.Bool.{Bool}
use mathlib.Core.List.{[], ◌∷◌, map}
use Prim.Native.Nat.{ℕ}
use lib.IntN.{pos, negsuc}
use Rattle.base.specs.declared.Rgb.{Rgb}
use Rattle.base.specs.declared.Lab.{Lab}
use Rattle.base.specs.Lists.{some, range}
use Rattle.base.specs.Triples.{rgb_at}
use Rattle.edit.specs.Checks.{same_rgb}
use Rattle.sheet.specs.Sheet.{Sheet, sheet_of}
use Rattle.join_model.specs.Joined.{Entry, entries_of, has, joined, place_of, moved_to, rgb_of}
use Rattle.join_model.specs.Join.{joined_of}

abbrev colour : ℕ → Rgb
colour n = record { r = n; g = 0; b = 0 }

abbrev entry : ℕ → Lab → Bool → Entry
entry n lab lock = record { rgb = colour n; lab = lab; lock = lock }

-- no pixel, and one entry
abbrev empty : ℕ → Sheet
empty n = sheet_of 0 0 1 (n ∷ 0 ∷ 0 ∷ []) [] []

record Examples (x y : Lab) (s t : Bool) : Type 0 where
  -- a colour that the first has twice stays twice; one that both have is the first's, with its LAB and mark; one that
  -- the second has twice comes once
  together :
      joined (entry 1 x s ∷ entry 2 x s ∷ entry 1 y t ∷ []) (entry 3 y t ∷ entry 2 y t ∷ entry 3 x s ∷ entry 4 x t ∷ [])
      ≡ entry 1 x s ∷ entry 2 x s ∷ entry 1 y t ∷ entry 3 y t ∷ entry 4 x t ∷ []
  -- "the first joined entry of its colour"
  first-of-two : place_of (entry 1 x s ∷ entry 2 x s ∷ entry 1 y t ∷ []) (colour 1) ≡ 0
  -- an index of the second, which is the transparent one or not
  second : moved_to (entry 1 x s ∷ entry 2 y t ∷ []) (2 ∷ 0 ∷ 0 ∷ []) (pos 0) ≡ pos 1
  transparent : moved_to (entry 1 x s ∷ entry 2 y t ∷ []) (2 ∷ 0 ∷ 0 ∷ []) (negsuc 0) ≡ negsuc 0
  -- a colour that no pixel shows is joined, too
  unused : map rgb_of (joined_of (empty 1) [] (empty 2) []) ≡ colour 1 ∷ colour 2 ∷ []

examples : (x y : Lab) (s t : Bool) → Examples x y s t
unfolding some range rgb_at same_rgb has joined place_of moved_to entries_of
examples x y s t = record { together = refl; first-of-two = refl; second = refl; transparent = refl; unused = refl }
