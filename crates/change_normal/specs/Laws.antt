-- What the laws of normal forms speak of: order, what a place holds, and change request E13. Definitions only. Assumes nothing.
use Rattle.std.specs.Prelude.{ℕ, ◌<◌, ◌≡◌, List, [], ◌∷◌, eqb, ℤ, pos, get_or}
use Rattle.edit.specs.Change.{Change, place}
use Rattle.base.specs.Lists.{All, kept}
use Rattle.change_normal.specs.Normal.{key_of, joined}

-- keys strictly in order
unfoldable pub Ordered : List Change → Type 0
Ordered [] = Unit {0}
Ordered (c ∷ m) = All (λ e. key_of c < key_of e) m × Ordered m

-- those that name the place with key p
unfoldable pub at_place : ℕ → List Change → List Change
at_place p cs = kept (λ e. eqb p (key_of e)) cs

-- the first's old with the last's new
unfoldable pub folded : Change → List Change → Change
folded c [] = c
folded c (d ∷ ds) = folded (joined c d) ds

unfoldable pub first_last : List Change → List Change
first_last [] = []
first_last (c ∷ cs) = folded c cs ∷ []

-- E13: "places are on the sheet" of w by h
unfoldable pub On : ℕ → ℕ → Change → Type 0
On w h c = (c.x < w) × (c.y < h)

-- "each tool's olds are the sheet's"
unfoldable pub SheetOlds : ℕ → List ℤ → List Change → Type 0
SheetOlds w l cs = All (λ c. c.old ≡ get_or l (place w c) (pos 0)) cs

-- E13: "first old at each place is the sheet's own index": m are the changes that came before
unfoldable pub FirstOlds : ℕ → List ℤ → List Change → List Change → Type 0
FirstOlds w l m [] = Unit {0}
FirstOlds w l m (c ∷ cs) = (All (λ e. key_of c ≡ key_of e → ⊥) m → c.old ≡ get_or l (place w c) (pos 0)) × FirstOlds w l (c ∷ m) cs
