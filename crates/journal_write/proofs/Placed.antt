-- A change on the sheet can be told by its place: sides of at most 1,024 have places of three bytes. Assumes nothing.
use Prim.Native.Nat.{ℕ, ◌*◌, ◌^◌, ◌≤◌, ◌<◌}
use mathlib.Core.Path.{◌≡◌}
use mathlib.Core.Bool.{false}
use mathlib.Core.List.{List, [], ◌∷◌}
use native.Mathlib.Nat.{mul-le-mul}
use native.Mathlib.Omega.{arith}
use borrow.Author.Tests.{leb-false}
use lib.Dec.{leb}
use Rattle.base.specs.Limits.{max_side}
use Rattle.base.specs.Lists.{some}
use Rattle.base.specs.declared.Form.{Form}
use Rattle.base.specs.declared.Form.TheVariants.{Coordinates, Places}
use Rattle.base.proofs.Scan.{or_left, or_right}
use Rattle.edit.specs.Change.{Change, place, outside}
use Rattle.edit.proofs.Painting.{place_inside}
use Rattle.journal_write.specs.Fit.{FitPlaces}

module _ (w h : ℕ) (c : Change) (on : outside w h c ≡ false) where
  pub column-on : c.x < w
  unfolding outside
  column-on = leb-false w c.x (or_left (leb w c.x) _ on)

  pub row_on : c.y < h
  unfolding outside
  row_on = leb-false h c.y (or_right (leb w c.x) _ on)

  place-small : w ≤ max_side → h ≤ max_side → place w c < 2 ^ 24
  place-small narrow low =
      let places : w * h ≤ max_side * max_side = mul-le-mul narrow low in
      omega (arith, place_inside w h c on)

pub fit-places : (f : Form) (w h : ℕ) → w ≤ max_side → h ≤ max_side → (cs : List Change) → some (outside w h) cs ≡ false → FitPlaces f w cs
unfolding FitPlaces some
fit-places Coordinates w h narrow low cs on = tt
fit-places Places w h narrow low [] on = tt
fit-places Places w h narrow low (c ∷ cs) on =
    let here : outside w h c ≡ false = or_left (outside w h c) _ on in
    ((column-on w h c here, place-small w h c here narrow low), fit-places Places w h narrow low cs (or_right (outside w h c) _ on))
