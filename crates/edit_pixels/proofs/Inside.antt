-- A change that is not off the sheet stands in the picture, and so does one that is read out of a list of such. Assumes nothing.
use mathlib.Core.Path.{◌≡◌}
use mathlib.Core.Bool.{false}
use mathlib.Core.List.{List}
use Prim.Native.Nat.{ℕ, ◌*◌, ◌<◌}
use borrow.Author.Tests.{leb-false, lt-leb}
use lib.Dec.{leb}
use Rattle.base.specs.Lists.{some}
use Rattle.base.proofs.Scan.{or_left, or_right}
use Rattle.base.proofs.Nowhere.{nowhere-weaker}
use Rattle.sheet.proofs.Places as places
use Rattle.edit.specs.Change.{Change, place, outside}
use Rattle.edit_pixels.specs.Inside.{past}
use Rattle.edit_pixels.proofs.Nth.{Nth, nth-not}

module _ (w h n : ℕ) (e : n ≡ w * h) where
  pub inside : (c : Change) → outside w h c ≡ false → place w c < n
  unfolding outside place
  inside c o = rw e (places.place (leb-false h c.y (or_right (leb w c.x) (leb h c.y) o)) (leb-false w c.x (or_left (leb w c.x) (leb h c.y) o)))

  pub none-past : (cs : List Change) → some (outside w h) cs ≡ false → some (past w n) cs ≡ false
  unfolding past
  none-past = nowhere-weaker (outside w h) (past w n) (λ c o. lt-leb n (place w c) (inside c o))

pub inside-at : (w n : ℕ) {cs : List Change} {i : ℕ} {c : Change} → some (past w n) cs ≡ false → Nth cs i c → place w c < n
unfolding past
inside-at w n {c = c} e a = leb-false n (place w c) (nth-not a (past w n) e)
