-- Places of a picture that are claimed in the picture itself: 1,000 is added to the index there. Definitions only. Assumes nothing.
use Rattle.std.specs.Prelude.{◌≡◌, Bool, false, cond, List, ℕ, ◌<◌, ℤ, pos, ◌+ℤ◌, ◌-ℤ◌, length, get_or}
use Rattle.std.specs.Int.Signed.{le_z}
use Rattle.base.specs.Lists.{some}
use Rattle.sheet.specs.Sheet.{stray}
use Rattle.edit.specs.Change.{Change}
use Rattle.edit.specs.Checks.{named}

-- an index of a picture is below 500, a claimed one is not
unfoldable pub claimed : ℤ → Bool
claimed z = le_z (pos 500) z

unfoldable pub claim_of : ℤ → ℤ
claim_of z = cond (claimed z) z (z +ℤ pos 1000)

unfoldable pub release_of : ℤ → ℤ
release_of z = cond (claimed z) (z -ℤ pos 1000) z

-- m is the picture l with the places claimed that the changes name, and no other
pub record Claims (w : ℕ) (cs : List Change) (l m : List ℤ) : Type 0 where
  pub in-range : some (stray 256) l ≡ false
  pub long : length m ≡ length l
  pub says : (p : ℕ) → p < length l → get_or m p (pos 0) ≡ cond (named w cs p) (claim_of (get_or l p (pos 0))) (get_or l p (pos 0))
