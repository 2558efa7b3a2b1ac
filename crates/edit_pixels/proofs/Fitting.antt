-- An index of a sheet's pixels fits its bits. Assumes nothing.
use mathlib.Core.Path.{◌≡◌, sym}
use mathlib.Core.Bool.{false}
use mathlib.Core.List.{List, [], ◌∷◌}
use Prim.Native.Nat.{ℕ, zero, suc, ◌≤◌}
use native.Mathlib.Omega.{arith}
use borrow.Author.Rules.{sfits_of}
use borrow.Author.Tests.{leb-false}
use lib.IntN.{ℤ, pos, negsuc}
use lib.ListN.{get_or}
use mir.Syntax.{w16}
use mir.Val.{SFits}
use Rattle.base.specs.Lists.{some}
use Rattle.base.proofs.Nowhere.{first-not, rest-not}
use Rattle.base.proofs.Back.{never}
use Rattle.sheet.specs.Sheet.{stray}

pub index-fits : (k : ℕ) (z : ℤ) → k ≤ 255 → stray k z ≡ false → SFits w16 z
unfolding stray
index-fits k (pos n) h e = sfits_of (omega (arith, leb-false k n e))
index-fits k (negsuc zero) h e = sfits_of (omega arith)
index-fits k (negsuc (suc n)) h e = never (sym e)

pub pixel-fits : (k : ℕ) (l : List ℤ) (n : ℕ) → k ≤ 255 → some (stray k) l ≡ false → SFits w16 (get_or l n (pos 0))
pixel-fits k [] n h e = sfits_of (omega arith)
pixel-fits k (z ∷ l) zero h e = index-fits k z h (first-not (stray k) z l e)
pixel-fits k (z ∷ l) (suc n) h e = pixel-fits k l n h (rest-not (stray k) z l e)
