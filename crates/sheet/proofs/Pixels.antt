-- What no pixel of a list is. Assumes nothing.
use mathlib.Core.Path.{◌≡◌}
use mathlib.Core.Bool.{Bool, false}
use mathlib.Core.List.{List}
use Prim.Native.Nat.{ℕ, ◌^◌, ◌<◌}
use lib.IntN.{ℤ, pos}
use lib.Signed.{mag}
use lib.ListN.{length, get_or}
use mir.Syntax.{w16}
use mir.Val.{to_z, of_z, hbits}
use Rattle.base.specs.Lists.{some}
use Rattle.base.proofs.Scan.{some-none}
use Rattle.base.proofs.Back.{back}

-- the one that a loop reads is not, though its bits are read back
pub read_none : (p : ℤ → Bool) (l : List ℤ) (i : ℕ) → some p l ≡ false → i < length l → mag (get_or l i (pos 0)) < 2 ^ hbits w16 → p (to_z w16 (of_z w16 (get_or l i (pos 0)))) ≡ false
read_none p l i e h given = rw (back w16 (get_or l i (pos 0)) given) (some-none p l i (pos 0) e h)
