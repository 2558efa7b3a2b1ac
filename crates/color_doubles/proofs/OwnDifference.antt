-- What is not finite is told by its difference from itself, which is 0 for a finite number. Assumes nothing.
use mathlib.Core.Path.{◌≡◌, refl}
use mathlib.Core.Bool.{Bool, true, false, not, beq, and-false}
use Prim.Native.Nat.{ℕ, ◌*◌, ◌<◌}
use native.Mathlib.Omega.{arith}
use native.Mathlib.Nat.{sub_self, mul-pos, le_refl}
use borrow.Author.Tests.{le-ltb}
use lib.IntN.{pos}
use lib.Ieee.{Float, nan, inf, fin, ne, sum, sub, of_bits, binary64, round, down, up}
use lib.Ieee.Fits.{down_pos}
use lib.Ieee.Scale.{round_same}
use Rattle.color_doubles.specs.Finite.{unfit}

unlike : (s : Bool) → beq s (not s) ≡ false
unlike true = refl
unlike false = refl

-- a / c - a / c is 0, at either sign
nothing : (s : Bool) (a c : ℕ) → 0 < c → sum binary64 s a (not s) a c ≡ fin false 0 (pos 0)
unfolding sum round
nothing s a c h =
    rw (unlike s, le-ltb a a (le_refl a), and-false s, sub_self a, round_same binary64 false 0 c 0 1 h (omega arith) (omega arith))

pub own-difference : (x : Float) → ne (sub binary64 x x) (of_bits binary64 0) ≡ unfit x
unfolding ne sub of_bits unfit
own-difference nan = refl
own-difference (inf s) = rw (unlike s)
own-difference (fin s m e) = rw (nothing s (m * up e * down e) (down e * down e) (mul-pos (down_pos e) (down_pos e)))
