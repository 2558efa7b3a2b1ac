-- `scale`: a key below 2^32 gives a place below n. Assumes nothing.
use mathlib.Core.Path.{refl}
use native.Mathlib.Nat.{div-lt_iff_lt-mul, mul-lt-mul_of_pos_right}
use native.Mathlib.Omega.{arith}
use Rattle.tile_cells.specs.Key.{scaled}
use Rattle.tile_cells.proofs.keys.scale.Goals as goal

pub returns : goal.returns
unfolding scaled
returns c = (refl, (div-lt_iff_lt-mul {k = 4294967296} (omega arith)).1 (omega (arith, mul-lt-mul_of_pos_right c.requires.0 c.requires.1)))
