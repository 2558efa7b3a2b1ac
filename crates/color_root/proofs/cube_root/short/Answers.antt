-- `short`: below 2 the pattern is that of a number, and stays one. Assumes nothing.
use native.Mathlib.Omega.{arith}
use Rattle.color_doubles.proofs.Floats.{no-nan-bits, lt-no-nan}
use Rattle.color_root.proofs.cube_root.short.Goals as goal

pub float_to_bits-p : goal.float_to_bits-p
float_to_bits-p c = lt-no-nan _ _ c.if-y.true

pub float_from_bits-result : goal.float_from_bits-result
float_from_bits-result c = no-nan-bits _ (omega arith)
