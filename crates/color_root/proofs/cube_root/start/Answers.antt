-- `start`: a third of the pattern and the constant are the pattern of a number. Assumes nothing.
use native.Mathlib.Omega.{arith}
use Rattle.color_doubles.proofs.Floats.{no-nan-bits}
use Rattle.color_root.proofs.cube_root.start.Goals as goal

pub float_from_bits-y : goal.float_from_bits-y
float_from_bits-y c = no-nan-bits _ (omega arith)
