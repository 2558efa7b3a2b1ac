-- `guess_bits`: what is below 2 is a number. Assumes nothing.
use Rattle.color_doubles.proofs.Floats.{lt-no-nan}
use Rattle.color_root.proofs.cube_root.guess_bits.Goals as goal

pub float_to_bits-result : goal.float_to_bits-result
float_to_bits-result c = lt-no-nan _ _ c.if-y.true
