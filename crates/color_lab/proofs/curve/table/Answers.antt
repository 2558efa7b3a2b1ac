-- `table`: the code's literals are the curve's values. Assumes nothing.
use Rattle.color_lab.proofs.LinearBits.{linear_bits}
use Rattle.color_lab.proofs.LinearTable.{table_is}
use Rattle.color_lab.proofs.curve.table.Goals as goal

pub returns : goal.returns
unfolding linear_bits
returns c = table_is
