-- `flips_v`: by the four orders. Assumes nothing.
use Rattle.tile_cells.proofs.Flips.{flip-v}
use Rattle.tile_cells.proofs.reading.flips_v.Goals as goal

pub returns : goal.returns
returns c = flip-v c.args.code
