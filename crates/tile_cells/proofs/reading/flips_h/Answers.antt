-- `flips_h`: by the four orders. Assumes nothing.
use Rattle.tile_cells.proofs.Flips.{flip-h}
use Rattle.tile_cells.proofs.reading.flips_h.Goals as goal

pub returns : goal.returns
returns c = flip-h c.args.code
