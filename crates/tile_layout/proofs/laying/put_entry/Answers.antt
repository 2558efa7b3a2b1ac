-- `put_entry`: three stores. Assumes nothing.
use Rattle.tile_layout.specs.Numbering.{flat_id}
use Rattle.tile_layout.proofs.Laid.{three}
use Rattle.tile_layout.proofs.laying.put_entry.Goals as goal

pub returns : goal.returns
unfolding flat_id
returns c = three _ _ _ _ c.requires.1
