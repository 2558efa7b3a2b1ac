-- `entry_word`: the entry among those of all palettes. Assumes nothing.
use mir.Facts.{to_z-of_z}
use Rattle.layer_top.proofs.Topmost.{entry-bytes}
use Rattle.layer_top.proofs.entry_word.Goals as goal

pub returns : goal.returns
returns c =
    entry-bytes _ _ _ _ c.requires.0 c.requires.1 c.requires.2 (rw (c.rgb_at.ensures, to_z-of_z c.ranges.z) at c.word.ensures)
