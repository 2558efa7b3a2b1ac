-- `first_cells_sorted`: the classes, an empty table, and the first cell of each class. Assumes nothing.
use mathlib.Core.Path.{refl}
use Rattle.tile_cells.specs.Cells.{cell_count}
use Rattle.tile_classes.proofs.Pixels.{told-all}
use Rattle.tile_classes.proofs.Entering.{entered-none}
use Rattle.tile_classes.proofs.first_cells_sorted.Goals as goal

pub tell_apart-requires : goal.tell_apart-requires
unfolding cell_count
tell_apart-requires c = let q = c.requires in (q.0, refl, q.2, q.1)

pub enter_all-requires : goal.enter_all-requires
unfolding cell_count
enter_all-requires c =
    let a = c.args in record {
      tiled = (c.requires.0, refl);
      entered = (entered-none a.w a.t a.indices.now _
          (told-all a.w a.t a.indices.now c.tell_apart.ensures)
          c.clear.ensures);
    }

pub returns : goal.returns
unfolding cell_count
returns c = c.enter_all.ensures
