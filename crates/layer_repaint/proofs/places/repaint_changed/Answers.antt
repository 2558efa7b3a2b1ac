-- `repaint_changed`: the edited layer's parts of the buffers. Assumes nothing.
use Prim.Native.Nat.{◌+◌, ◌*◌, ◌≤◌}
use lib.ListN.{length}
use Rattle.layer_shown.proofs.Stack.{palette-part, indices-part, part, part_length, part-known}
use Rattle.layer_repaint.proofs.Repainting.{part-places}
use Rattle.layer_repaint.proofs.places.repaint_changed.Goals as goal
use Rattle.layer_repaint.proofs.places.repaint_changed.Goals.{Start}

-- the layer's indices are there
inside : (c : Start) → length c.args.earlier.now * c.args.edited + length c.args.earlier.now ≤ length c.args.indices.now
inside c = indices-part c.requires.0 c.args.edited c.requires.1

pub slice_bounds-repaint_places-end-2 : goal.slice_bounds-repaint_places-end-2
slice_bounds-repaint_places-end-2 c = inside (goal.at.slice_bounds-repaint_places-end-2 c).Start

pub repaint_places-requires : goal.repaint_places-requires
repaint_places-requires c =
    let a = c.args in
    let n = length a.earlier.now in (
      c.requires.0,
      c.requires.2,
      record {
        palette-length = part_length (765 * a.edited) 765 a.palettes.now (palette-part c.requires.0 a.edited c.requires.1);
        indices-length = part_length (n * a.edited) n a.indices.now (inside (goal.at.repaint_places-requires c).Start);
        in-range = part-known (n * a.edited) n a.indices.now c.requires.0.in-range;
      },
      c.requires.3,
    )

pub returns : goal.returns
returns c =
    let a = c.args in
    part-places _ _ _ _ _ _ _ _ _ _ (part (765 * a.edited) 765 a.palettes.now) (part (length a.earlier.now * a.edited) _ a.indices.now) c.repaint_places.ensures
