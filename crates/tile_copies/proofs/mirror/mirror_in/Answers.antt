-- `mirror_in`: on the first numbers of the scratch. Assumes nothing.
use Prim.Native.Nat.{◌≤◌}
use mathlib.Core.Path.{sym, ◌∙◌}
use lib.ListN.{length}
use lib.Seq.{length-take-le}
use Rattle.change_list.proofs.Fronts.{front-lent}
use borrow.Author.Rules.{rules}
use Rattle.tile_copies.proofs.mirror.mirror_in.Goals as goal
use Rattle.tile_copies.proofs.mirror.mirror_in.Goals.{Start}

within : (c : Start) → length c.args.indices.now ≤ length c.args.scratch.now
within c = rw c.requires.0.tiled.long c.requires.1

pub slice_bounds-mirror_all-end-2 : goal.slice_bounds-mirror_all-end-2
slice_bounds-mirror_all-end-2 c = sym (length-take-le _ _ (within (goal.at.slice_bounds-mirror_all-end-2 c).Start))

pub mirror_all-requires : goal.mirror_all-requires
mirror_all-requires c = (c.requires.0, length-take-le _ _ (within (goal.at.mirror_all-requires c).Start) ∙ c.requires.0.tiled.long)

pub returns : goal.returns
returns c = front-lent c.mirror_all.ensures _
