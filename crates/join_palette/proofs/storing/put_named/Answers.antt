-- `put_named`: the first j pieces that the list names, then what stood there. Assumes nothing.
use native.Mathlib.Omega.{arith}
use Rattle.base.proofs.Over.{over_none}
use mathlib.Core.List.{flat_map}
use Rattle.join_palette.specs.Pieces.{pieces}
use Rattle.join_palette.proofs.Pieces.{named_inside, piece_more}
use Rattle.join_palette.proofs.storing.put_named.Goals as goal

pub loop-j-init : goal.loop-j-init
unfolding pieces flat_map
loop-j-init g c = over_none _

pub overflow_mul-start : goal.overflow_mul-start
overflow_mul-start g c = omega (arith, named_inside g.row.N c.args.named.now c.loop-j.j c.requires.0 (omega arith))

pub overflow_add-start : goal.overflow_add-start
overflow_add-start g c = omega (arith, named_inside g.row.N c.args.named.now c.loop-j.j c.requires.0 (omega arith))

pub offset_bounds-from-start : goal.offset_bounds-from-start
offset_bounds-from-start g c = omega (arith, named_inside g.row.N c.args.named.now c.loop-j.j c.requires.0 (omega arith))

pub slice_bounds-copy_from_slice-end-in-loop-j : goal.slice_bounds-copy_from_slice-end-in-loop-j
slice_bounds-copy_from_slice-end-in-loop-j g c = omega (arith, named_inside g.row.N c.args.named.now c.loop-j.j c.requires.0 (omega arith))

pub loop-j-preserved : goal.loop-j-preserved
loop-j-preserved g c =
    piece_more g.row.N c.args.from.now c.args.out.now _ _ c.args.named.now c.loop-j.j _ _ c.requires.0 c.requires.1 (omega arith)
    c.loop-j.invariant c.copy_from_slice.ensures.after (omega arith) (omega arith)
