-- `paint_news`: what is left, painted over the present picture, gives the whole. Assumes nothing.
use mathlib.Core.List.{map}
use lib.ListN.{get_or, length-map}
use Rattle.edit.specs.Change.{unpacked}
use Rattle.edit_pixels.proofs.Nth.{Nth, nth-unpacked}
use Rattle.edit_pixels.proofs.Painting.{painting-none, painting-inside, painting-next, painting-all}
use Rattle.edit_pixels.proofs.paint.paint_news.Goals as goal
use Rattle.edit_pixels.proofs.paint.paint_news.Goals.{In-loop-c}

-- the change that a turn reads
nth : (c : In-loop-c) → let list = c.args.list.now in let i = c.loop-c.c-index in Nth (map unpacked list) i (unpacked (get_or list i 0))
nth c = nth-unpacked c.args.list.now _ c.loop-c-test.true

pub loop-c-init : goal.loop-c-init
loop-c-init c = painting-none _ _ _ _

pub paint_new-requires : goal.paint_new-requires
paint_new-requires c = painting-inside c.loop-c.invariant (nth (goal.at.paint_new-requires c).In-loop-c) c.requires

pub loop-c-preserved : goal.loop-c-preserved
loop-c-preserved c = painting-next c.loop-c.invariant (nth (goal.at.loop-c-preserved c).In-loop-c) c.paint_new.ensures

pub shape_of-indices : goal.shape_of-indices
shape_of-indices c = c.loop-c.invariant.long

pub returns : goal.returns
returns c = painting-all c.loop-c.invariant (rw length-map c.loop-c-test.false)
