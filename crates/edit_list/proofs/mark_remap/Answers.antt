-- `mark_remap`: what is left says what the whole list says, and the places met are marked. Assumes nothing.
use mathlib.Core.List.{map}
use lib.ListN.{get_or, length-map}
use Rattle.edit.specs.Change.{unpacked}
use Rattle.edit_pixels.proofs.Nth.{Nth, nth-unpacked}
use Rattle.edit_remap.proofs.Remapping.{remap-none, remap-hit, remap-next, remap-all}
use Rattle.edit_list.proofs.mark_remap.Goals as goal
use Rattle.edit_list.proofs.mark_remap.Goals.{In-loop-c}

-- the change that a turn reads
nth : (c : In-loop-c) → let list = c.args.list.now in let i = c.loop-c.c-index in Nth (map unpacked list) i (unpacked (get_or list i 0))
nth c = nth-unpacked c.args.list.now _ c.loop-c-test.true

pub loop-c-init : goal.loop-c-init
loop-c-init c = remap-none _ _ _ _ c.requires.2

pub returns-then-no-ne0 : goal.returns-then-no-ne0
returns-then-no-ne0 c =
    (remap-hit _ _ _ _ c.loop-c.invariant (nth (goal.at.returns-then-no-ne0 c).In-loop-c) c.mark_move-no.ensures.0 c.if-no-ne0.true, λ z. absurd (c.if-no-ne0.true z))

pub loop-c-preserved : goal.loop-c-preserved
loop-c-preserved c =
    remap-next _ _ _ _ c.loop-c.invariant (nth (goal.at.loop-c-preserved c).In-loop-c) c.mark_move-no.ensures.0 c.if-no-ne0.false c.mark_move-no.ensures.1

pub returns : goal.returns
returns c = let all = remap-all _ _ _ _ c.loop-c.invariant (rw length-map c.loop-c-test.false) in (all.0, λ _. all.1)
