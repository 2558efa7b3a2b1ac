-- `pixels_no`: what is left says what the whole list says. Assumes nothing.
use mathlib.Core.List.{map}
use lib.ListN.{get_or, length-map}
use Rattle.edit.specs.Change.{unpacked}
use Rattle.edit_pixels.proofs.Nth.{Nth, nth-unpacked}
use Rattle.edit_pixels.proofs.Passing.{passing-none, passing-hit, passing-next, passing-all}
use Rattle.edit_pixels.proofs.checks.pixels_no.Goals as goal
use Rattle.edit_pixels.proofs.checks.pixels_no.Goals.{In-loop-c}

-- the change that a turn reads
nth : (c : In-loop-c) → let list = c.args.list.now in let i = c.loop-c.c-index in Nth (map unpacked list) i (unpacked (get_or list i 0))
nth c = nth-unpacked c.args.list.now _ c.loop-c-test.true

pub loop-c-init : goal.loop-c-init
loop-c-init c = passing-none _ _

pub returns-then-no-ne0 : goal.returns-then-no-ne0
returns-then-no-ne0 c = passing-hit c.loop-c.invariant (nth (goal.at.returns-then-no-ne0 c).In-loop-c) c.pixel_no-no.ensures c.if-no-ne0.true

pub loop-c-preserved : goal.loop-c-preserved
loop-c-preserved c = passing-next c.loop-c.invariant (nth (goal.at.loop-c-preserved c).In-loop-c) c.pixel_no-no.ensures c.if-no-ne0.false

pub returns : goal.returns
returns c = passing-all c.loop-c.invariant (rw length-map c.loop-c-test.false)
