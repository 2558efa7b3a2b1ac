-- `take_indices`: the first i are copied. Assumes nothing.
use lib.ListN.{get_or, take, length-map}
use lib.Seq.{length-take-le}
use mathlib.Core.List.{map}
use mathlib.Core.Path.{◌≡◌, ◌∙◌}
use mir.Facts.{to_z-of_z}
use mir.Syntax.{w16}
use mir.Val.{to_z, of_z}
use native.Mathlib.Omega.{arith}
use borrow.Author.Rules.{rules}
use Rattle.std.proofs.lemmas.List.{take_more, map-append}
use Rattle.base.proofs.Over.{over_none, over-set}
use Rattle.panel_frames.specs.Reading.{index_of}
use Rattle.panel_frames.proofs.carry.take_indices.Goals as goal

pub loop-i-init : goal.loop-i-init
loop-i-init c = over_none _

pub loop-i-preserved : goal.loop-i-preserved
loop-i-preserved c =
    let bs = c.args.bytes.now in
    let i = c.loop-i.i in
    let e : to_z w16 (of_z w16 c.index_of.result) ≡ index_of (get_or bs i 0) = search (rules, to_z-of_z) in
    rw (take_more bs i 0 c.loop-i-test.true, map-append index_of, c.loop-i.invariant, e)
    (over-set (map index_of (take i bs)) c.args.indices.now i _ (length-map (take i bs) index_of ∙ length-take-le i bs (omega arith)) (omega arith))
