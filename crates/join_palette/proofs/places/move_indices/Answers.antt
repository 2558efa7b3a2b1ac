-- `move_indices`: the first i indices are moved so far, then what stood there. Assumes nothing.
use mathlib.Core.Path.{ap, ◌∙◌}
use native.Mathlib.Omega.{arith}
use borrow.Author.Rules.{rules}
use mir.Facts.{to_z-of_z}
use mir.Syntax.{w16}
use mir.Val.{SFits}
use lib.IntN.{pos}
use lib.ListN.{get_or}
use Rattle.base.proofs.Back.{back}
use Rattle.base.proofs.Over.{over_none}
use Rattle.sheet.proofs.Pixels.{read_none}
use Rattle.join_model.specs.Places.{moved_in}
use Rattle.join_palette.proofs.Written.{one-is, one-all}
use Rattle.join_palette.proofs.places.move_indices.Goals as goal

pub loop-i-init : goal.loop-i-init
loop-i-init c = over_none _

pub place_of-requires : goal.place_of-requires
place_of-requires c =
    let p : SFits w16 (get_or c.args.indices.now c.loop-i.i (pos 0)) = search rules in
    read_none _ _ _ c.requires.0 c.loop-i-test.true p.sfits

pub loop-i-preserved : goal.loop-i-preserved
loop-i-preserved c =
    let a = c.args in
    let p : SFits w16 (get_or a.indices.now c.loop-i.i (pos 0)) = search rules in
    let x = back w16 _ c.place_of.type_inv ∙ c.place_of.ensures ∙ ap (moved_in a.table.now) (to_z-of_z p) in
    one-is (moved_in a.table.now) (pos 0) a.indices.now c.loop-i.out a.out.now c.loop-i.i _ c.loop-i.invariant x (omega arith) (omega arith)

pub returns : goal.returns
returns c =
    c.loop-i.invariant
    ∙ one-all (moved_in c.args.table.now) (pos 0) c.args.indices.now
    c.args.out.now c.loop-i.i c.loop-i.auto.i-end c.loop-i-test.false
    c.requires.1
