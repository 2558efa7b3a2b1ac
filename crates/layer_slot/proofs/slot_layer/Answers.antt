-- `slot_layer`: the slots of j places so far. Assumes nothing.
use borrow.Author.Rules.{rules}
use lib.IntN.{pos}
use lib.ListN.{get_or}
use mir.Syntax.{w16}
use mir.Val.{SFits}
use Rattle.sheet.proofs.Pixels.{read_none}
use Rattle.layer_slot.proofs.slot_layer.Goals as goal

pub slot-requires : goal.slot-requires
slot-requires c =
    let p : SFits w16 (get_or c.args.indices.now c.loop-j.j (pos 0)) = search rules in
    (read_none _ _ _ c.requires.0 c.loop-j-test.true p.sfits, c.requires.2)
