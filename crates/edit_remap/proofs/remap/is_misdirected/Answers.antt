-- `is_misdirected`: the tests are the definition's. Assumes nothing.
use borrow.Author.Rules.{rules}
use lib.IntN.{pos}
use lib.ListN.{get_or}
use mir.Syntax.{w16}
use Rattle.base.proofs.Back.{back}
use Rattle.edit.specs.Checks.{misdirected}
use Rattle.edit_remap.proofs.remap.is_misdirected.Goals as goal

pub returns : goal.returns
unfolding misdirected
returns c =
    λ h.
    cc (back w16 (get_or c.args.indices.now c.place_of-p.result (pos 0)) (search rules), back w16 c.old_of.result c.old_of.type_inv, back w16 c.new_of.result c.new_of.type_inv)
