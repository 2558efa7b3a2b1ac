-- `passes`: the index, then the region. Assumes nothing.
use mathlib.Core.Path.{sym, ◌∙◌}
use borrow.Author.Rules.{rules}
use borrow.Author.Tests.{eq-eqb, ne_eqb}
use lib.IntN.{pos}
use lib.ListN.{get_or}
use mir.Syntax.{w16}
use mir.Val.{SFits}
use Rattle.base.proofs.Back.{eq-back}
use Rattle.tool_fill_model.proofs.Passable.{other-index, same_index}
use Rattle.tool_flood.proofs.reach.passes.Goals as goal

pub returns-then-indices-p : goal.returns-then-indices-p
returns-then-indices-p c =
    let a = c.args in
    let p : SFits w16 (get_or a.indices.now a.p (pos 0)) = search rules in
    let q : SFits w16 (get_or a.indices.now a.start (pos 0)) = search rules in
    other-index _ _ _ _ _ c.requires.2 (sym (eq-back p q) ∙ ne_eqb _ _ c.if-indices-p.true)

pub returns : goal.returns
returns c =
    let a = c.args in
    let p : SFits w16 (get_or a.indices.now a.p (pos 0)) = search rules in
    let q : SFits w16 (get_or a.indices.now a.start (pos 0)) = search rules in
    same_index _ _ _ _ _ c.requires.2 (sym (eq-back p q) ∙ eq-eqb _ _ c.if-indices-p.false) c.contains.ensures
