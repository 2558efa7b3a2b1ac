-- `raise_from`: the indices so far are done, and the others as they were. Assumes nothing.
use mathlib.Core.Path.{◌≡◌}
use native.Mathlib.Omega.{arith}
use borrow.Author.Rules.{rules}
use lib.IntN.{ℤ, pos}
use lib.ListN.{get_or}
use mir.Syntax.{w16}
use mir.Val.{SFits}
use mir.Facts.{to_z-of_z, to_z_pos}
use Rattle.std.proofs.lemmas.List.Edits.{map_over_more}
use Rattle.std.proofs.lemmas.Grind.{common_steps}
use Rattle.sheet.specs.Sheet.{stray}
use Rattle.base.proofs.Scan.{some-none}
use Rattle.base.proofs.Back.{by_value}
use Rattle.edit.specs.Storage.{raised}
use Rattle.edit_renumber.proofs.indices.raise_from.Goals as goal

pub loop-z-preserved : goal.loop-z-preserved
loop-z-preserved c =
    let f = raised c.args.index in
    let z : ℤ = get_or c.loop-z.indices c.loop-z.z-index (pos 0) in
    let e : c.raise_one.result ≡ f z = by_value {w = w16} f (search rules) (c.raise_one.ensures _ (to_z_pos w16 (omega arith))) in
    rw (to_z-of_z (record { sfits = c.raise_one.type_inv }), e)
    (map_over_more f c.args.indices.now c.loop-z.indices c.loop-z.z-index z c.loop-z-test.true c.loop-z.invariant (search rules))

pub raise_one-requires : goal.raise_one-requires
raise_one-requires c =
    let l = c.args.indices.now in
    let i = c.loop-z.z-index in
    let z : ℤ = get_or c.loop-z.indices i (pos 0) in
    let read : z ≡ get_or l i (pos 0) = grind (arith, common_steps) in
    let fits : SFits w16 z = search rules in
    rw (to_z-of_z fits, read) (some-none (stray 255) l i (pos 0) c.requires.1 c.loop-z-test.true)
