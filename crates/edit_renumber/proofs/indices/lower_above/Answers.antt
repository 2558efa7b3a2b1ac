-- `lower_above`: the indices so far are done, and the others as they were. Assumes nothing.
use mathlib.Core.Path.{◌≡◌}
use native.Mathlib.Omega.{arith}
use borrow.Author.Rules.{rules}
use lib.IntN.{ℤ, pos}
use lib.ListN.{get_or}
use mir.Syntax.{w16}
use mir.Facts.{to_z-of_z, to_z_pos}
use Rattle.std.proofs.lemmas.List.Edits.{map_over_more}
use Rattle.base.proofs.Back.{by_value}
use Rattle.edit.specs.Storage.{lowered}
use Rattle.edit_renumber.proofs.indices.lower_above.Goals as goal

pub loop-z-preserved : goal.loop-z-preserved
loop-z-preserved c =
    let f = lowered c.args.index in
    let z : ℤ = get_or c.loop-z.indices c.loop-z.z-index (pos 0) in
    let e : c.lower_one.result ≡ f z = by_value {w = w16} f (search rules) (c.lower_one.ensures _ (to_z_pos w16 (omega arith))) in
    rw (to_z-of_z (record { sfits = c.lower_one.type_inv }), e)
    (map_over_more f c.args.indices.now c.loop-z.indices c.loop-z.z-index z c.loop-z-test.true c.loop-z.invariant (search rules))
