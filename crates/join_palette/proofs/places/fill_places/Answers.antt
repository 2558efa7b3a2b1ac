-- `fill_places`: the table has where the transparent index and the first i entries go. Assumes nothing.
use native.Mathlib.Omega.{arith}
use borrow.Author.Rules.{rules}
use Rattle.join_model.proofs.Placing.{moves-none, moves_more, goes_at}
use Rattle.join_palette.proofs.places.fill_places.Goals as goal

pub loop-i-init : goal.loop-i-init
loop-i-init c = (search rules, moves-none _ _ _ (search rules))

pub loop-i-preserved : goal.loop-i-preserved
loop-i-preserved c =
    (search rules, moves_more _ _ c.loop-i.invariant.1 _ (omega arith) (goes_at _ _ _ _ _ c.rgb_at.ensures c.find.ensures.0 (omega arith)))
