-- `rank`: i numbers so far. Assumes nothing.
use mathlib.Core.Path.{◌∙◌}
use native.Mathlib.Omega.{arith}
use Rattle.tile_classes.specs.Ranks.{key_at}
use Rattle.tile_classes.proofs.Ranks.{below_none, below-le, class-next, ranked-none, ranked-next}
use Rattle.tile_classes.proofs.ranking.rank.Goals as goal

pub loop-i-init : goal.loop-i-init
loop-i-init c = (below_none _, ranked-none _ _)

pub overflow_add-class : goal.overflow_add-class
overflow_add-class c =
    omega (
      arith,
      below-le (key_at c.args.n c.args.s.now)
          c.loop-i.i,
    )

pub with_class-v-requires : goal.with_class-v-requires
with_class-v-requires c =
    omega (
      arith,
      below-le (key_at c.args.n
          c.args.s.now) c.loop-i.i,
    )

pub loop-i-preserved : goal.loop-i-preserved
loop-i-preserved c =
    let v = c.loop-i.invariant in
    let k = class-next _ _ c.requires.0 v.1 v.0
    c.fresh-class.ensures.0 in (
      k,
      ranked-next _ _ c.requires.0 _ v.1
          c.loop-i-test.true c.cell_in-c.ensures.0 (c.with_class-v.ensures.0 ∙ k)
          c.with_class-v.ensures.1,
    )
