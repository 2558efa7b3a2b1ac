-- `enter_all`: the cells below c are entered. Assumes nothing.
use mathlib.Core.Path.{◌≡◌}
use native.Mathlib.Omega.{arith}
use Rattle.tile_classes.proofs.Entering.{entered-all}
use Rattle.tile_classes.proofs.firsts.enter_all.Goals as goal

pub returns : goal.returns
returns c =
    let a = c.args in
    let e : c.loop-c.c ≡ a.n = omega arith in
    entered-all a.w a.h a.t a.indices.now _ c.requires.tiled.1 (rw e at c.loop-c.invariant)
