-- `start`: the cells below c are placed. Assumes nothing.
use mathlib.Core.Path.{◌≡◌}
use native.Mathlib.Omega.{arith}
use Rattle.tile_classes.proofs.Pixels.{told_none}
use Rattle.tile_classes.proofs.rounds.start.Goals as goal

pub returns : goal.returns
returns c =
    let a = c.args in
    let e : c.loop-c.c ≡ a.n = omega (arith, c.loop-c.auto.c-end) in
    told_none a.w a.t a.indices.now a.n (rw e at c.loop-c.invariant) c.requires.2
