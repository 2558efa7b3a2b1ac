-- `compare`: the tests are the definition's. Assumes nothing.
use Rattle.base.proofs.Back.{lt_z-back}
use Rattle.tile_least.specs.Least.{compared_z}
use Rattle.tile_least.proofs.least.compare.Goals as goal

pub returns-then-a-b : goal.returns-then-a-b
unfolding compared_z
returns-then-a-b c = rw (lt_z-back c.ranges.a c.ranges.b c.if-a-b.true)

pub returns-then-b-a : goal.returns-then-b-a
unfolding compared_z
returns-then-b-a c =
    let f = c.ranges in
    rw (lt_z-back f.a f.b c.if-a-b.false, lt_z-back f.b f.a c.if-b-a.true)

pub returns-else-b-a : goal.returns-else-b-a
unfolding compared_z
returns-else-b-a c =
    let f = c.ranges in
    rw (lt_z-back f.a f.b c.if-a-b.false, lt_z-back f.b f.a c.if-b-a.false)
