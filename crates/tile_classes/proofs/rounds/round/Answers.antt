-- `round`: numbered, put in order, and ranked. Assumes nothing.
use mathlib.Core.Path.{refl}
use Prim.Native.Nat.{◌+◌, ◌-◌}
use native.Mathlib.Omega.{arith}
use borrow.Rule.Slice.PartMut.{put_mid}
use Rattle.tile_cells.proofs.Corners.{count_small, area}
use Rattle.tile_classes.proofs.Shuffles.{Shuffled, shuffled}
use Rattle.tile_classes.proofs.Pixels.{round-listed, told-next}
use Rattle.tile_classes.proofs.rounds.round.Goals as goal
use Rattle.tile_classes.proofs.rounds.round.Goals.{After-sort}

in_order : (c : After-sort) →
    let n = c.args.n in
    let s = c.number_all.new.s in
    Shuffled n s (put_mid n (n + n - n) s c.sort.new.a)
in_order c =
    shuffled _ _ refl _ _ (omega (
      arith,
      c.requires.told.classed.room,
      c.number_all.ensures.long,
    )) c.sort.ensures c.sort.auto.a

pub rank-requires : goal.rank-requires
rank-requires c =
    let a = c.args in
    let q = c.requires in (
      round-listed a.w a.t a.indices.now q.told c.number_all.ensures
          (in_order (goal.at.rank-requires c).After-sort),
      omega (arith, q.tiled.1, count_small q.tiled.0, area q.tiled.0),
    )

pub returns : goal.returns
returns c =
    let a = c.args in
    let q = c.requires in
    told-next a.w a.t a.indices.now q.told c.number_all.ensures
    (in_order (goal.at.returns c).After-sort) c.rank.ensures
