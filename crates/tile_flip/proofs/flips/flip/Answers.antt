-- `flip`: 17, 16, then the rows of the tile. Assumes nothing.
use Prim.Native.Nat.{◌≤◌}
use native.Mathlib.Nat.{mul-le-mul}
use native.Mathlib.Omega.{arith}
use borrow.Author.Rules.{rules}
use Rattle.tile_cells.proofs.Corners.{alone-lies}
use Rattle.tile_flip.proofs.Answers.{flip-wide, flip-odd, flip-short, flip-done}
use Rattle.tile_flip.proofs.flips.flip.Goals as goal

pub returns-then-t-gt-MAX_SIDE : goal.returns-then-t-gt-MAX_SIDE
returns-then-t-gt-MAX_SIDE c = flip-wide _ _ _ _ _ c.if-t-gt-MAX_SIDE.true

pub overflow_mul-t : goal.overflow_mul-t
overflow_mul-t c = let a : c.args.t ≤ 1024 = c.if-t-gt-MAX_SIDE.false in omega (arith, mul-le-mul a a)

pub returns-then-tile-t : goal.returns-then-tile-t
returns-then-tile-t c = flip-odd _ _ _ _ _ c.if-t-gt-MAX_SIDE.false c.if-tile-t.true

pub overflow_mul-t-2 : goal.overflow_mul-t-2
overflow_mul-t-2 c = let a : c.args.t ≤ 1024 = c.if-t-gt-MAX_SIDE.false in omega (arith, mul-le-mul a a)

pub returns-then-out-t : goal.returns-then-out-t
returns-then-out-t c = flip-short _ _ _ _ _ c.if-t-gt-MAX_SIDE.false c.if-tile-t.false c.if-out-t.true

pub copy_tile-requires : goal.copy_tile-requires
copy_tile-requires c = let a = c.args in (rw c.if-tile-t.false (alone-lies a.t), c.if-out-t.false)

pub overflow_mul-result : goal.overflow_mul-result
overflow_mul-result c = let a : c.args.t ≤ 1024 = c.if-t-gt-MAX_SIDE.false in omega (arith, mul-le-mul a a)

pub returns : goal.returns
returns c = flip-done _ _ _ _ _ c.if-t-gt-MAX_SIDE.false c.if-tile-t.false c.if-out-t.false c.copy_tile.ensures
