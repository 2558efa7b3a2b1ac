-- `is_elsewhere`: by the tests. Assumes nothing.
use Prim.Native.Nat.{◌/◌, ◌-◌}
use native.Mathlib.Omega.{arith}
use Rattle.tile_marks.proofs.Landing.{nowhere, several, by_place}
use borrow.Author.Rules.{rules}
use Rattle.tile_marks.proofs.marks.is_elsewhere.Goals as goal

pub returns-then-m-lt2 : goal.returns-then-m-lt2
returns-then-m-lt2 c = nowhere _ _ _ _ c.if-m-lt2.true

pub returns-then-m-eq1 : goal.returns-then-m-eq1
returns-then-m-eq1 c = several _ _ _ _ c.if-m-lt2.false c.if-m-eq1.true

pub place_of-requires : goal.place_of-requires
place_of-requires c = omega (arith, c.requires.1 (c.args.m / 2 - 1) (omega (arith, c.requires.0, c.if-m-lt2.false)))

pub returns : goal.returns
returns c = by_place _ _ _ _ _ c.if-m-lt2.false c.if-m-eq1.false c.place_of.ensures
