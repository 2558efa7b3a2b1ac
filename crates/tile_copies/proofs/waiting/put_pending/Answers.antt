-- `put_pending`: by the test. Assumes nothing.
use native.Mathlib.Nat.{mod-lt, div-lt_iff_lt-mul}
use Prim.Native.Nat.{◌+◌, ◌*◌, ◌/◌, ◌%◌, ◌<◌}
use lib.IntN.{pos}
use native.Mathlib.Omega.{arith}
use mathlib.Core.Path.{◌≡◌, refl}
use mir.Syntax.{w16}
use lib.ListN.{get_or}
use mir.Val.{of_z}
use Rattle.tile_copies.specs.Pending.{old_in}
use Rattle.change_list.proofs.Fronts.{put-none}
use Rattle.tile_copies.proofs.Emitting.{emitted-some, emitted-none}
use Rattle.base.proofs.Back.{back}
use borrow.Author.Rules.{rules}
use Rattle.tile_copies.proofs.waiting.put_pending.Goals as goal
use Rattle.tile_copies.proofs.waiting.put_pending.Goals.{After-old_in-old, Start}

row : (c : Start) → c.args.p / c.args.w < 1024
row c = (div-lt_iff_lt-mul c.requires.0).1 c.requires.5

column : (c : Start) → c.args.p % c.args.w < 1024
column c = omega (arith, mod-lt c.args.p c.requires.0, c.requires.1)

old : (c : After-old_in-old) → let a = c.args in c.old_in-old.result ≡ old_in (of_z w16 (get_or a.indices.now a.p (pos 0))) (get_or a.s.now a.p 0)
old c = let a = c.args in rw (back w16 (get_or a.indices.now a.p (pos 0)) (search rules)) at c.old_in-old.ensures.0

pub overflow_mul-place : goal.overflow_mul-place
overflow_mul-place c = record { fits = omega (arith, row (goal.at.overflow_mul-place c).Start) }

pub overflow_add-place : goal.overflow_add-place
overflow_add-place c = record { fits = omega (arith, row (goal.at.overflow_add-place c).Start, column (goal.at.overflow_add-place c).Start) }

pub put_change-requires : goal.put_change-requires
put_change-requires c = let p = c.requires in record { m_in_bounds = omega (arith, p.3, p.4); place_bound = (omega (arith, row (goal.at.put_change-requires c).Start, column (goal.at.put_change-requires c).Start), c.old_in-old.ensures.1, c.new_bits.ensures.1) }

pub returns-then-v-eq1 : goal.returns-then-v-eq1
returns-then-v-eq1 c = let a = c.args in rw (c.new_bits.ensures.0, emitted-some a.w a.indices.now a.p (get_or a.s.now a.p 0) (a.p % a.w + a.p / a.w * 65536) c.old_in-old.result c.if-v-eq1.true refl (old (goal.at.returns-then-v-eq1 c).After-old_in-old)) at c.put_change.ensures

pub returns : goal.returns
returns c = rw (← emitted-none _ _ _ _ c.if-v-eq1.false) (put-none _ _)
