-- `class_by`: no part of the sum is larger than it. Assumes nothing.
use Prim.Native.Nat.{◌+◌, ◌*◌, ◌/◌, ◌%◌, ◌≤◌, ◌<◌, ◌^◌}
use native.Mathlib.Omega.{arith}
use native.Mathlib.Nat.{mod-lt, le-div_iff_mul-le}
use mathlib.Core.Path.{◌≡◌}
use Rattle.tile_marks.proofs.Spreading.{times_more}
use Rattle.tile_marks.specs.Marks.{class_by}
use Rattle.tile_marks.specs.Cell.{row_in, column_in}
use borrow.Author.Rules.{rules}
use Rattle.tile_marks.proofs.classes.class_by.Goals as goal
use Rattle.tile_marks.proofs.classes.class_by.Goals.{After-turn-x, Start}

some-columns : (c : Start) → 0 < c.args.w / c.args.t
some-columns c = (le-div_iff_mul-le c.requires.0).1 (let h = c.requires.1 in omega arith)

-- the sum
whole : (c : After-turn-x) → let a = c.args in (a.code / 4 / (a.w / a.t) * a.t + c.turn-y.result) * a.w + (a.code / 4 % (a.w / a.t) * a.t + c.turn-x.result) ≡ class_by a.w a.t a.code a.p
unfolding class_by row_in column_in
whole c = rw (c.turn-y.ensures.0, c.flips_v.ensures, c.turn-x.ensures.0, c.flips_h.ensures)

small : (c : After-turn-x) → let a = c.args in (a.code / 4 / (a.w / a.t) * a.t + c.turn-y.result) * a.w + (a.code / 4 % (a.w / a.t) * a.t + c.turn-x.result) < 2 ^ 20
small c = rw (whole c) c.requires.2

rows : (c : After-turn-x) → let a = c.args in a.code / 4 / (a.w / a.t) * a.t + c.turn-y.result ≤ (a.code / 4 / (a.w / a.t) * a.t + c.turn-y.result) * a.w
rows c = let a = c.args in times_more (a.code / 4 / (a.w / a.t) * a.t + c.turn-y.result) a.w (let p = c.requires.0 in let q = c.requires.1 in omega arith)

pub turn-y-requires : goal.turn-y-requires
turn-y-requires c = mod-lt (c.args.p / c.args.w) c.requires.0

pub turn-x-requires : goal.turn-x-requires
turn-x-requires c = mod-lt (c.args.p % c.args.w) c.requires.0

pub nonzero_div-result : goal.nonzero_div-result
nonzero_div-result c = some-columns (goal.at.nonzero_div-result c).Start

pub overflow_mul-result : goal.overflow_mul-result
overflow_mul-result c = record { fits = omega (arith, small c, rows c) }

pub overflow_add-result : goal.overflow_add-result
overflow_add-result c = record { fits = omega (arith, small c, rows c) }

pub overflow_mul-result-2 : goal.overflow_mul-result-2
overflow_mul-result-2 c = record { fits = omega (arith, small c) }

pub nonzero_rem-result : goal.nonzero_rem-result
nonzero_rem-result c = some-columns (goal.at.nonzero_rem-result c).Start

pub overflow_mul-result-3 : goal.overflow_mul-result-3
overflow_mul-result-3 c = record { fits = omega (arith, small c) }

pub overflow_add-result-2 : goal.overflow_add-result-2
overflow_add-result-2 c = record { fits = omega (arith, small c) }

pub overflow_add-result-3 : goal.overflow_add-result-3
overflow_add-result-3 c = record { fits = omega (arith, small c) }

pub returns : goal.returns
returns c = whole c
