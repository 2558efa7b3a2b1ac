-- `touching`: from what lies behind the brush's middle before the start, to what lies before it past the end. Assumes nothing.
use mathlib.Core.Path.{sym, ◌∙◌}
use Prim.Native.Nat.{◌-◌, ◌/◌}
use borrow.Author.Rules.{rules}
use lib.IntN.{pos, ◌-ℤ◌}
use mir.Syntax.{w32}
use mir.Val.{SFits}
use mir.Facts.{to_z-of_z}
use Rattle.tool_reach.proofs.Touching.{touches_none, touches-within, low-is, low_fits, low-bound, high_is, high-bound}
use Rattle.tool_reach.proofs.touch.touching.Goals as goal
use Rattle.tool_reach.proofs.touch.touching.Goals.{Else-end-from}

-- the first place, as the code has it
low : (c : Else-end-from) → let a = c.args in SFits w32 (pos a.from -ℤ pos (a.n - 1 - (a.n - 1) / 2))
low c = let p = c.requires in low_fits _ p.1 _ _ p.2 p.3

pub returns-then-end-from : goal.returns-then-end-from
returns-then-end-from c j h = touches_none _ c.requires.1 _ _ _ c.if-end-from.true j

pub overflow_sub-from : goal.overflow_sub-from
overflow_sub-from c = let p = c.requires in rw (low-is _ p.1 _ _ p.2 p.3) (low_fits _ p.1 _ _ p.2 p.3)

pub steps_within-requires : goal.steps_within-requires
steps_within-requires c =
    let p = c.requires in
    rw (to_z-of_z c.ranges.a, to_z-of_z c.ranges.b, low-is _ p.1 _ _ p.2 p.3, to_z-of_z (low c), high_is _ p.1 _ _ p.2 p.3)
    (p.0, low-bound _ p.1 _ _ p.2 p.3, high-bound _ p.1 _ _ p.2 p.3)

pub returns : goal.returns
returns c j h =
    let p = c.requires in
    (rw (to_z-of_z c.ranges.a, to_z-of_z c.ranges.b, low-is _ p.1 _ _ p.2 p.3, to_z-of_z (low (goal.at.returns c).Else-end-from), high_is _ p.1 _ _ p.2 p.3) at
    (c.steps_within.ensures j h))
    ∙ sym (touches-within _ p.1 _ _ _ c.if-end-from.false)
