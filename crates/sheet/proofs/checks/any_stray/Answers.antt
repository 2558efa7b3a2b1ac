-- `any_stray`: the palette's count as a signed bound. Assumes nothing.
use mathlib.Core.Path.{◌∙◌}
use Prim.Native.Nat.{◌^◌, ◌<◌}
use native.Mathlib.Omega.{arith}
use mir.Syntax.{w16}
use mir.Val.{hbits}
use mir.Facts.{to_z_pos}
use Rattle.sheet.proofs.Strays.{some-stray}
use Rattle.sheet.proofs.checks.any_stray.Goals as goal
use Rattle.sheet.proofs.checks.any_stray.Goals.{After-any_stray_below}

small : (c : After-any_stray_below) → c.args.k < 2 ^ hbits w16
small c = omega arith

pub returns : goal.returns
returns c = (rw (to_z_pos w16 (small c)) at c.any_stray_below.ensures) ∙ some-stray _ _
