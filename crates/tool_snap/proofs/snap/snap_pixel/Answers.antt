-- `snap_pixel`: transparent, or the nearest entry. Assumes nothing.
use mathlib.Core.Path.{ap}
use Prim.Native.Nat.{◌≤◌, ◌<◌, ◌^◌}
use native.Mathlib.Omega.{arith}
use borrow.Author.Rules.{rules}
use borrow.Author.Tests.{lt-ltb, le-ltb, eq-eqb, ne_eqb}
use lib.IntN.{pos}
use mir.Syntax.{w16}
use mir.Facts.{to_z_pos}
use Rattle.tool_snap.specs.Snap.{snapped}
use Rattle.tool_snap.proofs.Slots.{entry-small}
use Rattle.tool_snap.proofs.snap.snap_pixel.Goals as goal
use Rattle.tool_snap.proofs.snap.snap_pixel.Goals.{After-cached}

-- an entry is below 256
small : (c : After-cached) → c.cached.result ≤ 255
small c = omega (arith, entry-small _ _ _ _ c.cached.ensures.0, c.requires.k-small)

pub returns-then-alpha-lt-PASTE_ALPHA : goal.returns-then-alpha-lt-PASTE_ALPHA
unfolding snapped
returns-then-alpha-lt-PASTE_ALPHA c = (rw (lt-ltb _ _ c.if-alpha-lt-PASTE_ALPHA.true), c.requires.cached)

pub returns-then-k-eq0 : goal.returns-then-k-eq0
unfolding snapped
returns-then-k-eq0 c = (rw (le-ltb _ _ c.if-alpha-lt-PASTE_ALPHA.false, eq-eqb _ _ c.if-k-eq0.true), c.requires.cached)

pub overflow_cast-result : goal.overflow_cast-result
overflow_cast-result c = omega (arith, small c)

pub returns : goal.returns
unfolding snapped
returns c =
    let fits : c.cached.result < 2 ^ 15 = omega (arith, small c) in
    (rw (to_z_pos w16 fits, le-ltb _ _ c.if-alpha-lt-PASTE_ALPHA.false, ne_eqb _ _ c.if-k-eq0.false) (ap pos c.cached.ensures.0), c.cached.ensures.1)
