-- `change_at`: three numbers of two bytes, put together. Assumes nothing.
use Rattle.panel_frames.proofs.Changes.{put-together}
use Rattle.panel_frames.specs.Reading.{change_at}
use native.Mathlib.Omega.{arith}
use Prim.Native.Nat.{◌+◌}
use mathlib.Core.Path.{◌≡◌, ◌∙◌}
use Rattle.panel_frames.proofs.carry.change_at.Goals as goal

pub returns : goal.returns
unfolding change_at
returns c =
    let i = c.args.i in
    let e : i + 2 + 1 ≡ i + 3 = omega arith in
    let f : i + 4 + 1 ≡ i + 5 = omega arith in
    put-together _ _ _ (omega arith) (omega arith) (omega arith)
    ∙ rw (c.from-x.ensures, c.two.ensures, c.from-y.ensures, c.two-2.ensures, c.from-new.ensures, c.two-3.ensures, e, f)
