-- `number`: three bytes of text. Assumes nothing.
use Rattle.panel_frames.proofs.Lines.{length-number}
use native.Mathlib.Omega.{arith}
use mathlib.Core.Path.{refl}
use Rattle.panel_open.proofs.text.number.Goals as goal

pub returns : goal.returns
returns c =
    let p = c.put_number-end.ensures in
    record { core_is = refl; out-is = p.out_after; end_is = p.value; short = omega (arith, length-number c.args.no) }
