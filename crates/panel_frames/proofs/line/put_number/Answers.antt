-- `put_number`: two digits and the newline. Assumes nothing.
use native.Mathlib.Omega.{arith}
use Rattle.panel_frames.proofs.Lines.{length-number, number-written}
use Rattle.panel_frames.proofs.line.put_number.Goals as goal

pub returns : goal.returns
returns c =
    let n = c.args.n in
    record {
      out_after = number-written n _ _ _ _ c.requires c.put_byte.ensures c.put_newline.ensures;
      value = omega (arith, length-number n);
    }
