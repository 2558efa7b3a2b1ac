-- `put_line`: head, indices, newline. Assumes nothing.
use Rattle.panel_frames.proofs.Lines.{length-line, line-written}
use mathlib.Core.Path.{refl}
use native.Mathlib.Omega.{arith}
use Rattle.panel_frames.proofs.line.put_line.Goals as goal

pub returns : goal.returns
returns c =
    let a = c.args in
    record {
      out_after = line-written a.answer a.position a.dirty a.k a.indices.now a.out.now _ _ _ a.at _ c.requires refl c.put_head.ensures c.put_indices.ensures c.put_newline.ensures;
      value = omega (arith, length-line a.answer a.position a.dirty a.k a.indices.now);
    }
