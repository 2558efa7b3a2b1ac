-- `put_sheet`: head, colours, indices, newline. Assumes nothing.
use Prim.Native.Nat.{◌*◌}
use native.Mathlib.Omega.{arith}
use lib.ListN.{take}
use lib.Seq.{length-take-le}
use Rattle.panel_spell.proofs.Written.{length-line, line-written}
use Rattle.panel_spell.proofs.put_sheet.Goals as goal

pub returns : goal.returns
returns c =
    let a = c.args in
    let long = length-take-le (3 * a.k) a.palette.now c.requires.k_bound.1 in (
      line-written a.w a.h a.k (take (3 * a.k) a.palette.now) a.indices.now long a.text.now _ _ _ _ _ _ (omega arith) (omega arith)
          c.put_open.ensures c.put_bytes.ensures c.put_indices.ensures c.put_newline.ensures,
      omega (arith, length-line a.w a.h a.k (take (3 * a.k) a.palette.now) a.indices.now long),
    )
