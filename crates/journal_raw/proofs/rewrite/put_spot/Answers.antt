-- `rewrite::put_spot`: column and row, and then old and new. Assumes nothing.
use Rattle.journal_raw.proofs.Rewriting.{put-as-spot}
use native.Mathlib.Omega.{arith}
use Rattle.journal_raw.proofs.rewrite.put_spot.Goals as goal

pub returns : goal.returns
returns c =
    put-as-spot _ _ _ c.args.out.now _ _ c.args.to (omega arith) _ _ _ c.requires.w_nonzero.0 c.requires.w_nonzero.1 c.get_u16-old.ensures.1 c.get_u16-new.ensures.1
    c.get_u24-place.ensures.0 c.get_u16-old.ensures.0 c.get_u16-new.ensures.0 c.put_u32.ensures c.put_u32-2.ensures
