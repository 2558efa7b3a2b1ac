-- `put_byte`: two stores are a run of two. Assumes nothing.
use Rattle.journal_record.proofs.Splice.{splice-sets}
use Rattle.panel_hex.specs.Hex.{hex_byte}
use native.Mathlib.Numerals.{add-one}
use native.Mathlib.Omega.{arith}
use Rattle.panel_hex.proofs.put_byte.Goals as goal

pub returns : goal.returns
unfolding hex_byte
returns c =
    rw (c.upper-high.ensures, c.upper-low.ensures, add-one) (splice-sets (hex_byte c.args.b) c.args.out.now c.args.at (omega arith))
