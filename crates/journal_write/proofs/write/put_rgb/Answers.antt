-- `write::put_rgb` meets its contract: three stores in a row. Assumes nothing.
use native.Mathlib.Omega.{arith}
use native.Mathlib.Numerals.{add-one, add-two}
use Rattle.edit.specs.Storage.{bytes_of}
use Rattle.journal_record.proofs.Splice.{splice-sets}
use Rattle.journal_write.proofs.write.put_rgb.Goals as goal

pub returns : goal.returns
returns c = rw (add-one, add-two) (splice-sets (bytes_of c.args.c) c.args.part.now c.args.at (omega arith))
