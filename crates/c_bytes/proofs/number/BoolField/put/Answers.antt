-- A mark is written as one byte. Assumes nothing.
use mathlib.Core.List.{[], ◌∷◌}
use Rattle.journal_record.proofs.Splice.{splice-sets}
use Rattle.c_bytes.proofs.number.BoolField.put.Goals as goal

pub returns : goal.returns
returns c = rw (← c.mark_byte.ensures) (splice-sets (c.mark_byte.result ∷ []) c.args.dst.now c.args.at c.requires)
