-- `write::put_marks` meets its contract: two stores in a row. Assumes nothing.
use native.Mathlib.Omega.{arith}
use native.Mathlib.Numerals.{add-one}
use mathlib.Core.List.{[], ◌∷◌}
use Rattle.journal_record.specs.Record.{mark_byte}
use Rattle.journal_record.proofs.Splice.{splice-sets}
use Rattle.journal_write.proofs.write.put_marks.Goals as goal

pub returns : goal.returns
returns c =
    let a = c.args in
    rw (c.mark_byte.ensures, c.mark_byte-2.ensures, add-one) (splice-sets (mark_byte a.old ∷ mark_byte a.new ∷ []) a.part.now a.at (omega arith))
