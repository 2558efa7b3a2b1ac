-- `write::put_kind` meets its contract: two stores in a row. Assumes nothing.
use native.Mathlib.Omega.{arith}
use mathlib.Core.List.{[], ◌∷◌}
use Rattle.journal_record.specs.Bytes.{splice}
use Rattle.journal_record.proofs.Splice.{splice-sets}
use Rattle.journal_write.proofs.write.put_kind.Goals as goal

pub returns : goal.returns
unfolding splice
returns c = splice-sets (c.args.kind ∷ c.args.second ∷ []) c.args.part.now 0 (omega arith)
