-- `put_newline`: one store is a run of one. Assumes nothing.
use Rattle.journal_record.proofs.Splice.{splice-sets}
use mathlib.Core.List.{◌∷◌, []}
use native.Mathlib.Omega.{arith}
use Rattle.panel_frames.proofs.line.put_newline.Goals as goal

pub returns : goal.returns
returns c = splice-sets (10 ∷ []) c.args.out.now c.args.at (omega arith)
