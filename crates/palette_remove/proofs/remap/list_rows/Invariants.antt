-- `list_rows`: y rows are listed, n changes. Assumes nothing.
use Rattle.palette_model.proofs.Rows.{Rows}
use Rattle.palette_remove.proofs.remap.list_rows.Given as goal

abbrev pub invariant-loop-y : goal.invariant-loop-y
invariant-loop-y l = Rows l.w l.index l.target l.indices l.initial.list l.list l.n l.y
