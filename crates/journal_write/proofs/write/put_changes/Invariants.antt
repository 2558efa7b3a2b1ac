-- `write::put_changes` meets its contract: each turn writes one change more. Assumes nothing.
use mathlib.Core.List.{map}
use Rattle.edit.specs.Change.{unpacked}
use Rattle.journal_write.proofs.Putting.{Putting}
use Rattle.journal_write.proofs.write.put_changes.Given as goal

abbrev pub invariant-loop-i : goal.invariant-loop-i
invariant-loop-i l = Putting l.form l.w l.initial.part l.at (map unpacked l.list) l.part l.i
