-- `write::put_filled` meets its contract: each turn fills in and writes one change more. Assumes nothing.
use mathlib.Core.List.{map}
use Rattle.edit.specs.Change.{unpacked, filled_in}
use Rattle.journal_write.proofs.Putting.{Putting}
use Rattle.journal_write.proofs.write.put_filled.Given as goal

abbrev pub invariant-loop-i : goal.invariant-loop-i
invariant-loop-i l = Putting l.form l.w l.initial.part l.at (map (filled_in l.w l.indices) (map unpacked l.list)) l.part l.i
