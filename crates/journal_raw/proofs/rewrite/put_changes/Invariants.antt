-- `rewrite::put_changes`: each turn writes one change more. Assumes nothing.
use Rattle.journal_raw.proofs.Rewriting.{Put}
use Rattle.journal_raw.specs.Raw.{other}
use Rattle.journal_record.specs.Record.{change_bytes, changes_in}
use mathlib.Core.List.{flat_map}
use Rattle.journal_raw.proofs.rewrite.put_changes.Given as goal

abbrev pub invariant-loop-i : goal.invariant-loop-i
invariant-loop-i l = Put l.initial.out l.to (flat_map (change_bytes (other l.form) l.w) (changes_in l.form l.w l.bytes l.at l.i)) l.out
