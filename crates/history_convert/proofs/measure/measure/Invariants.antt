-- `measure::measure`: what is left says what the whole says, added to what was measured. Assumes nothing.
use Rattle.journal_raw.specs.Raw.{other}
use Rattle.history_convert.proofs.Measuring.{Measuring}
use Rattle.history_convert.proofs.measure.measure.Given as goal

abbrev pub invariant-loop : goal.invariant-loop
invariant-loop l = Measuring l.form (other l.form) l.w l.h l.bytes l.n l.at l.size l.counter
