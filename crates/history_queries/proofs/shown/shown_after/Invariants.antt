-- `shown_after`: what is left to step says what the whole says. Assumes nothing.
use mathlib.Core.Path.{◌≡◌}
use Prim.Native.Nat.{◌-◌}
use Rattle.history_queries.specs.Looks.{shown_after}
use Rattle.history_queries.proofs.shown.shown_after.Given as goal

abbrev pub invariant-loop : goal.invariant-loop
invariant-loop l = shown_after l.form l.journal (l.n - l.counter) l.cursor ≡ shown_after l.form l.journal l.n l.fn.handle
