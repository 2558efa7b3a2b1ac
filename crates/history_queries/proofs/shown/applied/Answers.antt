-- `applied`: 1 and 4, the number, then the records from the first byte on. Assumes nothing.
use mathlib.Core.Path.{◌≡◌, sym, ap, ◌∙◌}
use native.Mathlib.Omega.{arith}
use lib.ListN.{length}
use Rattle.base.specs.Checks.{first_of}
use Rattle.history_model.specs.Calls.{handle_checks}
use Rattle.history_queries.specs.Looks.{shown_after}
use Rattle.history_queries.proofs.NextShown.{applied-refused, applied-nothing, applied-after}
use Rattle.history_queries.proofs.shown.applied.Goals as goal
use Rattle.history_queries.proofs.shown.applied.Goals.{Else-no-ne0}

-- past the first test the handle is sound
fine : (c : Else-no-ne0) → let a = c.args in first_of (handle_checks (length a.journal.now) a.handle) ≡ 0
fine c = sym c.handle_no-no.ensures ∙ c.if-no-ne0.false

pub returns-then-no-ne0 : goal.returns-then-no-ne0
returns-then-no-ne0 c = applied-refused _ _ _ _ c.handle_no-no.ensures c.if-no-ne0.true _

pub returns-then-handle-number : goal.returns-then-handle-number
returns-then-handle-number c = applied-nothing _ _ _ (fine (goal.at.returns-then-handle-number c).Else-no-ne0) _ c.if-handle-number.true

pub returns : goal.returns
returns c =
    c.shown_after.ensures
    ∙ ap (shown_after _ _ _) c.rewound.ensures
    ∙ applied-after _ _ _ (fine (goal.at.returns c).Else-no-ne0) _ (omega (arith, c.if-handle-number.false))
