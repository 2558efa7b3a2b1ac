-- `act`: what is asked is done. Assumes nothing.
use Rattle.history_model.proofs.Answers.{leaves-refused}
use Rattle.panel_model.specs.Asks.{answered, Listed}
use Rattle.panel_model.proofs.Marking.{leaves-marked}
use mathlib.Core.Path.{sym, ◌∙◌}
use lib.ListN.{length}
use lib.Seq.{length-take-le}
use Rattle.panel_act.proofs.acting.act.Goals as goal

pub slice_bounds-push-end-in-Push-2 : goal.slice_bounds-push-end-in-Push-2
unfolding Listed
slice_bounds-push-end-in-Push-2 c = (rw c.in-Push.is at c.asked-a.ensures).listed

pub slice_bounds-push-end-in-Push-3 : goal.slice_bounds-push-end-in-Push-3
unfolding Listed
slice_bounds-push-end-in-Push-3 c = sym (length-take-le _ _ (rw c.in-Push.is at c.asked-a.ensures).listed)

pub returns-in-Push : goal.returns-in-Push
unfolding answered
returns-in-Push c =
    let s = c.args in
    let asks = rw c.in-Push.is at c.asked-a.ensures in
    c.push.ensures.journal_after
    ∙ asks.answers s.form (length s.scratch.now) s.journal.now s.handle

pub returns-in-Undo : goal.returns-in-Undo
unfolding answered
returns-in-Undo c =
    let s = c.args in
    let asks = rw c.in-Undo.is at c.asked-a.ensures in
    c.undo.ensures
    ∙ asks.answers s.form (length s.scratch.now) s.journal.now s.handle

pub returns-in-Redo : goal.returns-in-Redo
unfolding answered
returns-in-Redo c =
    let s = c.args in
    let asks = rw c.in-Redo.is at c.asked-a.ensures in
    c.redo.ensures.journal_after
    ∙ asks.answers s.form (length s.scratch.now) s.journal.now s.handle

pub returns-in-Mark : goal.returns-in-Mark
unfolding answered
returns-in-Mark c =
    let s = c.args in
    let asks = rw c.in-Mark.is at c.asked-a.ensures in
    leaves-marked s.form (length s.scratch.now) c.mark.result _ _ _ _ _ _ _ _ _ c.mark.ensures
    ∙ asks.answers s.form (length s.scratch.now) s.journal.now s.handle

pub returns-in-Refused : goal.returns-in-Refused
unfolding answered
returns-in-Refused c =
    let s = c.args in
    let asks = rw c.in-Refused.is at c.asked-a.ensures in
    leaves-refused _ _ _ _ _ _ _ _ _ _ _ c.refused.ensures
    ∙ asks.answers s.form (length s.scratch.now) s.journal.now s.handle
