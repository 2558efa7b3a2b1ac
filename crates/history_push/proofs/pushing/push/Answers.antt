-- `push`: the checks; then the edit is recorded and done. Assumes nothing.
use mathlib.Core.Path.{◌≡◌, sym, ◌∙◌}
use lib.ListN.{length}
use Rattle.color_curve.specs.Curve.{curve_of}
use Rattle.history_model.specs.Document.{document_of}
use Rattle.history_model.specs.Editing.{given_of}
use Rattle.history_model.specs.Calls.{state_of}
use Rattle.history_model.proofs.Answers.{leaves-refused}
use Rattle.history_push_checks.specs.Steps.{push_number}
use Rattle.history_push_checks.proofs.PushSteps.{number_fits}
use Rattle.history_push.proofs.Pushed.{refused-push, push-is}
use borrow.Author.Rules.{rules}
use Rattle.history_push.proofs.pushing.push.Goals as goal
use Rattle.history_push.proofs.pushing.push.Goals.{Else-no-ne0}

-- past the test the call's number is 0
number : (c : Else-no-ne0) → let a = c.args in 0 ≡ push_number c.args.form (curve_of a.loaded a.curve.now) (length c.args.scratch.now) (state_of (document_of a.w a.h a.k a.palette.now a.lab.now a.indices.now a.locks.now) a.journal.now a.handle) (given_of a.limited a.permitted.now a.edit a.list.now)
number c = sym c.if-no-ne0.false ∙ c.push_no-no.ensures.value

pub returns-then-no-ne0 : goal.returns-then-no-ne0
returns-then-no-ne0 c =
    let no = c.push_no-no.ensures in
    record { journal_after = leaves-refused _ _ _ _ _ _ _ _ _ _ _ c.refused.ensures ∙ refused-push _ _ _ _ c.if-no-ne0.true ∙ push-is _ _ _ _ _ _ no.value; scratch_len_unchanged = search rules }

pub carry_out-requires : goal.carry_out-requires
carry_out-requires c = let no = c.push_no-no.ensures in let z = c.if-no-ne0.false in record { standing = no.stands z; acceptable = no.fine z; curve_fits = number_fits _ _ _ _ _ _ no.value z }

pub returns : goal.returns
returns c =
    let a = c.args in
    record { journal_after = c.carry_out.ensures a.limited a.permitted.now ∙ push-is a.form (curve_of a.loaded a.curve.now) (length a.scratch.now) (state_of (document_of a.w a.h a.k a.palette.now a.lab.now a.indices.now a.locks.now) a.journal.now a.handle) (given_of a.limited a.permitted.now a.edit a.list.now) 0 (number (goal.at.returns c).Else-no-ne0); scratch_len_unchanged = search rules }
