-- `push`: the checks, and the edit carried out; palette count and handle are written. Assumes nothing.
use mathlib.Core.Path.{◌∙◌}
use lib.ListN.{length}
use Rattle.color_curve.specs.Curve.{curve_of}
use Rattle.history_model.specs.Document.{document_of}
use Rattle.history_model.specs.Editing.{given_of}
use Rattle.history_model.specs.Calls.{state_of}
use Rattle.history_push_checks.proofs.PushSteps.{number_fits}
use Rattle.history_push.proofs.Pushed.{push-is}
use Rattle.struct_edit.specs.Walk.{packed_all}
use Rattle.struct_push.proofs.recording.push.Goals as goal

pub carry_out-s-requires : goal.carry_out-s-requires
carry_out-s-requires c =
    let no = c.push_no-no.ensures in
    (no.stands, no.fine, λ z. number_fits _ _ _ _ _ _ no.value z)

pub returns : goal.returns
returns c =
    let a = c.args in (
      c.carry_out-s.ensures a.limited a.permitted.now
          ∙ push-is a.form (curve_of a.loaded a.curve.now) (length a.scratch.now) (state_of (document_of a.w a.h a.k.now a.palette.now a.lab.now a.indices.now a.locks.now) a.journal.now a.handle.now) (given_of a.limited a.permitted.now a.edit (packed_all a.list.now)) _ c.push_no-no.ensures.value,
      c.push_no-no.auto.marks,
    )
