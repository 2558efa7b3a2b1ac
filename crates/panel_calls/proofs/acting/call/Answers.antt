-- `call`: the frame's changes are laid to the list, and what it asks is done. Assumes nothing.
use mathlib.Core.Path.{sym, ◌∙◌}
use native.Mathlib.Omega.{arith}
use Rattle.base.specs.declared.Form.TheVariants.{Coordinates}
use Rattle.history_model.specs.Calls.{state_of}
use Rattle.history_model.specs.Document.{document_of}
use Rattle.panel_calls.specs.Panel.{room}
use Rattle.panel_calls.proofs.ActsAlike.{roomy, call-acts}
use Rattle.panel_calls.proofs.acting.call.Goals as goal

pub act-requires : goal.act-requires
act-requires c = roomy c.args.frame _ _ (omega arith) (omega arith) (omega arith)

pub returns : goal.returns
returns c =
    let a = c.args in
    let st = state_of (document_of a.w a.h a.k a.palette.now a.lab.now a.indices.now a.locks.now) a.journal.now a.handle in
    rw c.requires.1 at c.act.ensures ∙ c.lay_changes.ensures.same Coordinates room st ∙ sym (call-acts st a.frame a.bytes.now)
