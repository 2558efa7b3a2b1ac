-- The least journal of a session, from the ledger's law over any algebra. Assumes nothing.
use mathlib.Core.Path.{refl, sym}
use mathlib.Core.Bool.{false}
use mathlib.Core.List.{[]}
use Rattle.color_curve.specs.Curve.{srgb, CurveFits}
use Rattle.color_curve.proofs.Sessions.{srgb-number}
use Rattle.sheet.specs.Sheet.{view}
use Rattle.history_ledger.proofs.Script.{least-journal, highest-is-least}
use Rattle.history_model.specs.Editing.{editing_by}
use Rattle.history_model.specs.Handed.{sheet_by}
use Rattle.history_model.proofs.Keeps.{keeps}
use Rattle.history_model.proofs.Demand3.{handed-fits}
use Rattle.panel_lines.specs.Lines.{lines_of}
use Rattle.need_model.specs.Asked.{script_of}
use Rattle.need_model.specs.Least.{LeastNeed}
use Rattle.need_model.proofs.Typed.{script-typed}

pub srgb-fits : CurveFits srgb
srgb-fits = sym (srgb-number false [] refl)

pub least-need : LeastNeed
unfolding view
least-need =
    record {
      enough =
          λ f lent passes text journal b scratch r n.
          (least-journal (editing_by f srgb) (keeps f srgb srgb-fits) (sheet_by lent) (handed-fits f srgb lent passes) scratch r (script_of (lines_of text)) (script-typed f (lines_of text)) journal b).0 n;
      too_short =
          λ f lent passes text journal b scratch r n.
          (least-journal (editing_by f srgb) (keeps f srgb srgb-fits) (sheet_by lent) (handed-fits f srgb lent passes) scratch r (script_of (lines_of text)) (script-typed f (lines_of text)) journal b).1 n;
      counted =
          λ f lent passes text journal b scratch r n.
          highest-is-least (editing_by f srgb) (keeps f srgb srgb-fits) (sheet_by lent) (handed-fits f srgb lent passes) scratch r (script_of (lines_of text)) (script-typed f (lines_of text)) journal b n;
    }
