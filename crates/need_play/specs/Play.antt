-- A line played on a history: document 02, E11. Definitions only. Assumes nothing.
use Rattle.std.specs.Prelude.{ℕ, List}
use Rattle.base.specs.declared.Form.{Form}
use Rattle.history_ledger.specs.Calls.{Outcome}
use Rattle.history_ledger.specs.Journal.{State}
use Rattle.history_model.specs.Document.{Document}
use Rattle.panel_frames.specs.Reading.{frame_of}
use Rattle.panel_model.specs.Acts.{changes_in, actBy}

unfoldable pub line_on : Form → ℕ → State Document → List ℕ → Outcome (State Document)
line_on f room st line = actBy f room st (frame_of line).frame (changes_in (frame_of line).frame (frame_of line).bytes)
