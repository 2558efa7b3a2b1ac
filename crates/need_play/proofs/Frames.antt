-- A line, by the frame that it was read as. Assumes nothing.
use mathlib.Core.Path.{◌≡◌, sym, ap, ◌∙◌}
use mathlib.Core.List.{List}
use Prim.Native.Nat.{ℕ}
use Rattle.base.specs.declared.Form.{Form}
use Rattle.history_ledger.specs.Journal.{State}
use Rattle.history_model.specs.Document.{Document}
use Rattle.panel_frames.specs.Reading.{Told, told, frame_of}
use Rattle.panel_frames.specs.declared.Frame.{Frame}
use Rattle.panel_model.specs.Acts.{changes_in, actBy}
use Rattle.panel_model.proofs.Bringing.{brought-take}
use Rattle.need_play.specs.Play.{line_on}

pub line-read : (f : Form) (room : ℕ) (st : State Document) (line : List ℕ) (g : Frame) (l : List ℕ)
    → told g l ≡ frame_of line → actBy f room st g (changes_in g l) ≡ line_on f room st line
unfolding line_on
line-read f room st line g l e =
    ap (actBy f room st g) (sym (brought-take g l)) ∙ ap (λ (t : Told). actBy f room st t.frame (changes_in t.frame t.bytes)) e
