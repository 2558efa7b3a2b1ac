-- `paste_in`: its checks; then the list, left in the scratch, and the selection. Assumes nothing.
use mathlib.Core.Path.{◌≡◌, sym, ◌∙◌}
use lib.ListN.{length}
use mir.Facts.{to_z-of_z}
use Rattle.base.specs.Checks.{first_of}
use Rattle.sheet.specs.Sheet.{sheet_of}
use Rattle.change_list.proofs.Fronts.{front-within}
use Rattle.tool_paste_model.specs.Pasting.{paste_checks}
use Rattle.tool_paste_model.proofs.Answers.{shifted_in}
use Rattle.tool_paste_model.proofs.Clips.{paste-pastable, paste-near, paste-refused, paste-done}
use Rattle.change_list.proofs.InScratch.{scratch-none}
use borrow.Author.Rules.{rules}
use Rattle.tool_paste.proofs.paste_in.Goals as goal
use Rattle.tool_paste.proofs.paste_in.Goals.{After-paste_no-no}

number : (c : After-paste_no-no) → c.paste_no-no.result ≡ first_of (paste_checks (sheet_of c.args.w c.args.h c.args.k c.args.palette.now c.args.lab.now c.args.indices.now) c.args.clip_w c.args.clip_h c.args.clip.now c.args.x c.args.y (length c.args.scratch.now))
number c = rw (to_z-of_z c.ranges.x, to_z-of_z c.ranges.y) at c.paste_no-no.ensures

pub returns-then-no-ne0 : goal.returns-then-no-ne0
returns-then-no-ne0 c = record { fact = scratch-none (λ out e. paste-refused _ _ _ _ _ _ _ out (number (goal.at.returns-then-no-ne0 c).After-paste_no-no) c.if-no-ne0.true); scratch_after = search rules }

pub list_paste-n-requires : goal.list_paste-n-requires
list_paste-n-requires c = rw (to_z-of_z c.ranges.x, to_z-of_z c.ranges.y) (paste-pastable _ _ _ _ _ _ _ (sym (number (goal.at.list_paste-n-requires c).After-paste_no-no) ∙ c.if-no-ne0.false))

pub pasted_selection-requires : goal.pasted_selection-requires
pasted_selection-requires c = rw (to_z-of_z c.ranges.x, to_z-of_z c.ranges.y) (paste-near _ _ _ _ _ _ _ (sym (number (goal.at.pasted_selection-requires c).After-paste_no-no) ∙ c.if-no-ne0.false))

pub returns : goal.returns
returns c =
    let f = rw (to_z-of_z c.ranges.x, to_z-of_z c.ranges.y) at c.list_paste-n.ensures in
    let sel = rw (to_z-of_z c.ranges.x, to_z-of_z c.ranges.y) at c.pasted_selection.ensures in
    record { fact = shifted_in _ (c.counted.ensures _ (front-within f)) c.shifted_of.ensures (λ out after d. paste-done _ _ _ _ _ _ _ out (sym (number (goal.at.returns c).After-paste_no-no) ∙ c.if-no-ne0.false) f d sel c.shifted_of.ensures); scratch_after = search rules }
