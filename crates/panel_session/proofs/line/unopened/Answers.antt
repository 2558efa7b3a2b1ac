-- `unopened`: an opening, or 22. Assumes nothing.
use Rattle.panel_open.proofs.Texts.{told-failed}
use Rattle.panel_session.proofs.Steps.{unopened-call}
use Rattle.panel_frames.specs.Opening.{sheet_in}
use Rattle.panel_calls.specs.Panel.{unopened_of}
use Rattle.panel_frames.specs.Reading.{size_of}
use Rattle.panel_session.proofs.line.unopened.Goals as goal

pub open_sheet-requires : goal.open_sheet-requires
unfolding size_of
open_sheet-requires c =
    record { opened_value = c.requires.opened_value; fits = c.requires.fits; h_in_bounds = (rw c.in-Open.is at c.requires.frame_in_bounds.0, c.requires.frame_in_bounds.1) }

pub returns-in-Open : goal.returns-in-Open
unfolding unopened_of sheet_in
returns-in-Open c =
    rw c.in-Open.is c.open_sheet.ensures

pub returns-in_default : goal.returns-in_default
returns-in_default c =
    let a = c.args in
    told-failed _ _ _ _ _ _ _ _ _ _ _ _ c.number.ensures c.requires.opened_value (unopened-call a.frame a.bytes.now c.in_default.not-Open) c.requires.fits.small
