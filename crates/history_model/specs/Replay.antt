-- `replay`: "checks 11 and takes LAB from the sheet". Definitions only. Assumes nothing.
use Rattle.std.specs.Prelude.{List, ◌∷◌, ◌++◌, ℕ, ◌*◌, ltb, length, true}
use Rattle.base.specs.Limits.{max_changes}
use Rattle.base.specs.Numbers.{list_too_long, no_space}
use Rattle.base.specs.Checks.{Check, ◌when◌}
use Rattle.base.specs.Answer.{answer_told}
use Rattle.base.specs.declared.Answer.{Answer}
use Rattle.color_curve.specs.Curve.{Curve, lab_by, curve_checks}
use Rattle.sheet.specs.Checks.{permitted_checks}
use Rattle.base.specs.declared.Edit.{Edit}
use Rattle.edit.specs.Change.{Change}
use Rattle.edit.specs.Checks.{Permitted, own_checks}
use Rattle.history_ledger.specs.Calls.{Outcome, done, guarded}
use Rattle.history_model.specs.Document.{Document, document_checks, document_done}

-- 21: "list too long"; 16: "scratch under w × h places", this one of `room`; then "Pixels: per change 5, 6, 11. Set: 7, 11, 10. ..", 24 after 7
unfoldable pub replay_own : ℕ → Document → Permitted → Edit → List Change → List Check
replay_own room d p e cs =
    list_too_long when ltb max_changes (length cs)
    ∷ no_space when ltb room (d.sheet.w * d.sheet.h)
    ∷ own_checks true d.sheet d.locks p e cs

-- 1 of the permitted colours; 1, 2, 3; 25, directly after these since no journal is lent; and these
unfoldable pub replay_checks : Curve → ℕ → Document → Permitted → Edit → List Change → List Check
replay_checks c room d p e cs = permitted_checks p.limited p.colours ++ (document_checks d ++ (curve_checks c ++ replay_own room d p e cs))

abbrev pub replayed : Answer → Document → Outcome Document
replayed answer d = record { answer = answer_told answer; leaves = d }

-- the edit done as `redo` does it; an empty list of pixels is done too
unfoldable pub replay_of : Curve → ℕ → Document → Permitted → Edit → List Change → Outcome Document
replay_of c room d p e cs = guarded d (replay_checks c room d p e cs) (done (document_done (lab_by c) d e cs))
