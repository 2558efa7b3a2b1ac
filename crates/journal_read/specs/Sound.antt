-- When undo and redo take a record: document 01, "Journal", and document 02, E5. Definitions only. Assumes nothing.
use Rattle.std.specs.Prelude.{Bool, false, ◌&&◌, List, [], leb, eqb, length}
use Rattle.base.specs.Limits.{max_changes}
use Rattle.base.specs.Checks.{first_of}
use Rattle.sheet.specs.Sheet.{Sheet}
use Rattle.sheet.specs.Checks.{sheet_checks}
use Rattle.base.specs.declared.Edit.{Edit}
use Rattle.edit.specs.Change.{Change}
use Rattle.edit.specs.Checks.{Permitted, permitted_of, own_checks}
use Rattle.edit.specs.Apply.{reverted, can_revert}
use Rattle.edit.specs.Locks.{bears}

-- "undo passes `can_revert` and ends in a well-formed sheet (1 to 3)"; "undo does not look at locks, save that `can_revert` of kind 5 asks for an index
-- below k bearing the new mark"
unfoldable pub undoable : Sheet → List Bool → Edit → List Change → Bool
undoable s locks e cs = can_revert s e cs && (bears locks e && eqb (first_of (sheet_checks [] (reverted s e cs))) 0)

-- "redo passes push's checks except 10": its own, with no list of permitted colours, and 21
abbrev pub any_colour : Permitted
any_colour = permitted_of false []

unfoldable pub redoable : Sheet → List Bool → Edit → List Change → Bool
redoable s locks e cs = leb (length cs) max_changes && eqb (first_of (own_checks false s locks any_colour e cs)) 0
