-- A sheet and the lock marks of its entries (document 02, E5): what a call on a history is lent, and what the ledger has a picture of. Definitions only.
-- Assumes nothing.
use Rattle.std.specs.Prelude.{Bool, not, List, ◌∷◌, ℕ, eqb, ℤ, Float, length, take}
use Rattle.base.specs.Numbers.{bad_sheet}
use Rattle.base.specs.Checks.{Check, ◌when◌}
use Rattle.base.specs.declared.Rgb.{Rgb}
use Rattle.base.specs.declared.Lab.{Lab}
use Rattle.base.specs.declared.Edit.{Edit}
use Rattle.sheet.specs.Sheet.{Sheet, Picture, sheet_of, view}
use Rattle.sheet.specs.Checks.{mark_checks, sheet_checks}
use Rattle.edit.specs.Change.{Change}
use Rattle.edit.specs.Locks.{locks_done, locks_back, next_locks}
use Rattle.edit.specs.Apply.{restDone, redone, reverted, nextPicture}

pub record Document : Type 0 where
  pub sheet : Sheet
  pub locks : List Bool

abbrev pub document_of : ℕ → ℕ → ℕ → List ℕ → List Float → List ℤ → List Bool → Document
document_of w h k palette lab indices locks = record { sheet = sheet_of w h k palette lab indices; locks = locks }

-- 1 to 3, a mark for each of the 255 entries among 1's
abbrev pub document_checks : Document → List Check
document_checks d = sheet_checks (mark_checks d.locks) d.sheet

-- "A ledger picture includes the marks"
pub record Shown : Type 0 where
  pub picture : Picture
  pub locks : List Bool

abbrev pub shown : Document → Shown
shown d = record { picture = view d.sheet; locks = take d.sheet.k d.locks }

-- ---- an edit done but for its list, which is painted already; done, undone, and entered in the ledger
abbrev pub document_rest : (Rgb → Lab) → Document → Edit → Document
document_rest curve d e = record { sheet = restDone curve d.sheet e; locks = locks_done d.sheet.k d.locks e }

abbrev pub document_done : (Rgb → Lab) → Document → Edit → List Change → Document
document_done curve d e cs = record { sheet = redone curve d.sheet e cs; locks = locks_done d.sheet.k d.locks e }

abbrev pub document_back : Document → Edit → List Change → Document
document_back d e cs = record { sheet = reverted d.sheet e cs; locks = locks_back d.sheet.k d.locks e }

abbrev pub next_shown : (Rgb → Lab) → Shown → Edit → List Change → Shown
next_shown curve p e cs = record { picture = nextPicture curve p.picture e cs; locks = next_locks p.locks e }
