-- `check_marked`: the marks' number, then `check`. Assumes nothing.
use Rattle.sheet.proofs.Marks.{marked-short, marked-sheet}
use Rattle.sheet.proofs.checks.check_marked.Goals as goal

pub returns-then-locks-ne-MAX_ENTRIES : goal.returns-then-locks-ne-MAX_ENTRIES
returns-then-locks-ne-MAX_ENTRIES c = marked-short _ _ c.if-locks-ne-MAX_ENTRIES.true

pub returns : goal.returns
returns c = marked-sheet _ _ c.if-locks-ne-MAX_ENTRIES.false _ c.check.ensures
