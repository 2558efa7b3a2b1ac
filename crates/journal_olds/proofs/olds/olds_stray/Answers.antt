-- `olds_stray`: where no old is stray nothing is to be done; else the places are claimed, judged and released. Assumes nothing.
use mathlib.Core.Path.{refl, sym, ◌∙◌}
use Rattle.edit.specs.Change.{old_of}
use Rattle.sheet.specs.Sheet.{stray}
use Rattle.edit.proofs.Painting.{painted-nowhere}
use Rattle.journal_olds.proofs.olds.olds_stray.Goals as goal

pub returns-then-not-any_stray_old_in : goal.returns-then-not-any_stray_old_in
returns-then-not-any_stray_old_in c = record { indices_unchanged = refl; value = sym (painted-nowhere old_of _ (stray _) _ _ c.requires.indices_value (sym (c.any_stray_old_in.ensures _) ∙ c.if-not-any_stray_old_in.true)) }
