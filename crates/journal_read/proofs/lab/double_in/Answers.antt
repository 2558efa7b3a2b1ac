-- `double_in`: a NaN for a NaN. Assumes nothing.
use mathlib.Core.Path.{ap, ◌∙◌}
use Rattle.journal_read.specs.LabRead.{double_of}
use Rattle.journal_read.proofs.LabBytes.{double-of}
use Rattle.journal_read.proofs.lab.double_in.Goals as goal

pub returns : goal.returns
returns c = c.double_of.ensures ∙ ap double_of c.get_f64.ensures ∙ double-of _ _
