-- `take_sheet`: part by part. Assumes nothing.
use native.Mathlib.Omega.{arith}
use mathlib.Core.Path.{◌∙◌}
use Rattle.c_bytes.proofs.Copies.{bytes-read}
use Rattle.c_bytes.proofs.read.take_sheet.Goals as goal

pub returns-clause-palette_after : goal.returns-clause-palette_after
returns-clause-palette_after c = c.copy_from_slice.ensures.after ∙ bytes-read c.args.src.now 6 765 (omega (arith, c.requires))
