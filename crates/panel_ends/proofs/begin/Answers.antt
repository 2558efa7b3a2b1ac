-- `begin`: nothing is open. Assumes nothing.
use Rattle.panel_open.specs.Memory.{panel_in}
use mathlib.Core.Path.{refl}
use native.Mathlib.Omega.{arith}
use Rattle.panel_ends.proofs.begin.Goals as goal

pub returns : goal.returns
unfolding panel_in
returns c = record { unopened = λ palette lab indices locks journal. refl; nothing-held = refl; small = omega arith }
