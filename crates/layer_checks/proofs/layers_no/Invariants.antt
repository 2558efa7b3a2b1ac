-- `layers_no`: the first i are well-formed. Assumes nothing.
use Prim.Native.Nat.{◌*◌}
use Rattle.layer_checks.proofs.Judging.{Rest}
use Rattle.layer_checks.proofs.layers_no.Given as goal

abbrev pub invariant-loop-i : goal.invariant-loop-i
invariant-loop-i l = Rest l.sizes l.palettes l.labs l.indices (3 * l.i) (765 * l.i) l.at
