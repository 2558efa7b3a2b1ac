-- `lowered`: the half step up from where it stands is not below the root. Assumes nothing.
use Prim.Native.Nat.{◌+◌, ◌*◌, ◌≤◌}
use Rattle.color_root.specs.Cubes.{cube, target}
use Rattle.color_root.proofs.cube_root.lowered.Given as goal

abbrev pub invariant-loop-m : goal.invariant-loop-m
invariant-loop-m l = target l.n ≤ cube (2 * l.m + 1)
