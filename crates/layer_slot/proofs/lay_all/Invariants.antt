-- `lay_all`: the pixels of the places before `at`. Assumes nothing.
use Prim.Native.Nat.{◌≤◌}
use Rattle.layer_shown.specs.Stack.{pixel_up_to}
use Rattle.layer_word.proofs.Painted.{Painted}
use Rattle.layer_slot.proofs.lay_all.Given as goal

abbrev pub invariant-loop-at : goal.invariant-loop-at
invariant-loop-at l = (l.at ≤ l.n) × Painted (pixel_up_to l.n l.palettes l.indices l.count) l.initial.out l.out l.at
