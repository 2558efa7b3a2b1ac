-- `top_word`: those above layer i show nothing there. Assumes nothing.
use mathlib.Core.Path.{◌≡◌}
use Rattle.layer_shown.specs.Stack.{pixel_up_to}
use Rattle.layer_top.proofs.top_word.Given as goal

abbrev pub invariant-loop-i : goal.invariant-loop-i
invariant-loop-i l = pixel_up_to l.n l.palettes l.indices l.i l.p ≡ pixel_up_to l.n l.palettes l.indices l.count l.p
