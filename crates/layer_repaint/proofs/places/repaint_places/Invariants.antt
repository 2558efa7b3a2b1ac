-- `repaint_places`: the places before this one are as they have to be, and the others as they were. Assumes nothing.
use Prim.Native.Nat.{◌≤◌}
use lib.ListN.{length}
use Rattle.layer_shown.specs.Stack.{pixel_up_to}
use Rattle.layer_word.proofs.Painted.{Painted}
use Rattle.layer_repaint.specs.Places.{view_of, place_of}
use Rattle.layer_repaint.proofs.places.repaint_places.Given as goal

abbrev pub invariant-loop-start : goal.invariant-loop-start
invariant-loop-start l =
    let pixel = pixel_up_to (length l.before) l.palettes l.indices l.count in
    (l.start ≤ length l.before)
    × Painted (place_of pixel (view_of l.palette l.before) (view_of l.after_palette l.after) l.fn.out) l.fn.out l.out l.start

abbrev pub invariant-loop-p : goal.invariant-loop-p
invariant-loop-p l =
    let pixel = pixel_up_to (length l.before) l.palettes l.indices l.count in
    Painted (place_of pixel (view_of l.palette l.before) (view_of l.after_palette l.after) l.fn.out) l.fn.out l.out l.p
