-- `put_words`: the words of j slots so far. Assumes nothing.
use mathlib.Core.Path.{refl}
use Prim.Native.Nat.{◌<◌}
use native.Mathlib.Omega.{arith}
use lib.ListN.{length-take}
use lib.Seq.{get_or-take}
use Rattle.layer_word.proofs.Painted.{painted-none, painted-next}
use Rattle.layer_slot.proofs.Words.{word-four, word-here}
use Rattle.layer_slot.proofs.put_words.Goals as goal

pub loop-j-init : goal.loop-j-init
loop-j-init c = painted-none _ _

pub loop-j-preserved : goal.loop-j-preserved
loop-j-preserved c =
    let slots = c.args.slots.now in
    let h : c.loop-j.j < c.args.m = omega (arith, length-take c.args.m slots) in
    painted-next _ _ _ (λ p h. word-four _ _ p) c.requires.3 c.loop-j.invariant h _ _ c.put_u32.ensures
    (word-here _ slots _ _ _ (get_or-take c.args.m slots c.loop-j.j 0 h) refl)
