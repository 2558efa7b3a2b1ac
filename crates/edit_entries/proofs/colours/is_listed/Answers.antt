-- `is_listed`: whether one was met, and what is left, say what the whole list says. Assumes nothing.
use native.Mathlib.Omega.{arith}
use Rattle.edit_entries.proofs.Listed.{listing_none, listing-next, listing-all}
use Rattle.edit_entries.proofs.colours.is_listed.Goals as goal

pub loop-i-init : goal.loop-i-init
loop-i-init c = listing_none _ _

pub loop-i-preserved : goal.loop-i-preserved
loop-i-preserved c = listing-next c.loop-i.invariant (omega arith) c.has_rgb.ensures c.either-found.ensures

pub returns : goal.returns
returns c = listing-all c.loop-i.invariant (omega arith)
