-- `count_on`: n of the pixels so far are on the index. Assumes nothing.
use borrow.Author.Rules.{rules}
use mir.Facts.{to_z-of_z}
use Rattle.edit_pixels.proofs.Same.{same-true, same-false}
use Rattle.edit_pixels.proofs.Places.{counting-none, counting-hit, counting-miss, counting-all}
use Rattle.edit_pixels.proofs.listing.count_on.Goals as goal
use Rattle.edit_pixels.proofs.listing.count_on.Goals.{then-z-index, else-z-index}

pub loop-z-init : goal.loop-z-init
loop-z-init c = counting-none _ _

pub returns : goal.returns
returns c = rw (to_z-of_z c.ranges.index) at (counting-all c.loop-z.invariant c.loop-z-test.false)

pub loop-z-preserved : goal.loop-z-preserved
loop-z-preserved c =
    let index = to_z-of_z c.ranges.index in
    elim c.if-z-index.branch [
      | then-z-index w ↦ rw w.n-is (counting-hit c.loop-z.invariant c.loop-z-test.true (rw index (same-true w.if-z-index.true (search rules) c.ranges.index)))
      | else-z-index w ↦ rw w.n-is (counting-miss c.loop-z.invariant c.loop-z-test.true (rw index (same-false w.if-z-index.false (search rules) c.ranges.index)))
    ]
