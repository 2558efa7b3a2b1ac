-- `list_row`: n of the pixels so far are on the index, and their changes are listed. Assumes nothing.
use Prim.Native.Nat.{◌<◌, ◌≤◌}
use native.Mathlib.Omega.{arith}
use borrow.Author.Rules.{rules}
use mir.Syntax.{w16}
use mir.Val.{to_z, of_z}
use mir.Facts.{to_z-of_z}
use lib.ListN.{length}
use Rattle.edit_pixels.specs.Listing.{places_from}
use Rattle.edit_pixels.proofs.Same.{same-true, same-false}
use Rattle.edit_pixels.proofs.Places.{listing_none, listing-room, listing_hit, listing_miss, listing-all, counting-all}
use Rattle.edit_pixels.proofs.listing.list_row.Goals as goal
use Rattle.edit_pixels.proofs.listing.list_row.Goals.{then-z-index, else-z-index}
use Rattle.edit_pixels.proofs.listing.list_row.Goals.{Start, Then-z-index}

-- the room where the pixel has the index
fits : (c : Start) → length (places_from (to_z w16 (of_z w16 c.args.index)) 0 c.args.row.now) ≤ length c.args.list.now
fits c = rw (to_z-of_z c.ranges.index) c.requires.1

room : (c : Then-z-index) → c.loop-x.n < length c.loop-x.list
room c =
    listing-room c.loop-x.invariant (fits (goal.at.Then-z-index c).Start) c.loop-x-test.true (rw (to_z-of_z c.ranges.index) (same-true c.if-z-index.true (search rules) c.ranges.index))

pub loop-x-init : goal.loop-x-init
loop-x-init c = listing_none _ _ _ _

pub offset_bounds-list-n : goal.offset_bounds-list-n
offset_bounds-list-n c = omega (arith, room c)

pub bounds-list-n : goal.bounds-list-n
bounds-list-n c = room c

pub returns : goal.returns
returns c =
    let index = to_z-of_z c.ranges.index in
    (rw index at (counting-all c.loop-x.invariant.counted c.loop-x-test.false), rw index at (listing-all c.loop-x.invariant c.loop-x-test.false))

pub loop-x-preserved : goal.loop-x-preserved
loop-x-preserved c =
    let index = to_z-of_z c.ranges.index in
    elim c.if-z-index.branch [
      | then-z-index w ↦ rw w.n-is (listing_hit c.loop-x.invariant _ (fits (goal.at.loop-x-preserved c).Start) c.loop-x-test.true (rw index (same-true w.if-z-index.true (search rules) c.ranges.index)) w.list-is)
      | else-z-index w ↦ rw (w.list-is, w.n-is) (listing_miss c.loop-x.invariant c.loop-x-test.true (rw index (same-false w.if-z-index.false (search rules) c.ranges.index)))
    ]
