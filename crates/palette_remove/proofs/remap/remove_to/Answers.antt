-- `remove_to`: 16, or the list and the edit. Assumes nothing.
use mathlib.Core.Path.{◌≡◌}
use native.Mathlib.Omega.{arith}
use borrow.Author.Rules.{rules}
use lib.IntN.{pos}
use lib.ListN.{length}
use Rattle.edit_pixels.specs.Listing.{places_from}
use Rattle.palette_model.proofs.RemoveAnswers.{remove-short, remove-done}
use Rattle.palette_model.proofs.Rows.{as-entry}
use Rattle.palette_remove.proofs.remap.remove_to.Goals as goal
use Rattle.palette_remove.proofs.remap.remove_to.Goals.{After-count_on-count}

-- the pixels on the entry are counted
counted : (c : After-count_on-count) → let a = c.args in c.count_on-count.result ≡ length (places_from (pos a.index) 0 a.indices.now)
counted c = rw (as-entry (omega (arith, c.requires)) c.as_index.ensures) at c.count_on-count.ensures

pub returns-then-list-count : goal.returns-then-list-count
returns-then-list-count c = remove-short _ _ _ _ _ _ _ (rw (counted (goal.at.returns-then-list-count c).After-count_on-count) at c.if-list-count.true)

pub list_rows-requires : goal.list_rows-requires
list_rows-requires c = let n = counted (goal.at.list_rows-requires c).After-count_on-count in search rules

pub returns : goal.returns
returns c = remove-done _ _ _ _ _ _ _ _ _ _ _ (counted (goal.at.returns c).After-count_on-count) c.if-list-count.false c.rgb_at-rgb.ensures c.no_lab-lab.ensures c.list_rows.ensures
